-- A running transaction's updates that no compensation names are a stack: an update is put on it, a compensation takes the top.
use Rattle.std.proofs.Common.{◌≡◌, ◌≢◌, ◌⊎◌, inl, inr, ℕ, true, false, ◌==◌, ◌&&◌, if◌then◌else◌, [], ◌∷◌, refl, sym, ap, ◌∙◌, subst, arith}
use Rattle.std.proofs.lemmas.Bool.Decides.{eqb_tells, nat_tests}
use Rattle.persist_model.specs.Records.{Record, Log, IsAmong, HasNo, IsUpdate, IsCompensation, IsRunning}
use Rattle.persist_model.specs.Standing.{IsEarliest}
use Rattle.persist_model.specs.Order.{is_kind_of, undo_point, last_new, UndoesWell, IsNextToUndo, Compensates, FollowEach}
use Rattle.persist_model.specs.Need.{to_undo}
use Rattle.log_laws.proofs.Standings.{AreNumbered}
use Rattle.log_laws.proofs.Growing.{Descends}

-- the number of the first, or 0
abbrev pub top_lsn : Log → ℕ
top_lsn [] = 0
top_lsn (u ∷ stack) = u.lsn

-- the NEW of the first that names a, or d
abbrev pub top_new : ℕ → ℕ → Log → ℕ
top_new a d [] = d
top_new a d (u ∷ stack) = if u.word == a then u.after else top_new a d stack

-- the OLD of t's earliest update of a, or d
abbrev pub first_old : ℕ → ℕ → ℕ → Log → ℕ
first_old t a d [] = d
first_old t a d (r ∷ earlier) = first_old t a (if is_kind_of t 1 r && (r.word == a) then r.before else d) earlier

-- the update u stands on this stack
pub record IsPushed (t : ℕ) (log : Log) (u : Record) (stack : Log) : Type 0 where
  pub among : IsAmong log u
  pub update : IsUpdate u
  pub owner : u.transaction ≡ t
  pub below : u.undo_next ≡ top_lsn stack
  pub before : (d : ℕ) → u.before ≡ top_new u.word (first_old t u.word d log) stack

abbrev pub IsStack : ℕ → Log → Log → Type 0
IsStack t log [] = Unit {0}
IsStack t log (u ∷ stack) = IsPushed t log u stack × IsStack t log stack

-- The stack of t: its top is the undo point, and it gives the last NEW of each word.
pub record HasStack (t : ℕ) (log : Log) : Type 0 where
  pub stack : IsStack t log (to_undo t log)
  pub point : undo_point t log ≡ top_lsn (to_undo t log)
  pub after : (a d : ℕ) → last_new t a d log ≡ top_new a (first_old t a d log) (to_undo t log)

-- what a record is to t
pub data IsTo (t : ℕ) (r : Record) : Type 0 where
  updates : is_kind_of t 1 r ≡ true → IsUpdate r → r.transaction ≡ t → IsTo t r
  compensates : is_kind_of t 1 r ≡ false → is_kind_of t 2 r ≡ true → IsCompensation r → r.transaction ≡ t → IsTo t r
  neither : is_kind_of t 1 r ≡ false → is_kind_of t 2 r ≡ false → ((r.transaction ≡ t) → (r.kind ≢ 1) × (r.kind ≢ 2)) → IsTo t r

pub is_to : (t : ℕ) (r : Record) → IsTo t r
is_to t r = elim (eqb_tells r.transaction t) [
  | inr other ↦ neither (rw other.0 refl) (rw other.0 refl) (λ e. absurd (other.1 e))
  | inl own ↦ elim (eqb_tells r.kind 1) [
    | inl one ↦ updates (rw (own.0, one.0) refl) one.1 own.1
    | inr not_one ↦ elim (eqb_tells r.kind 2) [
      | inl two ↦ compensates (rw (own.0, not_one.0) refl) (rw (own.0, two.0) refl) two.1 own.1
      | inr not_two ↦ neither (rw (own.0, not_one.0) refl) (rw (own.0, not_two.0) refl) (λ _. (not_one.1, not_two.1))
    ]
  ]
]

stack_on : (t : ℕ) (r : Record) (log stack : Log) → IsStack t log stack → IsStack t (r ∷ log) stack
stack_on t r log [] h = h
stack_on t r log (u ∷ stack) h = (
  record {
    among = inr h.0.among;
    update = h.0.update;
    owner = h.0.owner;
    below = h.0.below;
    before = λ d. h.0.before (if is_kind_of t 1 r && (r.word == u.word) then r.before else d);
  },
  stack_on t r log stack h.1,
)

same_test : (a : ℕ) → (a == a) ≡ true
same_test a = grind (arith, nat_tests)

stack_updated : (t : ℕ) (r : Record) (log : Log) → is_kind_of t 1 r ≡ true → IsUpdate r → r.transaction ≡ t → UndoesWell log r → HasStack t log → HasStack t (r ∷ log)
stack_updated t r log is update owner well h = record {
  stack = rw is (
    record {
      among = inl refl;
      update = update;
      owner = owner;
      below = subst (λ x. r.undo_next ≡ undo_point x log) owner (well.undo_next update) ∙ h.point;
      before = λ d. rw (is, same_test r.word) (subst (λ x. r.before ≡ last_new x r.word r.before log) owner (well.before update) ∙ h.after r.word r.before);
    },
    stack_on t r log (to_undo t log) h.stack,
  );
  point = rw is refl;
  after = λ a d. elim (eqb_tells r.word a) [
    | inl e ↦ (rw (is, e.0) refl)
    | inr ne ↦
        let same : (if true && (r.word == a) then r.before else d) ≡ d = rw ne.0 refl in
        rw (is, ne.0) (h.after a d ∙ ap (λ x. top_new a (first_old t a x log) (to_undo t log)) (sym same))
  ];
}

-- the compensation of the top takes it off
pub top_compensated : (t : ℕ) (c u top : Record) (log stack : Log) → AreNumbered log → IsPushed t log top stack →
    undo_point t log ≡ top.lsn → IsNextToUndo t log u → u ≡ top
top_compensated t c u top log stack apart pushed point next = apart u top next.among pushed.among (next.point ∙ point)

stack_compensated : (t : ℕ) (c u top : Record) (log stack : Log) → is_kind_of t 1 c ≡ false → is_kind_of t 2 c ≡ true → u ≡ top → Compensates c u →
    to_undo t log ≡ top ∷ stack → IsStack t log (top ∷ stack) →
    ((a d : ℕ) → last_new t a d log ≡ top_new a (first_old t a d log) (top ∷ stack)) → HasStack t (c ∷ log)
stack_compensated t c u top log stack not_one two same comp shape h follows = record {
  stack = rw (not_one, two, shape) (stack_on t c log stack h.1);
  point = rw (not_one, two, shape) (comp.undo_next ∙ ap (λ (x : Record). x.undo_next) same ∙ h.0.below);
  after = λ a d. elim (eqb_tells c.word a) [
    | inl e ↦ rw (not_one, two, e.0, shape) (
        let word : top.word ≡ a = sym (comp.word ∙ ap (λ (x : Record). x.word) same) ∙ e.1 in
        comp.after ∙ ap (λ (x : Record). x.before) same ∙ subst (λ x. top.before ≡ top_new x (first_old t x d log) stack) word (h.0.before d))
    | inr ne ↦ rw (not_one, two, ne.0, shape) (
        let other : (top.word == a) ≡ false = subst (λ x. (x == a) ≡ false) (comp.word ∙ ap (λ (x : Record). x.word) same) ne.0 in
        follows a d ∙ (rw other refl))
  ];
}

-- each running transaction of a log in order has its stack
pub has_stack : (part : ℕ → ℕ) (t : ℕ) (all log : Log) → IsRunning all t → AreNumbered log → ((r : Record) → IsAmong log r → r.lsn ≢ 0) →
    FollowEach part all log → HasStack t log
has_stack part t all [] running apart nonzero f = record { stack = tt; point = refl; after = λ a d. refl }
has_stack part t all (r ∷ log) running apart nonzero f = by_kind (is_to t r)
    (has_stack part t all log running (λ x y m k. apart x y (inr m) (inr k)) (λ x m. nonzero x (inr m)) f.1)
  where
    well : r.transaction ≡ t → r.kind ≢ 5 → UndoesWell log r
    well e ne = f.0.undo ne (subst (λ x. IsRunning all x) (sym e) running)

    on_stack : (stack : Log) → to_undo t log ≡ stack → is_kind_of t 1 r ≡ false → is_kind_of t 2 r ≡ true → IsCompensation r → r.transaction ≡ t →
        HasStack t log → HasStack t (r ∷ log)
    on_stack [] shape not_one two comp owner h =
        let c = (well owner (λ e. absurd (omega (arith, comp, e)))).compensates comp in
        absurd (nonzero c.0 (inr c.1.among) (c.1.point ∙ ap (λ x. undo_point x log) owner ∙ h.point ∙ ap top_lsn shape))
    on_stack (top ∷ stack) shape not_one two comp owner h =
        let c = (well owner (λ e. absurd (omega (arith, comp, e)))).compensates comp in
        let s : IsStack t log (top ∷ stack) = subst (λ x. IsStack t log x) shape h.stack in
        let point : undo_point t log ≡ top.lsn = h.point ∙ ap top_lsn shape in
        let same : c.0 ≡ top = apart c.0 top (inr c.1.among) (inr s.0.among) (c.1.point ∙ ap (λ x. undo_point x log) owner ∙ point) in
        stack_compensated t r c.0 top log stack not_one two same c.2 shape s (λ a d. h.after a d ∙ ap (top_new a (first_old t a d log)) shape)

    by_kind : IsTo t r → HasStack t log → HasStack t (r ∷ log)
    by_kind (updates is update owner) h = stack_updated t r log is update owner (well owner (λ e. absurd (omega (arith, update, e)))) h
    by_kind (compensates not_one two comp owner) h = on_stack (to_undo t log) refl not_one two comp owner h
    by_kind (neither not_one not_two none) h = record {
      stack = rw (not_one, not_two) (stack_on t r log (to_undo t log) h.stack);
      point = rw (not_one, not_two) h.point;
      after = λ a d. rw (not_one, not_two) (h.after a d);
    }

-- ---- the earliest update

abbrev pub IsUpdateBy : ℕ → ℕ → Record → Type 0
IsUpdateBy t a r = IsUpdate r × (r.word ≡ a) × (r.transaction ≡ t)

pub update_test : (t a : ℕ) (r : Record) → ((is_kind_of t 1 r && (r.word == a)) ≡ true) × IsUpdateBy t a r ⊎ ((is_kind_of t 1 r && (r.word == a)) ≡ false) × (IsUpdateBy t a r → ⊥)
update_test t a r = elim (eqb_tells r.transaction t) [
  | inr other ↦ inr ((rw other.0 refl), λ h. other.1 h.2)
  | inl own ↦ elim (eqb_tells r.kind 1) [
    | inr not_one ↦ inr ((rw (own.0, not_one.0) refl), λ h. not_one.1 h.0)
    | inl one ↦ elim (eqb_tells r.word a) [
      | inl word ↦ inl ((rw (own.0, one.0, word.0) refl), (one.1, word.1, own.1))
      | inr ne ↦ inr ((rw (own.0, one.0, ne.0) refl), λ h. ne.1 h.1)
    ]
  ]
]

pub first_old_none : (t a d : ℕ) (log : Log) → HasNo (IsUpdateBy t a) log → first_old t a d log ≡ d
first_old_none t a d [] none = refl
first_old_none t a d (r ∷ log) none = elim (update_test t a r) [
  | inl h ↦ absurd (none r (inl refl) h.1)
  | inr h ↦ (rw h.0 (first_old_none t a d log (λ s m. none s (inr m))))
]

pub first_old_is : (t a d : ℕ) (log : Log) (u : Record) → Descends log → IsEarliest (IsUpdateBy t a) log u → first_old t a d log ≡ u.before
first_old_is t a d [] u falls h = absurd h.among
first_old_is t a d (r ∷ log) u falls h = by_place (λ m x. first_old_is t a x log u falls.1 (record { among = m; has = h.has; first = λ s k. h.first s (inr k) })) h.among
  where
    by_place : (IsAmong log u → (x : ℕ) → first_old t a x log ≡ u.before) → (u ≡ r) ⊎ IsAmong log u → first_old t a d (r ∷ log) ≡ u.before
    by_place again (inr m) = again m _
    by_place again (inl e) = elim (update_test t a r) [
      | inr k ↦ absurd (k.1 (subst (λ x. IsUpdateBy t a x) e h.has))
      | inl k ↦ (rw k.0 (first_old_none t a r.before log (λ s m p.
          let le = h.first s (inr m) p in let lt = falls.0 s m in let same : u.lsn ≡ r.lsn = ap (λ (x : Record). x.lsn) e in absurd (omega (arith, le, lt, same)))
          ∙ ap (λ (x : Record). x.before) (sym e)))
    ]
