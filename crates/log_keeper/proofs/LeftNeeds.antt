-- The need of a log from which records are taken.
use Rattle.std.proofs.Common.{◌≡◌, ◌≢◌, inl, inr, ℕ, ◌+◌, ◌==◌, Bool, true, false, not, ◌&&◌, ◌||◌, if◌then◌else◌, List, [], ◌∷◌, length, refl, sym, ap, ◌∙◌, arith}
use Rattle.std.proofs.lemmas.Bool.Decides.{eqb_tells, nat_tests}
use Rattle.persist_model.specs.Kinds.{CHECKPOINT, DELETION}
use Rattle.persist_model.specs.Records.{Record, Log, IsAmong, IsOf, IsDeletion, IsEnded, IsRunning}
use Rattle.persist_model.specs.Order.{is_kind_of}
use Rattle.persist_model.specs.Need.{rest, to_undo, has_kind_of, need_of, is_of, has_of, need_at, sum_over, need_in}
use Rattle.persist_model.specs.Shape.{Shape, part_of}
use Rattle.log_laws.proofs.Deciding.{ended_or_running}
use Rattle.log_laws.proofs.Needs.{of_test, has_kind_true}
use Rattle.log_clearing.specs.Closed.{IsListed}
use Rattle.log_keeper.specs.Ledger.{is_listed, left_open}
use Rattle.log_keeper.specs.Newest.{AreOver}
use Rattle.log_keeper.specs.Needs.{ClosingsNeed, AreTakenBack, TakingsBackNeed}
use Rattle.log_keeper.proofs.Groups.{listed_told, listed_found, not_true}
use Rattle.log_keeper.proofs.Progressing.{only_gates}

no_kind : (t kind : ℕ) (r : Record) → kind ≢ CHECKPOINT → (IsOf t r → ⊥) → is_kind_of t kind r ≡ false
no_kind t kind r ne none = elim (eqb_tells r.transaction t) [
  | inr other ↦ (rw other.0 refl)
  | inl own ↦ elim (eqb_tells r.kind kind) [
    | inr other ↦ (rw (own.0, other.0) refl)
    | inl same ↦ absurd (none (own.1, λ five. ne (sym same.1 ∙ five)))
  ]
]

other_kind : (t kind : ℕ) (r : Record) → r.kind ≢ kind → is_kind_of t kind r ≡ false
other_kind t kind r ne = elim (eqb_tells r.transaction t) [
  | inl own ↦ elim (eqb_tells r.kind kind) [ inl same ↦ absurd (ne same.1) | inr off ↦ (rw (own.0, off.0) refl) ]
  | inr other ↦ (rw other.0 refl)
]

not_of : (t : ℕ) (r : Record) → (IsOf t r → ⊥) → is_of t r ≡ false
not_of t r none = elim (of_test t r) [ inl h ↦ absurd (none h.1) | inr h ↦ h.0 ]

-- a row that is computed record by record, from which records go that add nothing to it
module _ (gates ends checkpoints : List ℕ) where
  abbrev listed : Record → Bool
  listed r = is_listed gates ends checkpoints r.at

  abbrev left : Log → Log
  left log = left_open gates ends checkpoints log

  left_fold : {A : Type 0} (F : Log → A) (f : Record → A → A) → ((x : Record) (log : Log) → F (x ∷ log) ≡ f x (F log)) → (log : Log) →
      ((r : Record) → IsAmong log r → listed r ≡ true → (z : A) → f r z ≡ z) → F (left log) ≡ F log
  left_fold F f step [] none = refl
  left_fold F f step (r ∷ log) none = by (listed r) refl (left_fold F f step log (λ x m on. none x (inr m) on))
    where
      by : (t : Bool) → listed r ≡ t → F (left log) ≡ F log → F (if t then left log else r ∷ left log) ≡ F (r ∷ log)
      by true on same = same ∙ sym (step r log ∙ none r (inl refl) on (F log))
      by false off same = step r (left log) ∙ ap (f r) same ∙ sym (step r log)

  left_among : (log : Log) (r : Record) → IsAmong log r → listed r ≡ false → IsAmong (left log) r
  left_among [] r m off = m
  left_among (x ∷ log) r (inl e) off = let here : listed x ≡ false = ap listed (sym e) ∙ off in rw here (inl e)
  left_among (x ∷ log) r (inr m) off = by (listed x) (left_among log r m off)
    where
      by : (t : Bool) → IsAmong (left log) r → IsAmong (if t then left log else x ∷ left log) r
      by true k = k
      by false k = inr k

  kind_left : (t kind : ℕ) (log : Log) → ((r : Record) → IsAmong log r → listed r ≡ true → is_kind_of t kind r ≡ false) → has_kind_of t kind (left log) ≡ has_kind_of t kind log
  kind_left t kind log none = left_fold (has_kind_of t kind) (λ x b. is_kind_of t kind x || b) (λ x l. refl) log (λ r m on z. ap (λ b. b || z) (none r m on))

  undo_left : (t : ℕ) (log : Log) → ((r : Record) → IsAmong log r → listed r ≡ true → (is_kind_of t 1 r ≡ false) × (is_kind_of t 2 r ≡ false)) → to_undo t (left log) ≡ to_undo t log
  undo_left t log none = left_fold (to_undo t) (λ x stack. if is_kind_of t 1 x then x ∷ stack else (if is_kind_of t 2 x then rest stack else stack)) (λ x l. refl) log
      (λ r m on z. (let k = none r m on in rw (k.0, k.1) refl))

  of_left : (t : ℕ) (log : Log) → ((r : Record) → IsAmong log r → listed r ≡ true → is_of t r ≡ false) → has_of t (left log) ≡ has_of t log
  of_left t log none = left_fold (has_of t) (λ x b. is_of t x || b) (λ x l. refl) log (λ r m on z. ap (λ b. b || z) (none r m on))

  abbrev need_by : Bool → Bool → ℕ → ℕ
  need_by ended rolled count = if ended then 0 else (if rolled then 0 else 1) + (count + 1)

  need_left : (t : ℕ) (log : Log) → ((r : Record) → IsAmong log r → listed r ≡ true → (kind : ℕ) → kind ≢ CHECKPOINT → kind ≢ DELETION → is_kind_of t kind r ≡ false) → need_of (left log) t ≡ need_of log t
  need_left t log none =
      let ended = kind_left t 4 log (λ r m on. none r m on 4 (omega arith) (omega arith)) in
      let rolled = kind_left t 3 log (λ r m on. none r m on 3 (omega arith) (omega arith)) in
      let count = ap length (undo_left t log (λ r m on. (none r m on 1 (omega arith) (omega arith), none r m on 2 (omega arith) (omega arith)))) in
      λ i. need_by (ended i) (rolled i) (count i)

  -- ---- records of ended transactions

  module _ (part : ℕ → ℕ) (p : ℕ) (all : Log) (over : AreOver all (IsListed gates ends checkpoints)) where
    running_none : (t : ℕ) → IsRunning all t → (r : Record) → IsAmong all r → listed r ≡ true → IsOf t r → ⊥
    running_none t running r m on of = elim (over.ended r m (listed_found gates ends checkpoints r.at on)) [
      | inl five ↦ of.1 five
      | inr e ↦ running e.0 e.1 (e.2.0, e.2.1 ∙ of.0)
    ]

    need_ended : (t : ℕ) (log : Log) → IsEnded log t → need_of log t ≡ 0
    need_ended t log e = rw (has_kind_true t 4 log (e.0, e.1, (e.2.0, e.2.1))) refl

    counted_zero : (f : ℕ → ℕ) (r : Record) (log : Log) → f r.transaction ≡ 0 → need_at part p f r log ≡ 0
    counted_zero f r log zero = by (not (r.kind == CHECKPOINT) && (not (has_of r.transaction log) && (part r.at == p)))
      where
        by : (t : Bool) → (if t then f r.transaction else 0) ≡ 0
        by true = zero
        by false = refl

    counted_none : (f : ℕ → ℕ) (r : Record) (log : Log) → r.kind ≡ CHECKPOINT → need_at part p f r log ≡ 0
    counted_none f r log five = let on : (r.kind == CHECKPOINT) ≡ true = grind (arith, nat_tests) in rw on refl

    listed_zero : (r : Record) (log : Log) → IsAmong all r → listed r ≡ true → need_at part p (need_of all) r log ≡ 0
    listed_zero r log m on = elim (over.ended r m (listed_found gates ends checkpoints r.at on)) [
      | inl five ↦ counted_none (need_of all) r log five
      | inr e ↦ counted_zero (need_of all) r log (need_ended r.transaction all e)
    ]

    -- where the end of an open record's transaction is, it is open too
    end_stays : (r : Record) → IsAmong all r → listed r ≡ false → r.kind ≢ CHECKPOINT → IsEnded all r.transaction → IsEnded (left all) r.transaction
    end_stays r m off plain e = (
      e.0,
      left_among all e.0 e.1 (not_true (listed e.0) (λ on. (
          let r_on = listed_told gates ends checkpoints r.at (over.whole e.0 e.1 (listed_found gates ends checkpoints e.0.at on) e.2.0 r m (sym e.2.1, plain)) in
          let f : true ≡ false = sym r_on ∙ off in cc))),
      e.2,
    )

    open_alike : (r : Record) (log : Log) → IsAmong all r → ((x : Record) → IsAmong log x → IsAmong all x) → listed r ≡ false →
        need_at part p (need_of (left all)) r (left log) ≡ need_at part p (need_of all) r log
    open_alike r log m inside off = elim (eqb_tells r.kind CHECKPOINT) [
      | inl five ↦ (counted_none (need_of (left all)) r (left log) five.1 ∙ sym (counted_none (need_of all) r log five.1))
      | inr plain ↦ elim (ended_or_running all r.transaction) [
        | inl e ↦ (counted_zero (need_of (left all)) r (left log) (need_ended r.transaction (left all) (end_stays r m off plain.1 e)) ∙ sym (counted_zero (need_of all) r log (need_ended r.transaction all e)))
        | inr running ↦ (
            let none = running_none r.transaction running in
            let same = of_left r.transaction log (λ x k on. not_of r.transaction x (none x (inside x k) on)) in
            let need = need_left r.transaction all (λ x k on kind five six. no_kind r.transaction kind x five (none x k on)) in
            λ i. if not (r.kind == CHECKPOINT) && (not (same i) && (part r.at == p)) then need i else 0)
      ]
    ]

    sum_closed : (log : Log) → ((x : Record) → IsAmong log x → IsAmong all x) → sum_over part p (need_of (left all)) (left log) ≡ sum_over part p (need_of all) log
    sum_closed [] inside = refl
    sum_closed (r ∷ log) inside = by (listed r) refl (sum_closed log (λ x m. inside x (inr m)))
      where
        by : (t : Bool) → listed r ≡ t → sum_over part p (need_of (left all)) (left log) ≡ sum_over part p (need_of all) log →
            sum_over part p (need_of (left all)) (if t then left log else r ∷ left log) ≡ sum_over part p (need_of all) (r ∷ log)
        by true on same = let zero = listed_zero r log (inside r (inl refl)) on in omega (arith, same, zero)
        by false off same = let first = open_alike r log (inside r (inl refl)) (λ x m. inside x (inr m)) off in omega (arith, same, first)

pub closings_need : ClosingsNeed
closings_need shape p log gates ends checkpoints over = sum_closed gates ends checkpoints (part_of shape) p log over log (λ x m. m)

-- ---- deletions that are taken back

-- the log without the records of t
abbrev stripped : ℕ → Log → Log
stripped t [] = []
stripped t (r ∷ log) = if is_of t r then stripped t log else r ∷ stripped t log

-- what t's number adds
abbrev own_part : ℕ → ℕ → (ℕ → ℕ) → ℕ → Bool → ℕ
own_part p q f t has = if has then (if q == p then f t else 0) else 0

of_stripped : (t u : ℕ) (log : Log) → u ≢ t → has_of u (stripped t log) ≡ has_of u log
of_stripped t u [] ne = refl
of_stripped t u (r ∷ log) ne = elim (of_test t r) [
  | inl own ↦ (
      let off : is_of u r ≡ false = not_of u r (λ of. ne (sym of.0 ∙ own.1.0)) in
      rw (own.0, off) (of_stripped t u log ne))
  | inr other ↦ (rw other.0 (ap (λ b. is_of u r || b) (of_stripped t u log ne)))
]

module _ (part : ℕ → ℕ) (p q t : ℕ) (f : ℕ → ℕ) where
  first_own : (r : Record) (log : Log) (has : Bool) → (r.kind == CHECKPOINT) ≡ false → r.transaction ≡ t → has_of t log ≡ has → part r.at ≡ q →
      need_at part p f r log + own_part p q f t has ≡ own_part p q f t true
  first_own r log has plain own is at =
      let test : need_at part p f r log ≡ (if not has && (q == p) then f t else 0) = (λ i. if not (plain i) && (not ((ap (λ u. has_of u log) own ∙ is) i) && (at i == p)) then f (own i) else 0) in
      by has (q == p) test
    where
      by : (has here : Bool) → need_at part p f r log ≡ (if not has && here then f t else 0) → need_at part p f r log + (if has then (if here then f t else 0) else 0) ≡ (if here then f t else 0)
      by true here e = let zero = e in omega (arith, zero)
      by false true e = omega (arith, e)
      by false false e = omega (arith, e)

  split : (log : Log) → ((x : Record) → IsAmong log x → IsOf t x → part x.at ≡ q) → sum_over part p f log ≡ sum_over part p f (stripped t log) + own_part p q f t (has_of t log)
  split [] here = refl
  split (r ∷ log) here = elim (of_test t r) [
    | inl own ↦ (
        let again = split log (λ x m. here x (inr m)) in
        let first = first_own r log (has_of t log) own.2 own.1.0 refl (here r (inl refl) own.1) in
        rw own.0 (omega (arith, again, first)))
    | inr other ↦ (
        let again = split log (λ x m. here x (inr m)) in
        let same : need_at part p f r (stripped t log) ≡ need_at part p f r log = elim (eqb_tells r.kind CHECKPOINT) [
          | inl five ↦ (rw five.0 refl)
          | inr plain ↦ elim other.1 [
            | inl five ↦ absurd (let off = plain.0 in cc)
            | inr ne ↦ ap (λ b. if not (r.kind == CHECKPOINT) && (not b && (part r.at == p)) then f r.transaction else 0) (of_stripped t r.transaction log ne)
          ]
        ] in
        rw other.0 (omega (arith, again, same)))
  ]

module _ (gates : List ℕ) (t : ℕ) where
  stripped_left : (log : Log) → ((r : Record) → IsAmong log r → is_listed gates [] [] r.at ≡ true → is_of t r ≡ true) → stripped t (left_open gates [] [] log) ≡ stripped t log
  stripped_left [] own = refl
  stripped_left (r ∷ log) own = by (is_listed gates [] [] r.at) refl (stripped_left log (λ x m on. own x (inr m) on))
    where
      by : (b : Bool) → is_listed gates [] [] r.at ≡ b → stripped t (left_open gates [] [] log) ≡ stripped t log →
          stripped t (if b then left_open gates [] [] log else r ∷ left_open gates [] [] log) ≡ stripped t (r ∷ log)
      by true on same = let mine = own r (inl refl) on in rw mine same
      by false off same = ap (λ l. if is_of t r then l else r ∷ l) same

  back_among : (log : Log) (r : Record) → IsAmong (left_open gates [] [] log) r → IsAmong log r
  back_among [] r m = m
  back_among (x ∷ log) r m = by (is_listed gates [] [] x.at) (λ k. back_among log r k) m
    where
      by : (b : Bool) → (IsAmong (left_open gates [] [] log) r → IsAmong log r) → IsAmong (if b then left_open gates [] [] log else x ∷ left_open gates [] [] log) r → IsAmong (x ∷ log) r
      by true further k = inr (further k)
      by false further (inl e) = inl e
      by false further (inr k) = inr (further k)

module _ (shape : Shape) (t q : ℕ) (log : Log) (gates : List ℕ) (h : AreTakenBack shape log t q gates) where
  given : (r : Record) → IsAmong log r → is_listed gates [] [] r.at ≡ true → IsDeletion r × (r.transaction ≡ t)
  given r m on = h.deletions r m (only_gates gates r.at (listed_found gates [] [] r.at on))

  mine : (r : Record) → IsAmong log r → is_listed gates [] [] r.at ≡ true → is_of t r ≡ true
  mine r m on = let d = given r m on in elim (of_test t r) [
    | inl k ↦ k.0
    | inr k ↦ elim k.1 [
      | inl five ↦ absurd (let six = d.0 in let off : (r.kind == CHECKPOINT) ≡ false = grind (arith, nat_tests, six) in cc)
      | inr ne ↦ absurd (ne d.1)
    ]
  ]

  needs_same : (u : ℕ) → need_of (left_open gates [] [] log) u ≡ need_of log u
  needs_same u = need_left gates [] [] u log (λ r m on kind five six. other_kind u kind r (λ e. six (sym e ∙ (given r m on).0)))

  -- both sums, by what t adds
  sums : (p : ℕ) → need_in (part_of shape) p (left_open gates [] [] log) + own_part p q (need_of log) t true ≡
      need_in (part_of shape) p log + own_part p q (need_of log) t (has_of t (left_open gates [] [] log))
  sums p =
      let before = split (part_of shape) p q t (need_of log) log h.here in
      let later = split (part_of shape) p q t (need_of log) (left_open gates [] [] log) (λ x m of. h.here x (back_among gates t log x m) of) in
      let same : need_in (part_of shape) p (left_open gates [] [] log) ≡ sum_over (part_of shape) p (need_of log) (left_open gates [] [] log) =
      (λ i. sum_over (part_of shape) p (λ u. needs_same u i) (left_open gates [] [] log)) in
      let strip : sum_over (part_of shape) p (need_of log) (stripped t (left_open gates [] [] log)) ≡ sum_over (part_of shape) p (need_of log) (stripped t log) =
      ap (sum_over (part_of shape) p (need_of log)) (stripped_left gates t log mine) in
      let has : own_part p q (need_of log) t (has_of t log) ≡ own_part p q (need_of log) t true = ap (own_part p q (need_of log) t) h.some in
      omega (arith, before, later, same, strip, has)

pub takings_back_need : TakingsBackNeed
takings_back_need = record {
  some_left = λ shape p t q log gates h on. (
      let both = sums shape t q log gates h p in
      let own : own_part p q (need_of log) t (has_of t (left_open gates [] [] log)) ≡ own_part p q (need_of log) t true = ap (own_part p q (need_of log) t) on in
      omega (arith, both, own));
  none_left = λ shape t q log gates h off. (
      let both = sums shape t q log gates h q in
      let none : own_part q q (need_of log) t (has_of t (left_open gates [] [] log)) ≡ 0 = ap (own_part q q (need_of log) t) off in
      let whole : own_part q q (need_of log) t true ≡ need_of log t = (let same : (q == q) ≡ true = grind (arith, nat_tests) in ap (λ b. if b then need_of log t else 0) same) in
      omega (arith, both, none, whole));
  elsewhere = λ shape p t q log gates h ne. (
      let both = sums shape t q log gates h p in
      let off : (q == p) ≡ false = (let other : q ≢ p = (λ e. ne (sym e)) in grind (arith, nat_tests)) in
      let zero : (has : Bool) → own_part p q (need_of log) t has ≡ 0 = (λ has. ap (λ b. if has then (if b then need_of log t else 0) else 0) off ∙ none has) in
      let before = zero true in
      let later = zero (has_of t (left_open gates [] [] log)) in
      omega (arith, both, before, later));
}
  where
    none : (has : Bool) → ◌≡◌ {A = ℕ} (if has then 0 else 0) 0
    none true = refl
    none false = refl
