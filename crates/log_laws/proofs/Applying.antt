-- Each word has its standing value, or is to be undone: what comes to this, and what keeps it.
use Rattle.std.proofs.Common.{◌≡◌, ◌≢◌, ◌⊎◌, inl, inr, ℕ, Bool, true, false, ◌==◌, ◌&&◌, if◌then◌else◌, [], ◌∷◌, refl, sym, ap, ◌∙◌, subst, arith}
use Rattle.std.proofs.lemmas.Bool.Decides.{eqb_tells, nat_tests}
use Rattle.persist_model.specs.Region.{Words}
use Rattle.persist_model.specs.Records.{Record, Log, IsAmong, Has, HasNo, IsRunning, IsCheckpoint, IsLoser}
use Rattle.persist_model.specs.Standing.{IsToUndo, IsToDelete, IsToRedo, IsLatest, Stands, undone, deleted, redone, kept}
use Rattle.persist_model.specs.Order.{is_kind_of}
use Rattle.log_laws.specs.Closing.{IsApplied, MayClose, IsSublog, empty, goes, IsClosing}
use Rattle.log_laws.specs.Recovery.{AreApplied, HasDecidingRecord, IsStored}
use Rattle.log_laws.proofs.Deciding.{has_or_none, decide_to_undo, decide_to_delete, decide_to_redo, decide_equal, ended_or_running, IsDecided}
use Rattle.log_laws.proofs.Standings.{AreNumbered, stands_one, stands_some, stands_stored}
use Rattle.log_laws.proofs.Growing.{Descends, IsQuiet, IsAbove, stands_noted}
use Rattle.log_laws.proofs.Undoing.{IsGood, IsUndone, IsRollbackEnd, stands_ended, stands_checkpointed, undone_value}
use Rattle.log_laws.proofs.Stacks.{first_old, first_old_is}

-- what keeps the standing value keeps a word applied
pub applied_on : (policy : ℕ) (log later : Log) (w x : Words) (a : ℕ) → AreNumbered later → ((v : ℕ) → Stands policy log w a v → Stands policy later x a v) →
    x a ≡ w a → IsApplied policy log w a → IsApplied policy later x a
applied_on policy log later w x a apart on same applied v st =
    let s = stands_some policy log w a in
    stands_one policy later x a v s.0 apart st (on s.0 s.1) ∙ applied s.0 s.1 ∙ sym same

-- A step that keeps standing values, and the words, keeps all words applied, where none comes to be undone no more.
pub are_applied_on : (policy : ℕ) (log later : Log) (w : Words) → AreNumbered later → ((a v : ℕ) → Stands policy log w a v → Stands policy later w a v) →
    ((a : ℕ) → Has (IsToUndo log a) log → Has (IsToUndo later a) later ⊎ IsApplied policy later w a) → AreApplied policy log w → AreApplied policy later w
are_applied_on policy log later w apart on undo applied a = elim (applied a) [
  | inl u ↦ undo a u
  | inr k ↦ inr (applied_on policy log later w w a apart (on a) refl k)
]

-- ---- the stores of an undo

abbrev pub set_word : Words → ℕ → ℕ → Words
set_word w a v = λ b. if b == a then v else w b

-- the words after the OLD of each update of t was stored, newest first
abbrev pub undone_words : ℕ → Log → Words → Words
undone_words t [] w = w
undone_words t (r ∷ earlier) w = if is_kind_of t 1 r then undone_words t earlier (set_word w r.word r.before) else undone_words t earlier w

undone_is_first : (t : ℕ) (log : Log) (w : Words) (a : ℕ) → undone_words t log w a ≡ first_old t a (w a) log
undone_is_first t [] w a = refl
undone_is_first t (r ∷ log) w a = by_test (is_kind_of t 1 r) refl (undone_is_first t log (set_word w r.word r.before) a) (undone_is_first t log w a)
  where
    swap : (if a == r.word then r.before else w a) ≡ (if r.word == a then r.before else w a)
    swap = elim (eqb_tells a r.word) [
      | inl e ↦ (let f : (r.word == a) ≡ true = grind (arith, nat_tests) in rw (e.0, f) refl)
      | inr e ↦ (let f : (r.word == a) ≡ false = grind (arith, nat_tests) in rw (e.0, f) refl)
    ]

    by_test : (b : Bool) → is_kind_of t 1 r ≡ b → undone_words t log (set_word w r.word r.before) a ≡ first_old t a (set_word w r.word r.before a) log →
        undone_words t log w a ≡ first_old t a (w a) log →
        (if b then undone_words t log (set_word w r.word r.before) else undone_words t log w) a ≡ first_old t a (if b && (r.word == a) then r.before else w a) log
    by_test true is yes_is no_is = yes_is ∙ ap (λ d. first_old t a d log) swap
    by_test false is yes_is no_is = no_is

-- the undo of t leaves each word that t updated with its first OLD
pub undone_stored : (t : ℕ) (log : Log) (w : Words) → Descends log → IsStored t log (undone_words t log w)
undone_stored t log w falls a u first = undone_is_first t log w a ∙ first_old_is t a (w a) log u falls first

-- ---- the stores of the redo pass, oldest first

-- the words after the changes of this part of the log that are to be redone
abbrev pub redone_words : ℕ → Log → Log → Words → Words
redone_words policy all [] w = w
redone_words policy all (r ∷ earlier) w =
    elim (decide_to_redo policy all r.word r) [ inl k ↦ set_word (redone_words policy all earlier w) r.word r.after | inr k ↦ redone_words policy all earlier w ]

-- and after its deferred deletions
abbrev pub deleted_words : Log → Log → Words → Words
deleted_words all [] w = w
deleted_words all (r ∷ earlier) w =
    elim (decide_to_delete all r.word r) [ inl k ↦ set_word (deleted_words all earlier w) r.word 0 | inr k ↦ deleted_words all earlier w ]

set_same : (w : Words) (a b v : ℕ) → b ≡ a → set_word w a v b ≡ v
set_same w a b v e = let t : (b == a) ≡ true = grind (arith, nat_tests) in rw t refl

set_other : (w : Words) (a b v : ℕ) → b ≢ a → set_word w a v b ≡ w b
set_other w a b v ne = let t : (b == a) ≡ false = grind (arith, nat_tests) in rw t refl

redone_none : (policy : ℕ) (all log : Log) (w : Words) (a : ℕ) → HasNo (IsToRedo policy all a) log → redone_words policy all log w a ≡ w a
redone_none policy all [] w a nothing = refl
redone_none policy all (r ∷ log) w a nothing = go (decide_to_redo policy all r.word r) (redone_none policy all log w a (λ s m. nothing s (inr m)))
  where
    go : (d : IsDecided (IsToRedo policy all r.word r)) → redone_words policy all log w a ≡ w a →
        (elim d as (λ _. Words) [ inl k ↦ set_word (redone_words policy all log w) r.word r.after | inr k ↦ redone_words policy all log w ]) a ≡ w a
    go (inl k) again = set_other (redone_words policy all log w) r.word a r.after (λ e. nothing r (inl refl) (subst (λ b. IsToRedo policy all b r) (sym e) k)) ∙ again
    go (inr k) again = again

redone_latest : (policy : ℕ) (all log : Log) (w : Words) (a : ℕ) (r : Record) → Descends log → IsLatest (IsToRedo policy all a) log r → redone_words policy all log w a ≡ r.after
redone_latest policy all [] w a r falls h = absurd h.among
redone_latest policy all (x ∷ log) w a r falls h = go (decide_to_redo policy all x.word x) h.among
    (λ m. redone_latest policy all log w a r falls.1 (record { among = m; has = h.has; last = λ s k. h.last s (inr k) }))
  where
    go : (d : IsDecided (IsToRedo policy all x.word x)) → (r ≡ x) ⊎ IsAmong log r → (IsAmong log r → redone_words policy all log w a ≡ r.after) →
        (elim d as (λ _. Words) [ inl k ↦ set_word (redone_words policy all log w) x.word x.after | inr k ↦ redone_words policy all log w ]) a ≡ r.after
    go (inl k) (inl e) again = set_same (redone_words policy all log w) x.word a x.after (sym h.has.2 ∙ ap (λ (y : Record). y.word) e) ∙ ap (λ (y : Record). y.after) (sym e)
    go (inr k) (inl e) again = absurd (k (subst (λ b. IsToRedo policy all b x) (sym h.has.2 ∙ ap (λ (y : Record). y.word) e) (subst (λ y. IsToRedo policy all a y) e h.has)))
    go (inr k) (inr m) again = again m
    go (inl k) (inr m) again = set_other (redone_words policy all log w) x.word a x.after (λ e.
        let le = h.last x (inl refl) (subst (λ b. IsToRedo policy all b x) (sym e) k) in let lt = falls.0 r m in absurd (omega (arith, le, lt))) ∙ again m

deleted_none : (all log : Log) (w : Words) (a : ℕ) → HasNo (IsToDelete all a) log → deleted_words all log w a ≡ w a
deleted_none all [] w a nothing = refl
deleted_none all (r ∷ log) w a nothing = go (decide_to_delete all r.word r) (deleted_none all log w a (λ s m. nothing s (inr m)))
  where
    go : (d : IsDecided (IsToDelete all r.word r)) → deleted_words all log w a ≡ w a →
        (elim d as (λ _. Words) [ inl k ↦ set_word (deleted_words all log w) r.word 0 | inr k ↦ deleted_words all log w ]) a ≡ w a
    go (inl k) again = set_other (deleted_words all log w) r.word a 0 (λ e. nothing r (inl refl) (subst (λ b. IsToDelete all b r) (sym e) k)) ∙ again
    go (inr k) again = again

deleted_some : (all log : Log) (w : Words) (a : ℕ) → Has (IsToDelete all a) log → deleted_words all log w a ≡ 0
deleted_some all [] w a h = absurd h.1
deleted_some all (r ∷ log) w a h = go (decide_to_delete all r.word r) h.1 (λ m. deleted_some all log w a (h.0, m, h.2)) (eqb_tells a r.word)
  where
    go : (d : IsDecided (IsToDelete all r.word r)) → (h.0 ≡ r) ⊎ IsAmong log h.0 → (IsAmong log h.0 → deleted_words all log w a ≡ 0) →
        ((a == r.word) ≡ true) × (a ≡ r.word) ⊎ ((a == r.word) ≡ false) × (a ≢ r.word) →
        (elim d as (λ _. Words) [ inl k ↦ set_word (deleted_words all log w) r.word 0 | inr k ↦ deleted_words all log w ]) a ≡ 0
    go (inl k) m again (inl e) = set_same (deleted_words all log w) r.word a 0 e.1
    go (inl k) (inr m) again (inr ne) = set_other (deleted_words all log w) r.word a 0 ne.1 ∙ again m
    go (inl k) (inl e) again (inr ne) = absurd (ne.1 (sym h.2.1 ∙ ap (λ (y : Record). y.word) e))
    go (inr k) (inr m) again t = again m
    go (inr k) (inl e) again t = absurd (k (subst (λ b. IsToDelete all b r) (sym h.2.1 ∙ ap (λ (y : Record). y.word) e) (subst (λ y. IsToDelete all a y) e h.2)))

-- the words after the whole pass
abbrev pub passed_words : ℕ → Log → Words → Words
passed_words policy log w = deleted_words log log (redone_words policy log log w)

-- the pass leaves each word at its standing value, or to be undone
pub pass_applies : (policy : ℕ) (log : Log) (w : Words) → Descends log → AreApplied policy log (passed_words policy log w)
pass_applies policy log w falls a = elim (has_or_none (IsToUndo log a) log (decide_to_undo log a)) [
  | inl u ↦ inl u
  | inr free ↦ inr (λ v st. by_case v free st)
]
  where
    by_case : (v : ℕ) → HasNo (IsToUndo log a) log → Stands policy log (passed_words policy log w) a v → v ≡ passed_words policy log w a
    by_case v free (undone u first e) = absurd (free u first.among first.has)
    by_case v free (deleted nothing d e) = e ∙ sym (deleted_some log log (redone_words policy log log w) a d)
    by_case v free (redone nu nd r last e) = e ∙ sym (deleted_none log log (redone_words policy log log w) a nd ∙ redone_latest policy log log w a r falls last)
    by_case v free (kept nu nd nr e) = e

-- the pass stores to covered words alone
pub pass_covered : (policy : ℕ) (log : Log) (w : Words) (a : ℕ) → (passed_words policy log w a ≡ w a) ⊎ HasDecidingRecord policy log a
pass_covered policy log w a = elim (has_or_none (IsToDelete log a) log (decide_to_delete log a)) [
  | inl d ↦ inr (inr (inl d))
  | inr nd ↦ elim (has_or_none (IsToRedo policy log a) log (decide_to_redo policy log a)) [
    | inl r ↦ inr (inr (inr r))
    | inr nr ↦ inl (deleted_none log log (redone_words policy log log w) a nd ∙ redone_none policy log log w a nr)
  ]
]

-- ---- what keeps words applied

-- stores to words that are to be undone
pub applied_stored : (policy : ℕ) (log : Log) (w x : Words) → AreNumbered log → ((a : ℕ) → (x a ≡ w a) ⊎ Has (IsToUndo log a) log) → AreApplied policy log w → AreApplied policy log x
applied_stored policy log w x apart same applied a = elim (applied a) [
  | inl u ↦ inl u
  | inr k ↦ elim (same a) [
    | inl e ↦ inr (applied_on policy log log w x a apart (λ v st. stands_stored policy log w x a v (inl e) st) e k)
    | inr u ↦ inl u
  ]
]

-- a rollback record or a compensation of a running transaction
pub applied_noted : (policy : ℕ) (log : Log) (w : Words) (r : Record) → IsQuiet r → r.kind ≢ 1 → IsRunning log r.transaction → AreNumbered (r ∷ log) → AreApplied policy log w → AreApplied policy (r ∷ log) w
applied_noted policy log w r quiet ne running apart applied = are_applied_on policy log (r ∷ log) w apart (stands_noted policy log w r quiet ne running)
    (λ a u. inl (u.0, inr u.1, (u.2.0, u.2.1, (λ e m end. elim m [ inl same ↦ quiet.0 (ap (λ (y : Record). y.kind) (sym same) ∙ end.0) | inr k ↦ u.2.2 e k end ])))) applied

-- the end of an undone transaction: its words are at their standing values from now on
pub applied_ended : (part : ℕ → ℕ) (policy t : ℕ) (log : Log) (w : Words) (e : Record) → IsGood part log → IsUndone t log w → IsRollbackEnd t log e → AreNumbered (e ∷ log) →
    AreApplied policy log w → AreApplied policy (e ∷ log) w
applied_ended part policy t log w e good un h apart applied = are_applied_on policy log (e ∷ log) w apart (stands_ended part policy t log w e good un h) undo applied
  where
    undo : (a : ℕ) → Has (IsToUndo log a) log → Has (IsToUndo (e ∷ log) a) (e ∷ log) ⊎ IsApplied policy (e ∷ log) w a
    undo a u = elim (decide_equal u.0.transaction t) [
      | inr other ↦ inl (u.0, inr u.1, (u.2.0, u.2.1, (λ x m end. elim m [ inl same ↦ other (sym end.1 ∙ ap (λ (y : Record). y.transaction) same ∙ h.owner) | inr k ↦ u.2.2 x k end ])))
      | inl owner ↦ inr (λ v st.
          let s = stands_some policy log w a in
          stands_one policy (e ∷ log) w a v s.0 apart st (stands_ended part policy t log w e good un h a s.0 s.1)
          ∙ undone_value part policy t log w good un a s.0 (u.0, u.1, (u.2.0, u.2.1, owner)) s.1)
    ]

pub applied_checkpointed : (policy : ℕ) (log : Log) (w : Words) (c : Record) → IsCheckpoint c → IsAbove c log → AreNumbered (c ∷ log) → AreApplied policy log w → AreApplied policy (c ∷ log) w
applied_checkpointed policy log w c is above apart applied = are_applied_on policy log (c ∷ log) w apart (stands_checkpointed policy log w c is above applied)
    (λ a u. inl (u.0, inr u.1, (u.2.0, u.2.1, (λ e m end. elim m [ inl same ↦ (let k : c.kind ≡ 4 = ap (λ (y : Record). y.kind) (sym same) ∙ end.0 in absurd (omega (arith, is, k))) | inr k ↦ u.2.2 e k end ])))) applied

-- ---- the end of a recovery

-- where no transaction runs and nothing is to be redone, all applied, all records may be closed in any part
pub all_may_close : (policy : ℕ) (log : Log) (w : Words) (r : Record) → ((t : ℕ) → IsLoser log t → ⊥) → AreApplied policy log w → IsAmong log r → MayClose policy log w [] r
all_may_close policy log w r over applied m = record {
  ended = elim (decide_equal r.kind 5) [
    | inl five ↦ inl five
    | inr ne ↦ elim (ended_or_running log r.transaction) [ inl e ↦ inr e | inr running ↦ absurd (over r.transaction ((r, m, (refl, ne)), running)) ]
  ];
  applied = λ _ _. applied r.word;
  whole = λ end s k of. k;
  skips = λ check e k end lt s j of. j;
}

all_go : (P : Record → Type 0) (log : Log) → ((r : Record) → IsAmong log r → P r) → IsSublog P [] log
all_go P [] each = empty
all_go P (r ∷ log) each = goes r (each r (inl refl)) (all_go P log (λ s m. each s (inr m)))

pub all_close : (policy : ℕ) (log : Log) (w : Words) → ((t : ℕ) → IsLoser log t → ⊥) → AreApplied policy log w → ((a : ℕ) → HasNo (IsToRedo policy log a) log) → IsClosing policy log w []
all_close policy log w over applied nothing = record { part = all_go (MayClose policy log w []) log (λ r m. all_may_close policy log w r over applied m); redone = nothing }

-- with no record left, each word has its standing value
pub stands_empty : (policy : ℕ) (w : Words) (a v : ℕ) → Stands policy [] w a v → v ≡ w a
stands_empty policy w a v (undone u first e) = absurd first.among
stands_empty policy w a v (deleted nothing d e) = absurd d.1
stands_empty policy w a v (redone nu nd r last e) = absurd last.among
stands_empty policy w a v (kept nu nd nr e) = e
