-- What hangs on a transaction's own records alone.
use Rattle.std.proofs.Common.{◌≡◌, ◌≢◌, ◌⊎◌, inl, inr, ℕ, true, false, if◌then◌else◌, [], ◌∷◌, refl, sym, ap, ◌∙◌, subst, arith}
use Rattle.std.proofs.lemmas.Bool.{eqb-true}
use Rattle.persist_model.specs.Records.{Record, Log, IsAmong, IsOf, IsUpdate}
use Rattle.persist_model.specs.Need.{is_of, rest, to_undo}
use Rattle.log_laws.proofs.Needs.{of_test}
use Rattle.log_laws.proofs.Stacks.{IsTo, updates, compensates, neither, is_to}
use Rattle.plan_records.specs.Passing.{inserted}
use Rattle.plan_records.specs.Courses.{own_records, IsAboveOwn}
use Rattle.plan_records.proofs.Passing.{inserted_fold}

abbrev Tested : ℕ → Record → Type 0
Tested t r = ((is_of t r ≡ true) × IsOf t r) ⊎ ((is_of t r ≡ false) × (IsOf t r → ⊥))

test : (t : ℕ) (r : Record) → Tested t r
test t r = elim (of_test t r) [
  | inl h ↦ inl (h.0, h.1)
  | inr h ↦ inr (h.0, λ of. elim h.1 [ inl five ↦ of.1 (eqb-true r.kind 5 five) | inr other ↦ other of.0 ])
]

pub own_first : (t : ℕ) (r : Record) (log : Log) → IsOf t r → own_records t (r ∷ log) ≡ r ∷ own_records t log
own_first t r log of = elim (test t r) [ inl h ↦ (rw h.0 refl) | inr h ↦ absurd (h.1 of) ]

pub own_in : (t : ℕ) (log : Log) (r : Record) → IsAmong log r → IsOf t r → IsAmong (own_records t log) r
own_in t [] r m of = m
own_in t (x ∷ log) r (inl e) of = rw (own_first t x log (subst (IsOf t) e of)) (inl e)
own_in t (x ∷ log) r (inr m) of = elim (test t x) [ inl h ↦ (rw h.0 (inr (own_in t log r m of))) | inr h ↦ (rw h.0 (own_in t log r m of)) ]

pub own_out : (t : ℕ) (log : Log) (r : Record) → IsAmong (own_records t log) r → IsAmong log r × IsOf t r
own_out t [] r m = absurd m
own_out t (x ∷ log) r m = elim (test t x) [
  | inl h ↦ first h.1 (λ k. own_out t log r k) (rw h.0 at m)
  | inr h ↦ later (own_out t log r (rw h.0 at m))
]
  where
    later : IsAmong log r × IsOf t r → (IsAmong (x ∷ log) r) × IsOf t r
    later o = (inr o.0, o.1)

    first : IsOf t x → (IsAmong (own_records t log) r → IsAmong log r × IsOf t r) → (r ≡ x) ⊎ IsAmong (own_records t log) r → (IsAmong (x ∷ log) r) × IsOf t r
    first of again (inl e) = (inl e, subst (IsOf t) (sym e) of)
    first of again (inr k) = later (again k)

pub to_undo_own : (t : ℕ) (log : Log) → to_undo t log ≡ to_undo t (own_records t log)
to_undo_own t [] = refl
to_undo_own t (r ∷ log) = by (is_to t r) (test t r) (to_undo_own t log)
  where
    by : IsTo t r → Tested t r → to_undo t log ≡ to_undo t (own_records t log) → to_undo t (r ∷ log) ≡ to_undo t (own_records t (r ∷ log))
    by (updates one is own) (inl h) again = rw (h.0, one) (ap (λ l. r ∷ l) again)
    by (updates one is own) (inr h) again = absurd (h.1 (own, λ five. absurd (omega (arith, is, five))))
    by (compensates not_one two is own) (inl h) again = rw (h.0, not_one, two) (ap rest again)
    by (compensates not_one two is own) (inr h) again = absurd (h.1 (own, λ five. absurd (omega (arith, is, five))))
    by (neither not_one not_two k) (inl h) again = rw (h.0, not_one, not_two) again
    by (neither not_one not_two k) (inr h) again = rw (h.0, not_one, not_two) again

-- ---- what is left to undo

pub to_undo_plain : (t : ℕ) (r : Record) (log : Log) → r.kind ≢ 1 → r.kind ≢ 2 → to_undo t (r ∷ log) ≡ to_undo t log
to_undo_plain t r log no_update no_compensation = by (is_to t r)
  where
    by : IsTo t r → to_undo t (r ∷ log) ≡ to_undo t log
    by (updates one is own) = absurd (no_update is)
    by (compensates not_one two is own) = absurd (no_compensation is)
    by (neither not_one not_two k) = rw (not_one, not_two) refl

pub to_undo_less : (t : ℕ) (r : Record) (log : Log) → r.kind ≡ 2 → r.transaction ≡ t → to_undo t (r ∷ log) ≡ rest (to_undo t log)
to_undo_less t r log is own = by (is_to t r)
  where
    by : IsTo t r → to_undo t (r ∷ log) ≡ rest (to_undo t log)
    by (updates one update own') = absurd (omega (arith, is, update))
    by (compensates not_one two comp own') = rw (not_one, two) refl
    by (neither not_one not_two k) = absurd ((k own).1 is)

-- what is left to undo are updates of t
pub to_undo_among : (t : ℕ) (log : Log) (u : Record) → IsAmong (to_undo t log) u → IsAmong log u × IsUpdate u × (u.transaction ≡ t)
to_undo_among t [] u m = absurd m
to_undo_among t (r ∷ log) u m = by (is_to t r) (λ k. to_undo_among t log u k)
  where
    more : IsAmong log u × IsUpdate u × (u.transaction ≡ t) → IsAmong (r ∷ log) u × IsUpdate u × (u.transaction ≡ t)
    more k = (inr k.0, k.1, k.2)

    rest_among : (l : Log) → IsAmong (rest l) u → IsAmong l u
    rest_among [] k = k
    rest_among (x ∷ l) k = inr k

    newest : IsUpdate r → r.transaction ≡ t → (u ≡ r) ⊎ IsAmong (to_undo t log) u → (IsAmong (to_undo t log) u → IsAmong log u × IsUpdate u × (u.transaction ≡ t)) →
        IsAmong (r ∷ log) u × IsUpdate u × (u.transaction ≡ t)
    newest is own (inl e) again = (inl e, ap (λ (x : Record). x.kind) e ∙ is, ap (λ (x : Record). x.transaction) e ∙ own)
    newest is own (inr k) again = more (again k)

    by : IsTo t r → (IsAmong (to_undo t log) u → IsAmong log u × IsUpdate u × (u.transaction ≡ t)) → IsAmong (r ∷ log) u × IsUpdate u × (u.transaction ≡ t)
    by (updates one is own) again = newest is own (rw one at m) again
    by (compensates not_one two is own) again = let k : IsAmong (rest (to_undo t log)) u = rw (not_one, two) at m in more (again (rest_among (to_undo t log) k))
    by (neither not_one not_two k) again = more (again (rw (not_one, not_two) at m))

-- ---- one record more

pub own_other : (t : ℕ) (r : Record) (log : Log) → (IsOf t r → ⊥) → own_records t (r ∷ log) ≡ own_records t log
own_other t r log off = elim (test t r) [ inl h ↦ absurd (off h.1) | inr h ↦ (rw h.0 refl) ]

pub own_either : (t : ℕ) (r : Record) (later log : Log) → own_records t later ≡ own_records t log → own_records t (r ∷ later) ≡ own_records t (r ∷ log)
own_either t r later log same = elim (test t r) [ inl h ↦ (rw h.0 (ap (λ l. r ∷ l) same)) | inr h ↦ (rw h.0 same) ]

-- ---- a record comes into the log

abbrev own_step : ℕ → Record → Log → Log
own_step t x l = if is_of t x then x ∷ l else l

-- where it is the newest of its transaction, it comes first of its records
pub own_gained : (t : ℕ) (r : Record) (log : Log) → IsOf t r → IsAboveOwn t log r.lsn → own_records t (inserted r log) ≡ r ∷ own_records t log
own_gained t r log of above = inserted_fold (own_records t) (own_step t) (λ x l. refl) r log (λ x m lt z. elim (test t x) [
  | inl h ↦ (let less = above x m h.1 in absurd (omega (arith, less, lt)))
  | inr h ↦ (rw h.0 refl)
]) ∙ own_first t r log of

-- another transaction's leaves them as they are
pub own_beside : (t : ℕ) (r : Record) (log : Log) → (IsOf t r → ⊥) → own_records t (inserted r log) ≡ own_records t log
own_beside t r log off = inserted_fold (own_records t) (own_step t) (λ x l. refl) r log (λ x m lt z. elim (test t r) [
  | inl h ↦ absurd (off h.1)
  | inr h ↦ (rw h.0 refl)
]) ∙ own_other t r log off
