-- A log into whose middle a record comes: its records, and what is computed from it.
use Rattle.std.proofs.Common.{◌≡◌, ◌≢◌, ◌⊎◌, ◌↔◌, inl, inr, ℕ, suc, ◌<◌, ◌≤◌, true, false, nat_lt, [], ◌∷◌, refl, sym, ap, ◌∙◌, arith}
use Rattle.std.proofs.lemmas.Bool.Decides.{leb_tells}
use Rattle.persist_model.specs.Records.{Record, Log, IsAmong, Has, IsNewestFirst}
use Rattle.bucket_log.specs.States.{Gains}
use Rattle.plan_records.specs.Passing.{inserted, Passes}

abbrev Compared : ℕ → ℕ → Type 0
Compared a b = ((nat_lt a b ≡ true) × (a < b)) ⊎ ((nat_lt a b ≡ false) × (b ≤ a))

pub compared : (a b : ℕ) → Compared a b
compared a b = elim (leb_tells (suc a) b) [ inl h ↦ inl (h.0, h.1) | inr h ↦ inr (h.0, (let lt = h.1 in omega (arith, lt))) ]

-- ---- its records are r and those of the log

among_pair : (r x y : Record) (log : Log) → (IsAmong (inserted r log) y → (y ≡ r) ⊎ IsAmong log y) → IsAmong (x ∷ inserted r log) y → (y ≡ r) ⊎ IsAmong (x ∷ log) y
among_pair r x y log again (inl e) = inr (inl e)
among_pair r x y log again (inr m) = elim (again m) [ inl e ↦ inl e | inr k ↦ inr (inr k) ]

pub inserted_out : (r : Record) (log : Log) (y : Record) → IsAmong (inserted r log) y → (y ≡ r) ⊎ IsAmong log y
inserted_out r [] y m = m
inserted_out r (x ∷ log) y m = elim (compared r.lsn x.lsn) [
  | inl lt ↦ among_pair r x y log (λ k. inserted_out r log y k) (rw lt.0 at m)
  | inr ge ↦ rw ge.0 at m
]

in_pair : (r x y : Record) (log : Log) → ((y ≡ r) ⊎ IsAmong log y → IsAmong (inserted r log) y) → (y ≡ r) ⊎ IsAmong (x ∷ log) y → IsAmong (x ∷ inserted r log) y
in_pair r x y log again (inl e) = inr (again (inl e))
in_pair r x y log again (inr (inl e)) = inl e
in_pair r x y log again (inr (inr k)) = inr (again (inr k))

pub inserted_in : (r : Record) (log : Log) (y : Record) → (y ≡ r) ⊎ IsAmong log y → IsAmong (inserted r log) y
inserted_in r [] y m = m
inserted_in r (x ∷ log) y m = elim (compared r.lsn x.lsn) [
  | inl lt ↦ (rw lt.0 (in_pair r x y log (inserted_in r log y) m))
  | inr ge ↦ (rw ge.0 m)
]

pub inserted_among : (r : Record) (log : Log) (y : Record) → IsAmong (inserted r log) y ↔ ((y ≡ r) ⊎ IsAmong log y)
inserted_among r log y = (inserted_out r log y, inserted_in r log y)

pub inserted_has : (P : Record → Type 0) (r : Record) (log : Log) → P r → Has P (inserted r log)
inserted_has P r log p = (r, inserted_in r log r (inl refl), p)

-- where all are older it comes first
pub inserted_first : (r : Record) (log : Log) → ((x : Record) → IsAmong log x → x.lsn < r.lsn) → inserted r log ≡ r ∷ log
inserted_first r [] above = refl
inserted_first r (x ∷ log) above = elim (compared r.lsn x.lsn) [
  | inl lt ↦ (let a = above x (inl refl) in let b = lt.1 in absurd (omega (arith, a, b)))
  | inr ge ↦ (rw ge.0 refl)
]

-- and then it may come
pub passes_above : (r : Record) (log : Log) → ((x : Record) → IsAmong log x → x.lsn < r.lsn) → Passes log r
passes_above r log above = record {
  fresh = λ x m same. (let lt = above x m in omega (arith, lt, same));
  newer = λ x m lt. (let less = above x m in absurd (omega (arith, lt, less)));
  checkpoint = λ check. above;
}

-- ---- newest first

pub inserted_newest_first : (r : Record) (log : Log) → ((x : Record) → IsAmong log x → x.lsn ≢ r.lsn) → IsNewestFirst log → IsNewestFirst (inserted r log)
inserted_newest_first r [] fresh first = ((λ s m. absurd m), tt)
inserted_newest_first r (x ∷ log) fresh first = elim (compared r.lsn x.lsn) [
  | inl lt ↦ (rw lt.0 (
    (λ s m. elim (inserted_out r log s m) [
      | inl e ↦ inl (let is : s.lsn ≡ r.lsn = ap (λ (y : Record). y.lsn) e in let less = lt.1 in omega (arith, is, less))
      | inr k ↦ first.0 s k
    ]),
    inserted_newest_first r log (λ s m. fresh s (inr m)) first.1,
  ))
  | inr ge ↦ (rw ge.0 ((λ s m. inl (below s m ge.1)), first))
]
  where
    below : (s : Record) → IsAmong (x ∷ log) s → x.lsn ≤ r.lsn → s.lsn < r.lsn
    below s (inl e) ge = let is : s.lsn ≡ x.lsn = ap (λ (y : Record). y.lsn) e in let ne = fresh x (inl refl) in omega (arith, is, ge, ne)
    below s (inr m) ge = let ne = fresh s (inr m) in elim (first.0 s m) [ inl lt ↦ omega (arith, lt, ge) | inr same ↦ (let is = same.0 in omega (arith, is, ge, ne)) ]

pub inserted_gains : (r : Record) (log : Log) → ((x : Record) → IsAmong log x → x.lsn ≢ r.lsn) → IsNewestFirst log → Gains log r (inserted r log)
inserted_gains r log fresh first = record { newest_first = inserted_newest_first r log fresh first; each = inserted_among r log }

-- ---- what is computed record by record

-- Where r may change places with each newer record, it may as well come first.
pub inserted_fold : {A : Type 0} (F : Log → A) (f : Record → A → A) → ((x : Record) (log : Log) → F (x ∷ log) ≡ f x (F log)) → (r : Record) (log : Log) →
    ((x : Record) → IsAmong log x → r.lsn < x.lsn → (z : A) → f x (f r z) ≡ f r (f x z)) → F (inserted r log) ≡ F (r ∷ log)
inserted_fold F f step r [] commute = refl
inserted_fold F f step r (x ∷ log) commute = elim (compared r.lsn x.lsn) [
  | inl lt ↦ (rw lt.0 (
      step x (inserted r log) ∙ ap (f x) (inserted_fold F f step r log (λ y m. commute y (inr m)) ∙ step r log) ∙
      commute x (inl refl) lt.1 (F log) ∙ ap (f r) (sym (step x log)) ∙ sym (step r (x ∷ log))
      ))
  | inr ge ↦ (rw ge.0 refl)
]
