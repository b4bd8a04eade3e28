-- A record that comes into the middle of a log needs the cells that it would need as the last one.
use Rattle.std.proofs.Common.{◌≡◌, ◌≢◌, inl, inr, ℕ, ◌+◌, ◌<◌, Bool, true, false, not, ◌==◌, ◌&&◌, ◌||◌, if◌then◌else◌, [], ◌∷◌, length, refl, sym, ap, ◌∙◌, arith}
use Rattle.std.proofs.lemmas.Bool.Decides.{eqb_tells, nat_tests}
use Rattle.persist_model.specs.Records.{Record, Log, IsAmong}
use Rattle.persist_model.specs.Order.{is_kind_of}
use Rattle.persist_model.specs.Need.{rest, to_undo, has_kind_of, need_of, is_of, has_of, need_at, sum_over, need_in}
use Rattle.plan_records.specs.Passing.{inserted, renumbered}
use Rattle.plan_records.proofs.Passing.{compared, inserted_fold}

off : (x : Record) (t : ℕ) → x.transaction ≢ t → (x.transaction == t) ≡ false
off x t ne = grind (arith, nat_tests)

or_swap : (a b c : Bool) → (a || (b || c)) ≡ (b || (a || c))
or_swap true true c = refl
or_swap true false c = refl
or_swap false true c = refl
or_swap false false c = refl

kind_inserted : (t kind : ℕ) (r : Record) (log : Log) → has_kind_of t kind (inserted r log) ≡ has_kind_of t kind (r ∷ log)
kind_inserted t kind r log =
    inserted_fold (has_kind_of t kind) (λ x b. is_kind_of t kind x || b) (λ x l. refl) r log (λ x m lt z. or_swap (is_kind_of t kind x) (is_kind_of t kind r) z)

pub of_inserted : (t : ℕ) (r : Record) (log : Log) → has_of t (inserted r log) ≡ has_of t (r ∷ log)
of_inserted t r log = inserted_fold (has_of t) (λ x b. is_of t x || b) (λ x l. refl) r log (λ x m lt z. or_swap (is_of t x) (is_of t r) z)

of_other : (t : ℕ) (x : Record) (log : Log) → x.transaction ≢ t → has_of t (x ∷ log) ≡ has_of t log
of_other t x log ne = let no_match = off x t ne in rw no_match refl

abbrev undo_step : ℕ → Record → Log → Log
undo_step t r stack = if is_kind_of t 1 r then r ∷ stack else (if is_kind_of t 2 r then rest stack else stack)

module _ (r : Record) (log : Log) (others : (x : Record) → IsAmong log x → r.lsn < x.lsn → x.transaction ≢ r.transaction) where
  undo_inserted : (t : ℕ) → to_undo t (inserted r log) ≡ to_undo t (r ∷ log)
  undo_inserted t = inserted_fold (to_undo t) (undo_step t) (λ x l. refl) r log (λ x m lt stack. elim (eqb_tells x.transaction t) [
    | inl own ↦ (let no_match = off r t (λ e. others x m lt (own.1 ∙ sym e)) in rw no_match refl)
    | inr ne ↦ (rw ne.0 refl)
  ])

  same_length : (update compensation : Bool) (x y : Record) (stack : Log) →
      length (if update then x ∷ stack else (if compensation then rest stack else stack)) ≡ length (if update then y ∷ stack else (if compensation then rest stack else stack))
  same_length true compensation x y stack = refl
  same_length false compensation x y stack = refl

  abbrev need_by : Bool → Bool → ℕ → ℕ
  need_by ended rolled left = if ended then 0 else (if rolled then 0 else 1) + (left + 1)

  need_of_inserted : (top t : ℕ) → need_of (inserted r log) t ≡ need_of (renumbered top r ∷ log) t
  need_of_inserted top t =
      let ended = kind_inserted t 4 r log in
      let rolled = kind_inserted t 3 r log in
      let left = ap length (undo_inserted t) ∙ same_length (is_kind_of t 1 r) (is_kind_of t 2 r) r (renumbered top r) (to_undo t log) in
      λ i. need_by (ended i) (rolled i) (left i)

counted_alike : (part : ℕ → ℕ) (p : ℕ) (number : ℕ → ℕ) (x : Record) (log later : Log) → has_of x.transaction later ≡ has_of x.transaction log →
    need_at part p number x later ≡ need_at part p number x log
counted_alike part p number x log later e = ap (λ b. if not (x.kind == 5) && (not b && (part x.at == p)) then number x.transaction else 0) e

sum_inserted : (part : ℕ → ℕ) (p : ℕ) (number : ℕ → ℕ) (r : Record) (log : Log) → ((x : Record) → IsAmong log x → r.lsn < x.lsn → x.transaction ≢ r.transaction) →
    sum_over part p number (inserted r log) ≡ sum_over part p number (r ∷ log)
sum_inserted part p number r [] others = refl
sum_inserted part p number r (x ∷ log) others = elim (compared r.lsn x.lsn) [
  | inr ge ↦ (rw ge.0 refl)
  | inl lt ↦ (
      let other = others x (inl refl) lt.1 in
      let front = counted_alike part p number x log (inserted r log) (of_inserted x.transaction r log ∙ of_other x.transaction r log (λ e. other (sym e))) in
      let behind = sum_inserted part p number r log (λ y m. others y (inr m)) in
      let own = counted_alike part p number r log (x ∷ log) (of_other r.transaction x log other) in
      rw lt.0 (omega (arith, front, behind, own)))
]

pub need_in_inserted : (part : ℕ → ℕ) (p top : ℕ) (r : Record) (log : Log) → ((x : Record) → IsAmong log x → r.lsn < x.lsn → x.transaction ≢ r.transaction) →
    need_in part p (inserted r log) ≡ need_in part p (renumbered top r ∷ log)
need_in_inserted part p top r log others =
    sum_inserted part p (need_of (inserted r log)) r log others ∙
    (λ i. sum_over part p (λ t. need_of_inserted r log others top t i) (renumbered top r ∷ log))
