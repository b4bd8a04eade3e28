-- What the tests of rows say of needs.
use Rattle.std.proofs.Common.{◌≡◌, ◌≢◌, ◌↔◌, inl, inr, ℕ, ◌+◌, ◌<◌, ◌^◌, min, Bool, true, not, ◌==◌, ◌&&◌, List, refl, sym, subst, arith}
use Rattle.std.specs.Prelude.{nat_lt}
use Rattle.std.specs.List.{list_any}
use Rattle.std.proofs.lemmas.Bool.{ltb-true}
use Rattle.std.proofs.lemmas.Bool.Decides.{nat_tests}
use Rattle.persist_model.specs.Records.{Record, Log, IsAmong, Has, IsSkipped}
use Rattle.persist_model.specs.Order.{is_kind_of}
use Rattle.persist_model.specs.Shape.{Shape, part_of}
use Rattle.persist_model.specs.State.{HasOpen, HasNumbers, total_need}
use Rattle.bucket_log.specs.declared.scanning.Placed.{Placed}
use Rattle.log_tables.specs.declared.summaries.Summaries.{Summaries}
use Rattle.log_tables.specs.Rows.{log_of_rows}
use Rattle.sound_check.specs.Rows.{has_checkpoint_behind, IsDrawn}
use Rattle.log_tables.specs.Tables.{AreSummaries, has_end_below, is_end_below, summary_of}
use Rattle.sound_check.proofs.Asking.{log_has, any_has, both_true, equal_true, not_true, as_told}
use Rattle.sound_check.proofs.Ordering.{IsKindOf, kind_of_true, has_as}

-- ---- sums that stand still at a greatest number

pub saturated : (most a b s t : ℕ) → s ≡ min a most → t ≡ min (s + b) most → t ≡ min (b + a) most
saturated most a b s t e f = omega (arith, e, f)

pub saturated_both : (most a b s n t : ℕ) → s ≡ min a most → n ≡ min b most → t ≡ min (s + n) most → t ≡ min (a + b) most
saturated_both most a b s n t e f g = omega (arith, e, f, g)

-- ---- what is open

pub less_true : (n m : ℕ) → (nat_lt n m ≡ true) ↔ (n < m)
less_true n m = ((λ t. ltb-true n m t), (λ lt. grind (arith, nat_tests, lt)))

checkpoint_tells : (log : Log) (n : ℕ) → (has_checkpoint_behind n log ≡ true) ↔ Has (λ c. (c.kind ≡ 5) × (n < c.lsn)) log
checkpoint_tells log n = log_has (λ c. (c.kind ≡ 5) × (n < c.lsn)) (λ (c : Record). (c.kind == 5) && nat_lt n c.lsn) log _ refl (λ c. both_true _ _ _ _ (equal_true c.kind 5) (less_true n c.lsn))

skipped_tells : (log : Log) (newest t : ℕ) → ((n : ℕ) → nat_lt n newest ≡ has_checkpoint_behind n log) → (has_end_below t newest log ≡ true) ↔ IsSkipped log t
skipped_tells log newest t is =
    as_told _ _ (IsSkipped log t) (log_has (λ e. IsKindOf t 4 e × Has (λ c. (c.kind ≡ 5) × (e.lsn < c.lsn)) log) (λ (e : Record). is_kind_of t 4 e && nat_lt e.lsn newest) log _ refl
    (λ e. both_true _ _ _ _ (kind_of_true t 4 e) (subst (λ b. (b ≡ true) ↔ Has (λ c. (c.kind ≡ 5) × (e.lsn < c.lsn)) log) (sym (is e.lsn)) (checkpoint_tells log e.lsn))))
    (has_as _ _ log (λ e p. ((p.0.1, p.0.0), p.1))) (has_as _ _ log (λ e p. ((p.0.1, p.0.0), p.1)))

pub open_tells : (part : ℕ → ℕ) (rows : List Placed) (whole : Summaries) (newest : ℕ) (t : Bool) → AreSummaries part whole (log_of_rows rows) →
    ((n : ℕ) → nat_lt n newest ≡ has_checkpoint_behind n (log_of_rows rows)) →
    t ≡ list_any (λ (r : Placed). not (r.cell.kind == 5) && not (is_end_below (summary_of whole r.cell.transaction).first_end newest)) rows → (t ≡ true) ↔ HasOpen (log_of_rows rows)
open_tells part rows whole newest t are is e = any_has (λ r. (r.kind ≢ 5) × (IsSkipped (log_of_rows rows) r.transaction → ⊥)) _ rows t e
    (λ x. both_true _ _ _ _ (not_true _ _ (equal_true x.cell.kind 5)) (not_true _ _ (subst (λ b. (b ≡ true) ↔ IsSkipped (log_of_rows rows) x.cell.transaction)
    (sym ((are x.cell.transaction).below newest)) (skipped_tells (log_of_rows rows) newest x.cell.transaction is))))

-- ---- numbers

pub numbers_tell : (shape : Shape) (rows : List Placed) (n : ℕ) (t : Bool) → IsDrawn shape (log_of_rows rows) n → t ≡ list_any (λ (r : Placed). nat_lt (2 ^ 63) (r.cell.lsn + n)) rows →
    ((not t) ≡ true) ↔ ((r : Record) → IsAmong (log_of_rows rows) r → HasNumbers shape (log_of_rows rows) r)
numbers_tell shape rows n t drawn e =
    as_told (not t) _ _ (not_true t _ (any_has (λ r. 2 ^ 63 < r.lsn + n) _ rows t e (λ x. less_true (2 ^ 63) (x.cell.lsn + n))))
    (λ none r m. numbers r (λ over. none (r, m, over)))
    (λ h over. back over.0 (h over.0 over.1) over.2)
  where
    total : ℕ
    total = total_need (part_of shape) shape.partitions (log_of_rows rows)

    numbers : (r : Record) → (2 ^ 63 < r.lsn + n → ⊥) → HasNumbers shape (log_of_rows rows) r
    numbers r under = elim drawn [
      | inl k ↦ (let f = k.1 in record { undo = omega (arith, under, f); checkpoint = λ two o. omega (arith, under, f) })
      | inr k ↦ (let f = k.1 in record { undo = omega (arith, under, f); checkpoint = λ two o. absurd (k.0 (two, o)) })
    ]

    back : (r : Record) → HasNumbers shape (log_of_rows rows) r → 2 ^ 63 < r.lsn + n → ⊥
    back r h over = elim drawn [
      | inl k ↦ (let f = k.1 in let le = h.checkpoint k.0.0 k.0.1 in omega (arith, over, f, le))
      | inr k ↦ (let f = k.1 in let le = h.undo in omega (arith, over, f, le))
    ]
