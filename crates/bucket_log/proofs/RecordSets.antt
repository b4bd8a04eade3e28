-- Images that have the same records, or one more.
use Rattle.std.proofs.Common.{◌≡◌, ◌≢◌, ◌⊎◌, inl, inr, ℕ, ◌+◌, ◌<◌, ◌≤◌, List, ap, sym, ◌∙◌, arith}
use Rattle.persist_model.specs.Region.{Words}
use Rattle.persist_model.specs.Records.{Record, IsAmong}
use Rattle.persist_model.specs.ImageRecords.{cell_address, record_at}
use Rattle.bucket_log.specs.Words.{SameRecords, AddsRecord}

pub same_cell : (v w : Words) (at : ℕ) → ((a : ℕ) → at ≤ a → a < at + 8 → v a ≡ w a) → record_at v at ≡ record_at w at
same_cell v w at same =
    let e0 = same at (omega arith) (omega arith) in
    let e1 = same (at + 1) (omega arith) (omega arith) in
    let e2 = same (at + 2) (omega arith) (omega arith) in
    let e3 = same (at + 3) (omega arith) (omega arith) in
    let e4 = same (at + 4) (omega arith) (omega arith) in
    let e5 = same (at + 5) (omega arith) (omega arith) in
    let e6 = same (at + 6) (omega arith) (omega arith) in
    let e7 = same (at + 7) (omega arith) (omega arith) in
    rw (e0, e1, e2, e3, e4, e5, e6, e7)

-- the cell is as it was, and its bucket was there
pub record IsKept (v w : Words) (xs : List ℕ) (b at : ℕ) : Type 0 where
  pub was_among : IsAmong xs b
  pub same : record_at v at ≡ record_at w at

-- the cell is closed, and was no record
pub record IsClosed (v w : Words) (xs : List ℕ) (b at : ℕ) : Type 0 where
  pub closed : v at ≡ 0
  pub was_closed : IsAmong xs b → w at ≡ 0

-- the cell is this record, and was none
pub record IsNew (v w : Words) (xs : List ℕ) (b at : ℕ) (new : Record) : Type 0 where
  pub is : record_at v at ≡ new
  pub was_closed : IsAmong xs b → w at ≡ 0

abbrev pub gate_of : Record → ℕ
gate_of r = r.lsn

pub SameRecords-from : (cells : ℕ) (w v : Words) (xs ys : List ℕ) → ((b : ℕ) → IsAmong xs b → IsAmong ys b) →
    ((b c : ℕ) → IsAmong ys b → c < cells → IsKept v w xs b (cell_address b c) ⊎ IsClosed v w xs b (cell_address b c)) →
    SameRecords cells w xs v ys
SameRecords-from cells w v xs ys grows each = λ r. (
  (λ h. elim (each h.bucket h.place h.is_among h.below) [
    | inl k ↦ record { bucket = h.bucket; is_among = k.was_among; place = h.place; below = h.below; is = h.is ∙ k.same; gate = h.gate }
    | inr k ↦ absurd (h.gate (ap gate_of h.is ∙ k.closed))
  ]),
  (λ h. elim (each h.bucket h.place (grows h.bucket h.is_among) h.below) [
    | inl k ↦ record { bucket = h.bucket; is_among = grows h.bucket h.is_among; place = h.place; below = h.below; is = h.is ∙ sym k.same; gate = h.gate }
    | inr k ↦ absurd (h.gate (ap gate_of h.is ∙ k.was_closed h.is_among))
  ]),
)

pub AddsRecord-from : (cells : ℕ) (w v : Words) (xs ys : List ℕ) (bucket place : ℕ) (new : Record) → ((b : ℕ) → IsAmong xs b → IsAmong ys b) →
    IsAmong ys bucket → place < cells → new.lsn ≢ 0 → record_at v (cell_address bucket place) ≡ new →
    ((b c : ℕ) → IsAmong ys b → c < cells → IsKept v w xs b (cell_address b c) ⊎ IsClosed v w xs b (cell_address b c) ⊎ IsNew v w xs b (cell_address b c) new) →
    AddsRecord cells w xs v ys new
AddsRecord-from cells w v xs ys bucket place new grows among below gate is each = λ r. (
  (λ h. elim (each h.bucket h.place h.is_among h.below) [
    | inl k ↦ inl (record { bucket = h.bucket; is_among = k.was_among; place = h.place; below = h.below; is = h.is ∙ k.same; gate = h.gate })
    | inr k ↦ elim k [
      | inl q ↦ absurd (h.gate (ap gate_of h.is ∙ q.closed))
      | inr q ↦ inr (h.is ∙ q.is)
    ]
  ]),
  (λ s. elim s [
    | inl h ↦ elim (each h.bucket h.place (grows h.bucket h.is_among) h.below) [
      | inl k ↦ record { bucket = h.bucket; is_among = grows h.bucket h.is_among; place = h.place; below = h.below; is = h.is ∙ sym k.same; gate = h.gate }
      | inr k ↦ elim k [
        | inl q ↦ absurd (h.gate (ap gate_of h.is ∙ q.was_closed h.is_among))
        | inr q ↦ absurd (h.gate (ap gate_of h.is ∙ q.was_closed h.is_among))
      ]
    ]
    | inr e ↦ record { bucket = bucket; is_among = among; place = place; below = below; is = e ∙ sym is; gate = λ z. gate (sym (ap gate_of e) ∙ z) }
  ]),
)
