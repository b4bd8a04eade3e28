-- How much room a region has at most.
use Rattle.std.proofs.Common.{◌≡◌, inl, inr, ℕ, zero, suc, ◌+◌, ◌-◌, ◌*◌, ◌<◌, ◌≤◌, ◌==◌, true, false, if◌then◌else◌, List, length, refl, sym, subst, arith}
use Rattle.std.proofs.Math.Nat.{mul-le-mul_left}
use Rattle.std.proofs.lemmas.Bool.Decides.{eqb_tells, nat_tests}
use Rattle.persist_model.specs.Region.{Words}
use Rattle.persist_model.specs.Shape.{Shape, log_words, first_bucket, count_buckets}
use Rattle.persist_model.specs.Chain.{last_or}
use Rattle.persist_model.specs.ImageRecords.{cell_address}
use Rattle.persist_model.specs.State.{State}
use Rattle.persist_model.specs.Sound.{closed_cells, room_of, HasState}
use Rattle.atomic_list.proofs.Parts.{parts_fit}
use Rattle.plan_records.specs.Appends.{total_room, RoomIsBounded}

one_closed : (n : ℕ) → (if n == 0 then 1 else 0) ≤ 1
one_closed n = elim (eqb_tells n 0) [ inl e ↦ (rw e.0 (omega arith)) | inr e ↦ (rw e.0 (omega arith)) ]

closed_few : (w : Words) (b n : ℕ) → closed_cells w b n ≤ n
closed_few w b zero = omega arith
closed_few w b (suc n) = let again = closed_few w b n in let one = one_closed (w (cell_address b n)) in omega (arith, again, one)

room_few : (shape : Shape) (w : Words) (p : ℕ) (chain : List ℕ) → room_of shape w p chain ≤ shape.cells + shape.cells * count_buckets shape p
room_few shape w p chain =
    let closed = closed_few w (last_or 0 chain) shape.cells in
    let fewer : shape.cells * (count_buckets shape p - length chain) ≤ shape.cells * count_buckets shape p = mul-le-mul_left shape.cells (omega arith) in
    elim (eqb_tells (last_or 0 chain) 0) [
      | inl e ↦ (rw e.0 (omega (arith, fewer)))
      | inr e ↦ (rw e.0 (omega (arith, fewer, closed)))
    ]

-- how many buckets the first n partitions have
abbrev buckets_before : Shape → ℕ → ℕ
buckets_before shape n = if n == shape.partitions then shape.buckets else first_bucket shape n

one_part_more : (shape : Shape) (p : ℕ) → p < shape.partitions → buckets_before shape p + count_buckets shape p ≡ buckets_before shape (p + 1)
one_part_more shape p below =
    let off : (p == shape.partitions) ≡ false = grind (arith, nat_tests) in
    elim (eqb_tells (p + 1) shape.partitions) [
      | inl t ↦ (let on = t.0 in let fit = parts_fit shape p below in rw (off, on) (omega (arith, fit)))
      | inr f ↦ (let not_last = f.0 in rw (off, not_last) (grind arith))
    ]

all_before : (shape : Shape) → buckets_before shape shape.partitions ≡ shape.buckets
all_before shape = let on : (shape.partitions == shape.partitions) ≡ true = grind (arith, nat_tests) in rw on refl

one_more : (k a b n x y : ℕ) → x ≤ k * (a + n) → y ≤ k + k * b → x + y ≤ k * ((a + b) + (n + 1))
one_more k a b n x y h j = omega (arith, h, j)

module _ (shape : Shape) (w : Words) (s : State) (has : HasState shape w s) where
  first_rooms : (n : ℕ) → n ≤ shape.partitions → total_room s.room n ≤ shape.cells * (buckets_before shape n + n)
  first_rooms zero le = omega arith
  first_rooms (suc n) le =
      let again = first_rooms n (omega (arith, le)) in
      let here : s.room n ≤ shape.cells + shape.cells * count_buckets shape n =
      subst (λ x. x ≤ shape.cells + shape.cells * count_buckets shape n) (sym (has.room n (omega (arith, le)))) (room_few shape (log_words shape w) n (has.chains n)) in
      let more = one_part_more shape n (omega (arith, le)) in
      let next : n + 1 ≡ suc n = omega arith in
      subst (λ m. total_room s.room n + s.room n ≤ shape.cells * (buckets_before shape m + m)) next
      (subst (λ x. total_room s.room n + s.room n ≤ shape.cells * (x + (n + 1))) more
      (one_more shape.cells (buckets_before shape n) (count_buckets shape n) n (total_room s.room n) (s.room n) again here))

pub room_is_bounded : RoomIsBounded
room_is_bounded shape w s has = subst (λ x. total_room s.room shape.partitions ≤ shape.cells * (x + shape.partitions)) (all_before shape) (first_rooms shape w s has shape.partitions (omega arith))
