-- How many buckets the first partitions have.
use Rattle.std.proofs.Common.{◌≡◌, inl, inr, ℕ, ◌+◌, ◌<◌, ◌≤◌, ◌==◌, true, false, if◌then◌else◌, refl, arith}
use Rattle.std.proofs.lemmas.Bool.Decides.{eqb_tells, nat_tests}
use Rattle.persist_model.specs.Shape.{Shape, first_bucket, count_buckets}
use Rattle.atomic_list.proofs.Parts.{parts_fit}

abbrev pub buckets_before : Shape → ℕ → ℕ
buckets_before shape p = if p == shape.partitions then shape.buckets else first_bucket shape p

pub none_before : (shape : Shape) → 1 ≤ shape.partitions → buckets_before shape 0 ≡ 0
none_before shape some = let off : (0 == shape.partitions) ≡ false = grind (arith, nat_tests) in rw off (omega arith)

pub one_part_more : (shape : Shape) (p : ℕ) → p < shape.partitions → buckets_before shape p + count_buckets shape p ≡ buckets_before shape (p + 1)
one_part_more shape p below =
    let off : (p == shape.partitions) ≡ false = grind (arith, nat_tests) in
    elim (eqb_tells (p + 1) shape.partitions) [
      | inl t ↦ (let on = t.0 in let fit = parts_fit shape p below in rw (off, on) (omega (arith, fit)))
      | inr f ↦ (let not_last = f.0 in rw (off, not_last) (grind arith))
    ]

pub all_before : (shape : Shape) → buckets_before shape shape.partitions ≡ shape.buckets
all_before shape = let on : (shape.partitions == shape.partitions) ≡ true = grind (arith, nat_tests) in rw on refl

-- so many are never more than all
pub few_before : (shape : Shape) (p : ℕ) → p < shape.partitions → buckets_before shape p + count_buckets shape p ≤ shape.buckets
few_before shape p below =
    let off : (p == shape.partitions) ≡ false = grind (arith, nat_tests) in
    let fit = parts_fit shape p below in
    rw off (omega (arith, fit))
