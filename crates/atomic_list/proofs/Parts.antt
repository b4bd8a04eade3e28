-- Where the buckets of a partition stand in a region.
use Rattle.std.proofs.Common.{◌≡◌, ◌⊎◌, inl, inr, ℕ, ◌+◌, ◌*◌, ◌/◌, ◌<◌, ◌≤◌, ◌^◌, arith}
use Rattle.std.proofs.Math.Nat.{mul-le-mul_left}
use Rattle.std.proofs.lemmas.Bool.Decides.{eqb_tells}
use Rattle.persist_model.specs.Region.{Words}
use Rattle.persist_model.specs.Shape.{Shape, shape_of, bucket_size, heap, first_bucket, count_buckets, IsBucketOf, IsShape}
use Rattle.persist_model.specs.Chain.{IsLink}

-- this many times the part of a whole is no more than the whole
times_part : (a n whole : ℕ) → 0 < n → a ≤ n → a * (whole / n) ≤ whole
times_part a n whole some h = let m = mul-le-mul_left (whole / n) h in omega (arith, m)

-- the buckets of a partition are among those of the region
pub parts_fit : (shape : Shape) (part : ℕ) → part < shape.partitions → first_bucket shape part + count_buckets shape part ≤ shape.buckets
parts_fit shape part below =
    let here = times_part part shape.partitions shape.buckets (omega arith) (omega arith) in
    let more = times_part (part + 1) shape.partitions shape.buckets (omega arith) (omega arith) in
    elim (eqb_tells (part + 1) shape.partitions) [
      | inl e ↦ let on = e.0 in rw on (omega (arith, here))
      | inr e ↦ let off = e.0 in rw off (omega (arith, more))
    ]

stride_fits : (s j n : ℕ) → j < n → j * s + s ≤ n * s
stride_fits s j n lt = grind arith

-- a whole bucket stands before the heap
pub whole_bucket_fits : (shape : Shape) (part b : ℕ) → part < shape.partitions → IsBucketOf shape part b → b + bucket_size shape ≤ heap shape
whole_bucket_fits shape part b below h =
    let most = parts_fit shape part below in
    let lt = h.2 in
    let e = h.3 in
    let f = stride_fits (bucket_size shape) h.0 shape.buckets (omega arith) in omega arith

pub bucket_fits : (shape : Shape) (part b : ℕ) → part < shape.partitions → IsBucketOf shape part b → b + 8 ≤ heap shape
bucket_fits shape part b below h = let f = whole_bucket_fits shape part b below h in omega arith

pub link_fits : (shape : Shape) (part b : ℕ) → part < shape.partitions → IsLink (IsBucketOf shape part) b → b + 8 ≤ heap shape
link_fits shape part b below (inl e) = omega arith
link_fits shape part b below (inr h) = bucket_fits shape part b below h

sizes_fit : (cells buckets blocks : ℕ) → (cells ≡ 1) ⊎ (cells ≡ 16) → buckets ≤ 1024 → blocks ≤ 65536 → 32 + buckets * (8 + 8 * cells) + 16 * blocks < 2 ^ 31
sizes_fit cells buckets blocks (inl e) h k = rw e (omega arith)
sizes_fit cells buckets blocks (inr e) h k = rw e (omega arith)

-- a region has its heap, and few words
pub shape_fits : (size : ℕ) (w : Words) → IsShape size w → (heap (shape_of w) ≤ size) × (size < 2 ^ 31)
shape_fits size w is =
    let long = is.long in
    let few = sizes_fit (w 2) (w 3) (w 4) is.cells is.buckets.1 is.blocks.1 in (omega arith, omega arith)
