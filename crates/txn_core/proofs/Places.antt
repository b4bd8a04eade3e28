-- A next place is one of the region.
use Rattle.std.proofs.Common.{inl, inr, ℕ, ◌+◌, ◌*◌, ◌<◌, ◌≤◌, ◌^◌, Bool, true, false, arith}
use Rattle.persist_model.specs.declared.format.TheConstants.{MAX_WORDS}
use Rattle.persist_model.specs.Region.{Words}
use Rattle.persist_model.specs.Shape.{IsBucketOf, IsCellCount}
use Rattle.atomic_list.specs.Walk.{chain_of}
use Rattle.region_layout.specs.declared.layout.Layout.{Layout}
use Rattle.region_layout.specs.Layout.{layout_shape}
use Rattle.bucket_log.specs.declared.append.Place.{Place}
use Rattle.bucket_log.specs.Places.{IsPlaceBy, IsNextPlace}
use Rattle.bucket_log.specs.Reads.{IsLogOf}
use Rattle.bucket_log.proofs.AppendImages.{Each-among}
use Rattle.bucket_log.proofs.Partitions.{bucket_word_below}
use Rattle.bucket_log.proofs.Walking.{good_chain}
use Rattle.log_partition.proofs.Marking.{allowed}

heap_small : (b c : ℕ) → b ≤ 1024 → IsCellCount c → 32 + b * (8 + 8 * c) < MAX_WORDS
heap_small b c few (inl one) = rw one (omega (arith, few))
heap_small b c few (inr sixteen) = rw sixteen (omega (arith, few))

cells_small : (c : ℕ) → IsCellCount c → c ≤ 16
cells_small c (inl one) = omega (arith, one)
cells_small c (inr sixteen) = omega (arith, sixteen)

bucket_below : (layout : Layout) (p b : ℕ) → p < layout.partitions → IsBucketOf (layout_shape layout) p b → b < MAX_WORDS
bucket_below layout p b lt is =
    let ok = allowed layout in
    let below = bucket_word_below (layout_shape layout) p b ok lt (b, is, omega arith, omega arith) in
    let small = heap_small layout.buckets layout.cells layout.buckets_within.1 ok.cells in
    omega (arith, below, small)

bucket_inside : (layout : Layout) (size : ℕ) (w : Words) (p : ℕ) (place : Place) (fresh : Bool) → IsLogOf layout size w → p < layout.partitions →
    IsPlaceBy (layout_shape layout) p w (chain_of (layout_shape layout) w) place fresh → place.bucket < MAX_WORDS
bucket_inside layout size w p place true log lt is = bucket_below layout p place.bucket lt is.bucket
bucket_inside layout size w p place false log lt is =
    let good = good_chain layout size w log in
    bucket_below layout log.has_list.part place.bucket good.below
    (Each-among (IsBucketOf (layout_shape layout) log.has_list.part) (chain_of (layout_shape layout) w) place.bucket good.buckets is.bucket)

pub place_inside : (layout : Layout) (size : ℕ) (w : Words) (p : ℕ) (place : Place) → IsLogOf layout size w → p < layout.partitions →
    IsNextPlace (layout_shape layout) p w (chain_of (layout_shape layout) w) place → (place.bucket < MAX_WORDS) × (place.cell < 2 ^ 16)
place_inside layout size w p place log lt next =
    let small = cells_small layout.cells (allowed layout).cells in
    let below = next.below in
    (bucket_inside layout size w p place place.fresh log lt next.is_place, omega (arith, small, below))
