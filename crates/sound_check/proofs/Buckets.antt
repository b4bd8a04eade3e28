-- Where a partition's buckets stand.
use Rattle.std.proofs.Common.{inl, inr, ℕ, zero, suc, ◌+◌, ◌*◌, ◌<◌, ◌≤◌, ◌==◌, ◌||◌, List, arith}
use Rattle.std.specs.Prelude.{IsTrue}
use Rattle.std.proofs.Math.Nat.{mul-le-mul}
use Rattle.persist_model.specs.Shape.{heap, IsBucketOf}
use Rattle.persist_model.specs.Chain.{HEAD, Each, AreBuckets, IsLink, last_or}
use Rattle.log_laws.proofs.AddressLists.{each_map, each_last}
use Rattle.atomic_list.proofs.Parts.{whole_bucket_fits}
use Rattle.region_layout.specs.declared.layout.Layout.{Layout}
use Rattle.region_layout.specs.Layout.{layout_shape}
use Rattle.sound_check.specs.Rules.{IsReadable}

pub few_cells : (n : ℕ) → IsTrue ((n == 1) || (n == 16)) → n ≤ 16
few_cells zero h = omega arith
few_cells (suc n) h = grind arith

row_small : (b c : ℕ) → b ≤ 1024 → c ≤ 16 → (32 + b * (8 + 8 * c) ≤ 139296) × (32 ≤ 32 + b * (8 + 8 * c))
row_small b c few small = let more = mul-le-mul few (eight c small) in (omega (arith, more), omega arith)
  where
    eight : (n : ℕ) → n ≤ 16 → 8 + 8 * n ≤ 136
    eight n le = omega (arith, le)

pub heap_small : (layout : Layout) → (heap (layout_shape layout) ≤ 139296) × (32 ≤ heap (layout_shape layout))
heap_small layout =
    let cells = few_cells layout.cells layout.cells_are in
    let buckets = layout.buckets_within in row_small layout.buckets layout.cells buckets.1 cells

-- all words of a bucket, and so its links, are before the heap
pub bucket_readable : (layout : Layout) (p size b : ℕ) → p < layout.partitions → heap (layout_shape layout) ≤ size → IsBucketOf (layout_shape layout) p b → IsReadable size b
bucket_readable layout p size b lt long is =
    let fits = whole_bucket_fits (layout_shape layout) p b lt is in
    let small = heap_small layout in (omega (arith, fits), omega (arith, fits, small))

pub link_readable : (layout : Layout) (p size b : ℕ) → p < layout.partitions → heap (layout_shape layout) ≤ size → IsLink (IsBucketOf (layout_shape layout) p) b → IsReadable size b
link_readable layout p size b lt long (inl z) = let small = heap_small layout in (omega (arith, small), omega arith)
link_readable layout p size b lt long (inr is) = bucket_readable layout p size b lt long is

pub buckets_readable : (layout : Layout) (p size : ℕ) (xs : List ℕ) → p < layout.partitions → heap (layout_shape layout) ≤ size → AreBuckets (IsBucketOf (layout_shape layout) p) xs → Each (IsReadable size) xs
buckets_readable layout p size xs lt long h = each_map _ (IsReadable size) xs (λ b k. bucket_readable layout p size b lt long k) h

-- the word that names the bucket behind these
pub last_inside : (layout : Layout) (p size : ℕ) (xs : List ℕ) → p < layout.partitions → heap (layout_shape layout) ≤ size → AreBuckets (IsBucketOf (layout_shape layout) p) xs → last_or HEAD xs < size
last_inside layout p size xs lt long h =
    let small = heap_small layout in
    let k = each_last (IsReadable size) HEAD xs (omega (arith, small), omega arith) (buckets_readable layout p size xs lt long h) in omega (arith, k)
