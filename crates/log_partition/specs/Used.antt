-- Which buckets are in the chain of their partition, as a table.
use Rattle.std.specs.Prelude.{◌≡◌, ◌↔◌, ℕ, ◌<◌, ◌≤◌, ◌==◌, if◌then◌else◌, List, [], ◌∷◌, ◌++◌, length, slice_index}
use Rattle.persist_model.specs.Region.{Words}
use Rattle.persist_model.specs.Records.{IsAmong}
use Rattle.persist_model.specs.Shape.{Shape, bucket, first_bucket}
use Rattle.persist_model.specs.Chain.{view}
use Rattle.atomic_list.specs.Walk.{chain_of}
use Rattle.region_layout.specs.Apart.{IsInPartition}
use Rattle.log_partition.specs.Marks.{HasMark}
use Rattle.log_partition.specs.declared.used.UsedBuckets.{UsedBuckets}

-- the chain of each partition, as it is read in these words
abbrev pub chains_in : Shape → Words → ℕ → List ℕ
chains_in shape w p = chain_of shape (view p w)

-- bucket j is marked
abbrev pub IsMarked : UsedBuckets → ℕ → Type 0
IsMarked table j = HasMark table.used.items j

-- the number from which the buckets of partition p are looked at
abbrev pub from_of : UsedBuckets → ℕ → ℕ
from_of table p = slice_index table.from.items p

-- The table has a mark for each bucket, and for each partition the number from which its buckets are looked at.
pub record FitsBuckets (shape : Shape) (table : UsedBuckets) : Type 0 where
  pub marks : length table.used.items ≡ shape.buckets
  pub numbers : length table.from.items ≡ shape.partitions

-- The marks of each partition's buckets say which of them are in its chain. Those before the number from which they are looked at are.
pub record KnowsChains (shape : Shape) (table : UsedBuckets) (chains : ℕ → List ℕ) : Type 0 where
  pub fits : FitsBuckets shape table
  pub marks : (p j : ℕ) → p < shape.partitions → IsInPartition shape p j → IsMarked table j ↔ IsAmong (chains p) (bucket shape j)
  pub begins : (p : ℕ) → p < shape.partitions → first_bucket shape p ≤ from_of table p
  pub passed : (p j : ℕ) → p < shape.partitions → IsInPartition shape p j → j < from_of table p → IsMarked table j

-- the chains with one bucket more, behind that of partition p
abbrev pub with_bucket : ℕ → ℕ → (ℕ → List ℕ) → ℕ → List ℕ
with_bucket p bucket chains q = if q == p then chains p ++ bucket ∷ [] else chains q
