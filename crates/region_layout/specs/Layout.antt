-- What a layout says of a region, as a shape.
use Rattle.std.specs.Prelude.{◌≡◌, ◌≢◌, ℕ, ◌+◌, ◌-◌, ◌*◌, ◌/◌, ◌<◌, ◌≤◌}
use Rattle.persist_model.specs.Shape.{Shape, IsCellCount, IsBucketCount, IsBlockCount, IsStructureCount, heap, block, IsHeapWord, first_bucket, count_buckets}
use Rattle.region_layout.specs.declared.layout.Kind.{Kind}
use Rattle.region_layout.specs.declared.layout.Kind.TheVariants.{Cells, Tree, Hash}
use Rattle.region_layout.specs.declared.layout.Policy.{Policy}
use Rattle.region_layout.specs.declared.layout.Policy.TheVariants.{Force, NoForce}
use Rattle.region_layout.specs.declared.layout.Layout.{Layout}
use Rattle.region_layout.specs.declared.layout.Buckets.{Buckets}

abbrev pub policy_number : Policy → ℕ
policy_number Force = 1
policy_number NoForce = 2

abbrev pub kind_number : Kind → ℕ
kind_number Cells = 1
kind_number Tree = 2
kind_number Hash = 3

abbrev pub layout_shape : Layout → Shape
layout_shape layout = record {
  policy = policy_number layout.policy;
  cells = layout.cells;
  buckets = layout.buckets;
  blocks = layout.blocks;
  structures = layout.structures;
  format = layout.format;
  partitions = layout.partitions;
}

-- a shape that a region may have
pub record IsAllowed (shape : Shape) : Type 0 where
  pub policy : (1 ≤ shape.policy) × (shape.policy ≤ 2)
  pub cells : IsCellCount shape.cells
  pub buckets : IsBucketCount shape.buckets
  pub blocks : IsBlockCount shape.blocks
  pub structures : IsStructureCount shape.structures
  pub format : (1 ≤ shape.format) × (shape.format ≤ 2)
  pub partitions : (1 ≤ shape.partitions) × (shape.partitions ≤ 3)
  pub whole : shape.format ≡ 1 → shape.partitions ≡ 1
  pub split : 4 * shape.partitions ≤ shape.buckets

-- the number of the block that has this heap word
abbrev pub block_number : Shape → ℕ → ℕ
block_number shape a = (a - heap shape) / 16

-- a heap word that isn't word 0 of a block
abbrev pub IsDataWord : Shape → ℕ → Type 0
IsDataWord shape a = IsHeapWord shape a × (a ≢ block shape (block_number shape a))

-- the buckets of a partition
abbrev pub IsPartition : Shape → ℕ → Buckets → Type 0
IsPartition shape p part = (part.first ≡ first_bucket shape p) × (part.count ≡ count_buckets shape p)

abbrev pub IsInPart : Buckets → ℕ → Type 0
IsInPart part j = (part.first ≤ j) × (j < part.first + part.count)
