-- What is tried of the header of a region.
use Rattle.std.specs.Prelude.{◌≡◌, ℕ, ◌+◌, ◌<◌}
use Rattle.std.specs.List.{range_with_len}
use Rattle.persist_model.specs.ImageRules.{SIZES_RULE}
use Rattle.persist_model.specs.Region.{Words}
use Rattle.persist_model.specs.Shape.{SECOND_MAGIC, shape_of, IsBucketCount, IsBlockCount, IsStructureCount, IsPartitionCount, IsKind, IsShape}
use Rattle.persist_model.specs.Faults.{Tried, TriedEach, NoFault, IsShapeFault}
use Rattle.region_layout.specs.Layout.{IsAllowed}

-- the sizes that a header says are within their limits, and the kinds are kinds
pub record HasSizes (w : Words) : Type 0 where
  pub buckets : IsBucketCount (w 3)
  pub blocks : IsBlockCount (w 4)
  pub structures : IsStructureCount (w 5)
  pub partitions : w 0 ≡ SECOND_MAGIC → IsPartitionCount (w 3) (w 6)
  pub kinds : w 0 ≡ SECOND_MAGIC → (s : ℕ) → s < w 5 → IsKind (w (13 + s))

-- a is the first word of 13 and on, as many as there are structures, that isn't a kind
abbrev pub IsWrongKind : Words → ℕ → ℕ → Type 0
IsWrongKind w = TriedEach (λ a. w 0 ≡ SECOND_MAGIC → IsKind (w a)) SIZES_RULE (λ a. a) (range_with_len 13 (w 5)) NoFault

-- a is the first word that a header has wrong, of its sizes and kinds
abbrev pub IsWrongSize : Words → ℕ → ℕ → Type 0
IsWrongSize w =
    Tried (IsBucketCount (w 3)) SIZES_RULE 3 (
    Tried (IsBlockCount (w 4)) SIZES_RULE 4 (
    Tried (IsStructureCount (w 5)) SIZES_RULE 5 (
    Tried (w 0 ≡ SECOND_MAGIC → IsPartitionCount (w 3) (w 6)) SIZES_RULE 6 (
    IsWrongKind w))))

-- A shape that a header says is one that a region may have, and words that have a fault have no shape.
pub record ShapesAreRead : Type 0 where
  pub allowed : (size : ℕ) (w : Words) → IsShape size w → IsAllowed (shape_of w)
  pub refused : (size : ℕ) (w : Words) (fault a : ℕ) → IsShapeFault size w fault a → IsShape size w → ⊥
  pub one : (size : ℕ) (w : Words) (fault a other b : ℕ) → IsShapeFault size w fault a → IsShapeFault size w other b → (fault ≡ other) × (a ≡ b)
