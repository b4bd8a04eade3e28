-- What commits mean.
use Rattle.std.specs.Prelude.{ℕ, List}
use Rattle.lane_types.specs.Heaps.{Heap}

-- how a deed changes a heap, the structures that it names, as a set, and what the deeds of one world have in common
pub record Deeds (E : Type 0) : Type 1 where
  pub means : E → Heap → Heap → Type 0
  pub names : E → ℕ
  pub sorts : E → List ℕ
