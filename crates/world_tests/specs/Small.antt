-- Regions of the tests: two structures, and a heap of 16 blocks.
use Rattle.std.specs.Prelude.{◌≡◌, ℕ, []}
use Rattle.persist_model.specs.Shape.{Shape, heap}
use Rattle.lane_types.specs.Faces.{Base}

-- the sizes, with the heap at this address
pub record HasSizes (start : ℕ) (shape : Shape) : Type 0 where
  pub structures : shape.structures ≡ 2
  pub blocks : shape.blocks ≡ 16
  pub heap : heap shape ≡ start

-- What stood where the world began has these sizes, and the deeds have nothing in common.
pub record IsSmall (start : ℕ) (base : Base) : Type 0 where
  pub structures : base.structures ≡ 2
  pub blocks : base.heap.blocks ≡ 16
  pub heap : base.heap.start ≡ start
  pub sorts : base.sorts ≡ []
