-- The heap of a fresh region: each structure is the empty map of its kind.
use Rattle.std.specs.Prelude.{◌≡◌, ℕ, ◌<◌, ◌≤◌, List, length, slice_index}
use Rattle.persist_model.specs.Shape.{Shape, heap, words_of_shape}
use Rattle.lane_types.specs.Heaps.{Heap}
use Rattle.region_layout.specs.declared.layout.Kind.{Kind}
use Rattle.region_layout.specs.Layout.{IsAllowed}
use Rattle.region_layout.specs.Fresh.{fresh_words}
use Rattle.map_deeds.specs.Maps.{empty_maps}
use Rattle.map_deeds.specs.HistoryLaw.{HoldsMaps}

-- It stands at the place of the shape's heap, and has the words of a fresh region there.
pub record IsFreshHeap (shape : Shape) (kinds : List Kind) (h : Heap) : Type 0 where
  pub start : h.start ≡ heap shape
  pub blocks : h.blocks ≡ shape.blocks
  pub words : (a : ℕ) → heap shape ≤ a → a < words_of_shape shape → h.at a ≡ slice_index (fresh_words shape kinds) a

abbrev pub FreshHeapsAreEmpty : Type 0
FreshHeapsAreEmpty = (shape : Shape) (kinds : List Kind) (h : Heap) → IsAllowed shape → length kinds ≡ shape.structures
    → IsFreshHeap shape kinds h → HoldsMaps kinds h empty_maps
