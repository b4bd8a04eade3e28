-- What is asked of the words that recovery begins with.
use Rattle.std.specs.Prelude.{◌≡◌, ℕ, ◌<◌, ◌≤◌, List, map, reverse}
use Rattle.persist_model.specs.Region.{Words}
use Rattle.persist_model.specs.Shape.{shape_of}
use Rattle.persist_model.specs.State.{State, IsSoundState}
use Rattle.persist_model.specs.Sound.{IsSound}
use Rattle.region_layout.specs.declared.layout.Layout.{Layout}
use Rattle.region_layout.specs.Layout.{layout_shape, IsAllowed}
use Rattle.bucket_log.specs.declared.scanning.Placed.{Placed}
use Rattle.bucket_log.specs.Scans.{record_of_placed}

-- these many words are a sound image of this layout
pub record IsSoundImage (layout : Layout) (size : ℕ) (w : Words) : Type 0 where
  pub sound : IsSound size w
  pub has_layout : shape_of w ≡ layout_shape layout

-- these are the records of a sound state, and no partition has more room than its buckets have cells
pub record IsSoundMerge (layout : Layout) (merged : List Placed) : Type 0 where
  pub allowed : IsAllowed (layout_shape layout)
  pub state : State
  pub sound : IsSoundState (layout_shape layout) state
  pub log_is : reverse (map record_of_placed merged) ≡ state.log
  pub room : (p : ℕ) → p < layout.partitions → state.room p ≤ 16400
