-- The entry of a commit.
use Rattle.std.specs.Prelude.{ℕ, ◌-◌, ◌<◌, List, [], ◌∷◌, ◌++◌, map, Some}
use Rattle.lane_traits.specs.declared.draft.WordWrite.{WordWrite}
use Rattle.region_layout.specs.declared.layout.Layout.{Layout}
use Rattle.region_layout.specs.Layout.{layout_shape}
use Rattle.persist_model.specs.Shape.{block}
use Rattle.lane_types.specs.declared.call.Call.{Call}
use Rattle.lane_types.specs.declared.face.Entry.{Entry}
use Rattle.lane_book.specs.declared.lane.Lane.{Lane}
use Rattle.lane_book.specs.declared.lane.Doing.{Doing}
use Rattle.lane_book.specs.Lanes.{asked_lane}

-- the write that takes the block from its owner
abbrev pub disowned : Layout → ℕ → WordWrite
disowned layout k = record { address = block (layout_shape layout) k; value = 0 }

abbrev pub AreBlocks : Layout → List ℕ → Type 0
AreBlocks layout [] = Unit {0}
AreBlocks layout (k ∷ blocks) = (k < layout.blocks) × AreBlocks layout blocks

-- the writes of the transaction in their order, and then those of the given blocks
abbrev pub writes_of_entry : {E : Type 0} → Layout → Lane E → List WordWrite
writes_of_entry layout lane = lane.writes.items ++ map (disowned layout) lane.gives.items

abbrev pub entry_of : {E : Type 0} → ℕ → E → List WordWrite → Lane E → Entry E
entry_of l deed writes lane = record { lane = l; number = lane.begun - 1; transaction = lane.transaction; deed = deed; writes = writes }

-- the commit is the call of lane l
abbrev pub committing : {E : Type 0} → ℕ → E → List WordWrite → Lane E → Lane E
committing l deed writes lane = record (asked_lane (Call.Commit deed) Doing.Commit 0 lane) { entry = Some (entry_of l deed writes lane) }
