-- What a lane may ask of a world, whatever its phase.
use Rattle.std.specs.Prelude.{◌≡◌, ◌≢◌, ℕ, ◌<◌, ◌≤◌, ◌^◌, true, List, [], ◌∷◌, slice_index}
use Rattle.persist_model.specs.Chain.{HasNoRepeats}
use Rattle.lane_traits.specs.declared.draft.WordWrite.{WordWrite}
use Rattle.lane_traits.specs.Draft.{addresses}
use Rattle.lane_types.specs.declared.call.Call.{Call}
use Rattle.lane_types.specs.declared.call.Call.TheVariants.{Begin, Read, Write, Take, Give, Commit, Abort, Checkpoint, Batch, Savepoint, RollbackTo}
use Rattle.lane_types.specs.Deeds.{Deeds}
use Rattle.lane_types.specs.Heaps.{Heap, is_data, heap_of_holding}
use Rattle.lane_types.specs.Faces.{WholeFace}

-- some of the region's structures, and not too many transactions
pub record MayBegin {E : Type 0} (f : WholeFace E) (set : ℕ) : Type 0 where
  pub some : set ≢ 0
  pub inside : set < 2 ^ f.base.structures
  pub few : f.face.begun < 2 ^ 59

-- a block that isn't a root
pub record MayGive {E : Type 0} (f : WholeFace E) (block : ℕ) : Type 0 where
  pub inside : block < f.base.heap.blocks
  pub no_root : f.base.structures ≤ block

-- The deed is of the held structures, and means what the transaction did to them.
pub record MayCommit {E : Type 0} (deeds : Deeds E) (f : WholeFace E) (deed : E) : Type 0 where
  pub names : deeds.names deed ≡ f.face.held
  pub sorts : deeds.sorts deed ≡ f.base.sorts
  pub means : deeds.means deed (heap_of_holding f.base.heap f.first) (heap_of_holding f.base.heap f.words)

abbrev pub AreData : Heap → List WordWrite → Type 0
AreData heap [] = Unit {0}
AreData heap (w ∷ writes) = (is_data heap w.address ≡ true) × AreData heap writes

-- some data words, each once, in a region with buckets of 16 cells
pub record MayBatch {E : Type 0} (f : WholeFace E) (writes : List WordWrite) : Type 0 where
  pub cells : slice_index f.base.header 2 ≡ 16
  pub some : writes ≢ []
  pub once : HasNoRepeats (addresses writes)
  pub data_words : AreData f.base.heap writes

abbrev pub May : {E : Type 0} → Deeds E → WholeFace E → Call E → Type 0
May deeds f (Begin set) = MayBegin f set
May deeds f (Read a) = is_data f.base.heap a ≡ true
May deeds f (Write a v) = is_data f.base.heap a ≡ true
May deeds f (Take s) = s < f.base.structures
May deeds f (Give block) = MayGive f block
May deeds f (Commit deed) = MayCommit deeds f deed
May deeds f Abort = Unit {0}
May deeds f Checkpoint = Unit {0}
May deeds f (Batch writes) = MayBatch f writes
May deeds f Savepoint = Unit {0}
May deeds f (RollbackTo n) = n < f.face.live
