-- Why an ask is refused, by what the book keeps.
use Rattle.std.specs.Prelude.{◌≡◌, ◌≢◌, ℕ, ◌+◌, ◌-◌, ◌/◌, ◌<◌, ◌≤◌, Bool, true, false, ◌&&◌, ◌==◌, if◌then◌else◌, List, [], ◌∷◌, slice_get, Option, Some, None}
use Rattle.std.specs.List.{list_any}
use Rattle.persist_model.specs.Shape.{heap, IsHeapWord}
use Rattle.lane_traits.specs.declared.draft.WordWrite.{WordWrite}
use Rattle.lane_types.specs.declared.call.Call.{Call}
use Rattle.lane_types.specs.declared.call.Refusal.{Refusal}
use Rattle.lane_types.specs.Heaps.{has_bit, names_in, is_data}
use Rattle.lane_types.specs.Faces.{Base, WholeFace}
use Rattle.lane_types.specs.Asks.{is_there, is_logged, is_take, wanted, Fits, Why}
use Rattle.lane_types.specs.May.{AreData}
use Rattle.region_layout.specs.declared.layout.Layout.{Layout}
use Rattle.region_layout.specs.Layout.{layout_shape}
use Rattle.offset_alloc.specs.declared.Standing.{Standing}
use Rattle.offset_alloc.specs.declared.Standing.TheVariants.{Free, Owned, Pending}
use Rattle.offset_alloc.specs.Blocks.{IsFree}
use Rattle.lane_book.specs.declared.lane.Lane.{Lane}
use Rattle.lane_book.specs.declared.book.Book.{Book}
use Rattle.lane_book.specs.FacesOf.{lane_at}
use Rattle.lane_book.specs.Steps.{held_by}

-- a structure plus 1, or 0 for nobody
abbrev pub owner_number : Option Standing → ℕ
owner_number None = 0
owner_number (Some Free) = 0
owner_number (Some (Owned s)) = s + 1
owner_number (Some Pending) = 0

-- the owner of the block as the lane sees it: nobody where the lane gave it
abbrev pub owner_seen : {E : Type 0} → List Standing → Lane E → ℕ → ℕ
owner_seen blocks lane block = if list_any (λ given. block == given) lane.gives.items then 0 else owner_number (slice_get blocks block)

-- the block is the lane's
abbrev pub is_mine : {E : Type 0} → List Standing → Lane E → ℕ → Bool
is_mine blocks lane block = names_in lane.held (owner_seen blocks lane block)

-- the block of the heap word
abbrev pub block_in : Layout → ℕ → ℕ
block_in layout a = (a - heap (layout_shape layout)) / 16

-- each of the words is the lane's
abbrev pub are_mine : {E : Type 0} → Layout → List Standing → Lane E → List WordWrite → Bool
are_mine layout blocks lane [] = true
are_mine layout blocks lane (w ∷ writes) = is_mine blocks lane (block_in layout w.address) && are_mine layout blocks lane writes

-- what the call names is the lane's
abbrev pub names_mine : {E : Type 0} → Layout → List Standing → Lane E → Call E → Bool
names_mine layout blocks lane (Call.Begin set) = true
names_mine layout blocks lane (Call.Read a) = is_mine blocks lane (block_in layout a)
names_mine layout blocks lane (Call.Write a v) = is_mine blocks lane (block_in layout a)
names_mine layout blocks lane (Call.Take s) = has_bit lane.held s
names_mine layout blocks lane (Call.Give block) = is_mine blocks lane block
names_mine layout blocks lane (Call.Commit deed) = true
names_mine layout blocks lane Call.Abort = true
names_mine layout blocks lane Call.Checkpoint = true
names_mine layout blocks lane (Call.Batch writes) = are_mine layout blocks lane writes
names_mine layout blocks lane Call.Savepoint = true
names_mine layout blocks lane (Call.RollbackTo n) = true

-- the owner of the first of the words that isn't the lane's
abbrev pub first_owner : {E : Type 0} → Layout → List Standing → Lane E → List WordWrite → ℕ
first_owner layout blocks lane [] = 0
first_owner layout blocks lane (w ∷ writes) =
    if is_mine blocks lane (block_in layout w.address) then first_owner layout blocks lane writes
    else owner_seen blocks lane (block_in layout w.address)

-- the owner that a refusal names
abbrev pub owner_told : {E : Type 0} → Layout → List Standing → Lane E → Call E → ℕ
owner_told layout blocks lane (Call.Begin set) = 0
owner_told layout blocks lane (Call.Read a) = owner_seen blocks lane (block_in layout a)
owner_told layout blocks lane (Call.Write a v) = owner_seen blocks lane (block_in layout a)
owner_told layout blocks lane (Call.Take s) = s + 1
owner_told layout blocks lane (Call.Give block) = owner_seen blocks lane block
owner_told layout blocks lane (Call.Commit deed) = 0
owner_told layout blocks lane Call.Abort = 0
owner_told layout blocks lane Call.Checkpoint = 0
owner_told layout blocks lane (Call.Batch writes) = first_owner layout blocks lane writes
owner_told layout blocks lane Call.Savepoint = 0
owner_told layout blocks lane (Call.RollbackTo n) = 0

-- what is told of what a call names: nothing where it is the lane's, else its owner
abbrev pub Tells : Bool → ℕ → Option ℕ → Type 0
Tells mine owner None = mine ≡ true
Tells mine owner (Some told) = (mine ≡ false) × (told ≡ owner)

-- the owners are structures
abbrev pub AreStructures : List Standing → Type 0
AreStructures blocks = (block s : ℕ) → slice_get blocks block ≡ Some (Owned s) → s < 8

abbrev pub AreHeapWords : Layout → List WordWrite → Type 0
AreHeapWords layout [] = Unit {0}
AreHeapWords layout (w ∷ writes) = IsHeapWord (layout_shape layout) w.address × AreHeapWords layout writes

-- what the call names is in the region
abbrev pub NamesInside : {E : Type 0} → Layout → Call E → Type 0
NamesInside layout (Call.Begin set) = Unit {0}
NamesInside layout (Call.Read a) = IsHeapWord (layout_shape layout) a
NamesInside layout (Call.Write a v) = IsHeapWord (layout_shape layout) a
NamesInside layout (Call.Take s) = s < 8
NamesInside layout (Call.Give block) = block < layout.blocks
NamesInside layout (Call.Commit deed) = Unit {0}
NamesInside layout Call.Abort = Unit {0}
NamesInside layout Call.Checkpoint = Unit {0}
NamesInside layout (Call.Batch writes) = AreHeapWords layout writes
NamesInside layout Call.Savepoint = Unit {0}
NamesInside layout (Call.RollbackTo n) = Unit {0}

-- no block can be taken
abbrev pub NoneIsFree : List Standing → Type 0
NoneIsFree blocks = (k : ℕ) → IsFree blocks k → ⊥

-- the call is in its phase and names what is the lane's, and the log has room for it
pub record Passes {E : Type 0} (layout : Layout) (room need : ℕ) (blocks : List Standing) (lane : Lane E) (call : Call E) : Type 0 where
  pub phase : lane.phase ≡ wanted call
  pub mine : names_mine layout blocks lane call ≡ true
  pub room_is_there : is_logged call ≡ true → need ≤ room

-- Each refusal has its cause, and none that comes before it.
pub data IsRefusedBy {E : Type 0} (layout : Layout) (room need : ℕ) (blocks : List Standing) (lane : Lane E) (call : Call E) : Refusal → Type 0 where
  by_phase : lane.phase ≢ wanted call → IsRefusedBy layout room need blocks lane call (Refusal.WrongPhase lane.phase)
  by_owner : lane.phase ≡ wanted call → names_mine layout blocks lane call ≡ false →
      IsRefusedBy layout room need blocks lane call (Refusal.NotHeld (owner_told layout blocks lane call))
  by_room : lane.phase ≡ wanted call → names_mine layout blocks lane call ≡ true → is_logged call ≡ true → room < need →
      IsRefusedBy layout room need blocks lane call (Refusal.LogFull room need)
  by_heap : Passes layout room need blocks lane call → is_take call ≡ true → NoneIsFree blocks →
      IsRefusedBy layout room need blocks lane call Refusal.HeapFull

-- nothing stands against the call but want of memory
pub record IsAdmitted {E : Type 0} (layout : Layout) (room need : ℕ) (blocks : List Standing) (lane : Lane E) (call : Call E) : Type 0 where
  pub passes : Passes layout room need blocks lane call
  pub free : is_take call ≡ true → NoneIsFree blocks → ⊥

-- The book's blocks are the heap's, and the lane's are those that it holds.
pub record ShowsBlocks {E : Type 0} (layout : Layout) (book : Book E) (l : ℕ) (base : Base) : Type 0 where
  pub start : base.heap.start ≡ heap (layout_shape layout)
  pub blocks : base.heap.blocks ≡ layout.blocks
  pub mine : (block : ℕ) → block < layout.blocks → is_mine book.blocks (lane_at book l) block ≡ is_there ((held_by base book l).owner block)

-- the refusal has its cause, or nothing stands against the call
abbrev pub Decides : {E : Type 0} → Layout → ℕ → ℕ → List Standing → Lane E → Call E → Option Refusal → Type 0
Decides layout room need blocks lane call None = IsAdmitted layout room need blocks lane call
Decides layout room need blocks lane call (Some refusal) = IsRefusedBy layout room need blocks lane call refusal

-- what the call names are data words and blocks of the heap that stood at the start
abbrev pub NamesData : {E : Type 0} → Base → Layout → Call E → Type 0
NamesData base layout (Call.Begin set) = Unit {0}
NamesData base layout (Call.Read a) = is_data base.heap a ≡ true
NamesData base layout (Call.Write a v) = is_data base.heap a ≡ true
NamesData base layout (Call.Take s) = Unit {0}
NamesData base layout (Call.Give block) = block < layout.blocks
NamesData base layout (Call.Commit deed) = Unit {0}
NamesData base layout Call.Abort = Unit {0}
NamesData base layout Call.Checkpoint = Unit {0}
NamesData base layout (Call.Batch writes) = AreData base.heap writes
NamesData base layout Call.Savepoint = Unit {0}
NamesData base layout (Call.RollbackTo n) = Unit {0}

-- the lane's whole face says why, or that the call fits it
abbrev pub Told : {E : Type 0} → WholeFace E → Call E → Option Refusal → Type 0
Told f call None = Fits f call
Told f call (Some refusal) = Why refusal f call
