-- What a book keeps so that its history stays lawful where blocks are taken and given. Whose a block is the book tells by its standing; the owner words of
-- the history's heap say it with a delay: a taken block is nobody's there until its taker's entry joins.
use Rattle.std.specs.Prelude.{◌≡◌, ◌≢◌, ℕ, ◌+◌, ◌-◌, ◌^◌, ◌<◌, Bool, true, false, ◌&&◌, nat_lt, List, [], ◌∷◌, ◌++◌, drop, length, slice_get, Some, None}
use Rattle.std.specs.List.{filter}
use Rattle.persist_model.specs.Region.{Words}
use Rattle.lane_traits.specs.Draft.{is_among, after_writes}
use Rattle.lane_traits.specs.declared.draft.WordWrite.{WordWrite}
use Rattle.region_layout.specs.declared.layout.Layout.{Layout}
use Rattle.offset_alloc.specs.declared.Standing.{Standing}
use Rattle.offset_alloc.specs.declared.Standing.TheVariants.{Free}
use Rattle.lane_types.specs.declared.face.Entry.{Entry}
use Rattle.lane_types.specs.Deeds.{Deeds}
use Rattle.lane_types.specs.Heaps.{Heap, AreAlike, has_bit, names_in, is_data, block_address, block_of, with_writes}
use Rattle.lane_types.specs.Histories.{Lawful, HaveSorts, after_entries}
use Rattle.lane_types.specs.Faces.{Base}
use Rattle.lane_book.specs.declared.lane.Lane.{Lane}
use Rattle.lane_book.specs.declared.lane.Doing.{Doing}
use Rattle.lane_book.specs.declared.book.Book.{Book}
use Rattle.lane_book.specs.FacesOf.{lane_at, is_of, front, waiting_writes, begun_heap}
use Rattle.lane_book.specs.Entries.{AreBlocks, writes_of_entry}
use Rattle.lane_book.specs.Refusals.{owner_number, is_mine}
use Rattle.lane_book.specs.Owed.{sum_of}
use Rattle.lawful_book.specs.LawfulBooks.{Each, IsBefore, AreCounted, MayTake, is_inside, IsHeapOf, AreApart, AreOfOne}

-- ---- blocks

-- the owner that a block's standing names: a structure plus 1, or 0 for nobody
abbrev pub owner_in : List Standing → ℕ → ℕ
owner_in blocks k = owner_number (slice_get blocks k)

-- a structure of the set has the block
abbrev pub is_ours : ℕ → List Standing → ℕ → Bool
is_ours set blocks k = names_in set (owner_in blocks k)

-- a data word of a block that the lane has and didn't give
abbrev pub is_own_word : {E : Type 0} → Heap → List Standing → Lane E → ℕ → Bool
is_own_word heap blocks lane a = is_data heap a && (nat_lt (block_of heap a) heap.blocks && is_mine blocks lane (block_of heap a))

-- What the owner words of these words say of the blocks: a structure's block is owned, an owned one is of that structure or of nobody, and a free one is
-- nobody's.
pub record AreTold (structures : ℕ) (heap : Heap) (now : Words) (blocks : List Standing) : Type 0 where
  pub named : (k s : ℕ) → owner_in blocks k ≡ s + 1 → s < structures
  pub owned : (k s : ℕ) → k < heap.blocks → s < structures → now (block_address heap k) ≡ s + 1 → owner_in blocks k ≡ s + 1
  pub real : (k s t : ℕ) → k < heap.blocks → owner_in blocks k ≡ s + 1 → now (block_address heap k) ≡ t + 1 → t ≡ s
  pub free : (k : ℕ) → k < heap.blocks → slice_get blocks k ≡ Some Free → now (block_address heap k) ≡ 0

-- What stands of these blocks for a set: it has the same ones.
pub record StandsFor (set : ℕ) (blocks later : List Standing) : Type 0 where
  pub kept : (k : ℕ) → is_ours set blocks k ≡ true → owner_in later k ≡ owner_in blocks k
  pub none_new : (k : ℕ) → is_ours set later k ≡ true → owner_in later k ≡ owner_in blocks k

-- ---- a lane's writes

-- A write of a data word of a block that the set has, or of the owner word of one that was nobody's at the begin.
pub data IsOwnWrite (set : ℕ) (heap : Heap) (begun : Words) (blocks : List Standing) (w : WordWrite) : Type 0 where
  of_data : is_data heap w.address ≡ true → is_ours set blocks (block_of heap w.address) ≡ true → IsOwnWrite set heap begun blocks w
  of_owner : (k : ℕ) → w.address ≡ block_address heap k → k < heap.blocks → w.value ≡ owner_in blocks k → is_ours set blocks k ≡ true →
      begun (block_address heap k) ≡ 0 → IsOwnWrite set heap begun blocks w

-- Until the entry joins: the writes and gives are of the set's blocks, no word of these is another than at the begin but by the lane's own writes, and
-- the owner words with those say what the blocks' standing says.
pub record AreOpen (set : ℕ) (heap : Heap) (begun now : Words) (blocks : List Standing) (writes : List WordWrite) (gives : List ℕ) : Type 0 where
  pub writes_are : Each (IsOwnWrite set heap begun blocks) writes
  pub gives_are : Each (λ k. is_ours set blocks k ≡ true) gives
  pub same : (a : ℕ) → is_ours set blocks (block_of heap a) ≡ true → begun a ≡ now a
  pub first : (k : ℕ) → k < heap.blocks → names_in set (begun (block_address heap k)) ≡ true → owner_in blocks k ≡ begun (block_address heap k)
  pub shown : (k : ℕ) → k < heap.blocks → is_ours set blocks k ≡ true → after_writes writes begun (block_address heap k) ≡ owner_in blocks k

-- Behind that the history's heap has them, and what the set has by the blocks' standing it has by the owner words.
pub record AreJoined (set : ℕ) (heap : Heap) (begun now : Words) (blocks : List Standing) (writes : List WordWrite) : Type 0 where
  pub alike : AreAlike set (record heap { at = after_writes writes begun }) (record heap { at = now })
  pub shown : (k : ℕ) → k < heap.blocks → is_ours set blocks k ≡ true → now (block_address heap k) ≡ owner_in blocks k

-- ---- entries

-- The entry of a commit in progress: its writes are the lane's, and behind them those that take the given blocks from their owners.
pub record IsNext {E : Type 0} (deeds : Deeds E) (layout : Layout) (base : Base) (begun : Heap) (l : ℕ) (lane : Lane E) (e : Entry E) : Type 0 where
  pub some : lane.transaction ≢ 0
  pub new : lane.entered ≡ false
  pub call : lane.doing ≡ Doing.Commit
  pub lane_is : e.lane ≡ l
  pub number : lane.begun ≡ e.number + 1
  pub transaction : e.transaction ≡ lane.transaction
  pub writes : e.writes ≡ writes_of_entry layout lane
  pub names : deeds.names e.deed ≡ lane.held
  pub sorts : deeds.sorts e.deed ≡ base.sorts
  pub means : ∥ deeds.means e.deed begun (with_writes e.writes begun) ∥₁

-- ---- lanes

-- a call that takes or gives a block
abbrev pub moves_block : Doing → Bool
moves_block (Doing.Take s k) = true
moves_block (Doing.Give k) = true
moves_block _ = false

-- The block that is being taken was nobody's for the lane, which hasn't given it.
pub record IsTaking {E : Type 0} (heap : Heap) (begun : Words) (s k : ℕ) (lane : Lane E) : Type 0 where
  pub inside : k < heap.blocks
  pub held : has_bit lane.held s ≡ true
  pub new : names_in lane.held (after_writes (front 1 lane.writes.items) begun (block_address heap k)) ≡ false
  pub not_given : is_among lane.gives.items k ≡ false
  pub last : lane.writes.items ≡ front 1 lane.writes.items ++ record { address = block_address heap k; value = s + 1 } ∷ []

pub record IsOwnedLane {E : Type 0} (deeds : Deeds E) (layout : Layout) (base : Base) (blocks : List Standing) (history : List (Entry E)) (next l : ℕ) (lane : Lane E) : Type 0 where
  pub inside : lane.held < 2 ^ base.structures
  pub gives_inside : AreBlocks layout lane.gives.items
  pub open_is : lane.entered ≡ false → AreOpen lane.held base.heap (begun_heap base history lane).at (after_entries history base.heap.at) blocks lane.writes.items lane.gives.items
  pub joined_is : lane.entered ≡ true → AreJoined lane.held base.heap (begun_heap base history lane).at (after_entries history base.heap.at) blocks (writes_of_entry layout lane)
  pub own_read : (a : ℕ) → lane.doing ≡ Doing.Read a → is_own_word base.heap blocks lane a ≡ true
  pub own_write : (a v : ℕ) → lane.doing ≡ Doing.Write a v → is_own_word base.heap blocks lane a ≡ true
  pub own_last : moves_block lane.doing ≡ false → Each (λ w. is_own_word base.heap blocks lane w.address ≡ true) (drop (length lane.writes.items - waiting_writes lane.doing) lane.writes.items)
  pub own_take : (s k : ℕ) → lane.doing ≡ Doing.Take s k → IsTaking base.heap (begun_heap base history lane).at s k lane
  pub own_set : (set : ℕ) → lane.doing ≡ Doing.Begin set → MayTake base.structures lane.begun set
  pub begun : lane.transaction < next
  pub counts : AreCounted lane.begun lane.commits lane.transaction lane.entered
  pub running : is_inside lane.phase lane.doing ≡ true → lane.transaction ≢ 0
  pub entering : lane.entered ≡ true → lane.doing ≡ Doing.Commit
  pub before : Each (IsBefore l lane.begun lane.transaction lane.entered) history
  pub has_entry : lane.doing ≡ Doing.Commit → lane.entered ≡ false → lane.entry ≢ None
  pub has_joined : lane.entered ≡ true → filter (is_of l) history ≢ []
  pub coming : (e : Entry E) → lane.entry ≡ Some e → IsNext deeds layout base (begun_heap base history lane) l lane e

-- ---- the book

-- of a structure that no lane holds the owner words say what the blocks' standing says
abbrev pub AreLoose : {E : Type 0} → Heap → Words → Book E → Type 0
AreLoose heap now book = (k s : ℕ) → k < heap.blocks → ((l : ℕ) → has_bit (lane_at book l).held s ≡ false) → owner_in book.blocks k ≡ s + 1 → now (block_address heap k) ≡ s + 1

pub record IsOwnedBook {E : Type 0} (deeds : Deeds E) (layout : Layout) (base : Base) (book : Book E) : Type 0 where
  pub place : IsHeapOf layout base
  pub many : length book.blocks ≡ layout.blocks
  pub told : AreTold base.structures base.heap (after_entries book.history.items base.heap.at) book.blocks
  pub loose : AreLoose base.heap (after_entries book.history.items base.heap.at) book
  pub lawful : ∥ Lawful deeds base.heap book.history.items ∥₁
  pub sorts : HaveSorts deeds base.sorts book.history.items
  pub past : Each (λ e. e.transaction < book.next_transaction) book.history.items
  pub numbers : book.next_transaction ≡ sum_of (λ lane. lane.begun) book + 1
  pub lanes : (l : ℕ) → IsOwnedLane deeds layout base book.blocks book.history.items book.next_transaction l (lane_at book l)
  pub apart : AreApart book
  pub of_one : AreOfOne book
