-- The heap that a lane's words are, and what is still owed to it.
use Rattle.std.specs.Prelude.{◌≡◌, ℕ, ◌+◌, ◌<◌, true, IsTrue, Bool, List, [], if◌then◌else◌, Some}
use Rattle.lane_traits.specs.Space.{Space, IsDataWordOf}
use Rattle.lane_traits.specs.Draft.{is_among, after_writes, of_structure}
use Rattle.lane_traits.specs.declared.draft.WordWrite.{WordWrite}
use Rattle.lane_types.specs.Faces.{WholeFace}
use Rattle.lane_types.specs.Asks.{has_word}
use Rattle.lane_types.specs.Heaps.{Heap, has_bit, block_address, heap_of_holding}
use Rattle.region_layout.specs.HeapBlocks.{land_of}
use Rattle.map_deeds.specs.Meanings.{words_of}

-- the heap of the held structures, now and at the transaction's begin
abbrev pub heap_now : {E : Type 0} → WholeFace E → Heap
heap_now f = heap_of_holding f.base.heap f.words

abbrev pub heap_first : {E : Type 0} → WholeFace E → Heap
heap_first f = heap_of_holding f.base.heap f.first

-- the heap after these writes, with nobody for these blocks, which are named by their addresses
abbrev pub with_change : List WordWrite → List ℕ → Heap → Heap
with_change writes blocks heap = record heap { at = λ a. if is_among blocks a then 0 else after_writes writes heap.at a }

-- what a reader of the lane's words shows
abbrev pub shown : {E : Type 0} → WholeFace E → Space
shown f = record {
  land = land_of f.base.heap.start (words_of (heap_now f)) 0;
  word = words_of (heap_now f);
  spare = [];
  writes = 0;
}

-- The words are the lane's, and the data words of each of its blocks can be read.
pub record Shows {E : Type 0} (f : WholeFace E) (space : Space) (readable : ℕ → Bool) : Type 0 where
  pub space_is : space ≡ shown f
  pub readable_is : (s a : ℕ) → IsDataWordOf (of_structure s (shown f).land) a → IsTrue (readable a)

-- The words of a transaction: each block is one of the heap and a held structure's, its data words are there, and a root is
-- its own structure's.
pub record AreWhole {E : Type 0} (f : WholeFace E) : Type 0 where
  pub inside : (n s : ℕ) → f.words.owner n ≡ Some s → n < f.base.heap.blocks
  pub held : (n s : ℕ) → f.words.owner n ≡ Some s → has_bit f.face.held s ≡ true
  pub words : (n s i : ℕ) → f.words.owner n ≡ Some s → 0 < i → i < 16 → has_word f.words (block_address f.base.heap n + i) ≡ true
  pub roots : (n s : ℕ) → f.words.owner n ≡ Some s → n < f.base.structures → s ≡ n
