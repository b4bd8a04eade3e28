-- What a world keeps so that its history is lawful. For now no block is given.
use Rattle.std.specs.Prelude.{◌≡◌, ◌≢◌, ℕ, ◌≤◌, ◌<◌, List, []}
use Rattle.lane_traits.specs.declared.draft.WordWrite.{WordWrite}
use Rattle.region_layout.specs.declared.layout.Layout.{Layout}
use Rattle.offset_alloc.specs.declared.Standing.{Standing}
use Rattle.offset_alloc.specs.Blocks.{IsFree}
use Rattle.lane_types.specs.declared.face.Entry.{Entry}
use Rattle.lane_types.specs.Deeds.{Deeds}
use Rattle.lane_types.specs.Heaps.{Heap, block_address, block_of}
use Rattle.lane_types.specs.Histories.{after_entries}
use Rattle.lane_types.specs.Faces.{Base}
use Rattle.lane_book.specs.declared.book.Book.{Book}
use Rattle.lane_book.specs.FacesOf.{lane_at}
use Rattle.lawful_book.specs.LawfulBooks.{Each}
use Rattle.lawful_book.specs.OwnedBooks.{IsOwnedBook}

-- no write of these is in the block
abbrev pub LeavesBlock : Heap → ℕ → List WordWrite → Type 0
LeavesBlock heap k writes = Each (λ (w : WordWrite). block_of heap w.address ≢ k) writes

-- A block that is nobody's in the heap of the history has the words of the start: no entry writes in it.
abbrev pub AreUnwritten : {E : Type 0} → Heap → List (Entry E) → Type 0
AreUnwritten heap history = (k : ℕ) → k < heap.blocks → after_entries history heap.at (block_address heap k) ≡ 0 →
    Each (λ (e : Entry _). LeavesBlock heap k e.writes) history

-- no root can be taken
abbrev pub NoRootIsFree : ℕ → List Standing → Type 0
NoRootIsFree structures blocks = (k : ℕ) → IsFree blocks k → structures ≤ k

pub record IsLawfulWorld {E : Type 0} (deeds : Deeds E) (layout : Layout) (base : Base) (book : Book E) : Type 0 where
  pub owned : IsOwnedBook deeds layout base book
  pub no_gives : (l : ℕ) → (lane_at book l).gives.items ≡ []
  pub unwritten : AreUnwritten base.heap book.history.items
  pub no_root : NoRootIsFree layout.structures book.blocks
