-- What follows from what a book with takes and gives keeps, and what keeps it.
use Rattle.std.specs.Prelude.{◌≡◌, ◌≢◌, ℕ, ◌+◌, ◌-◌, ◌^◌, ◌<◌, ◌≤◌, Bool, true, false, List, [], ◌∷◌, ◌++◌, length, drop, slice_get, get_or, slice_set, Option, Some, None}
use Rattle.std.specs.List.{filter, list_any}
use Rattle.lane_traits.specs.Draft.{is_among, has_address}
use Rattle.lane_traits.specs.declared.draft.WordWrite.{WordWrite}
use Rattle.region_layout.specs.declared.layout.Layout.{Layout}
use Rattle.region_layout.specs.Layout.{layout_shape}
use Rattle.offset_alloc.specs.declared.Standing.{Standing}
use Rattle.offset_alloc.specs.declared.Standing.TheVariants.{Free, Owned, Pending}
use Rattle.offset_alloc.specs.Blocks.{AreAsOwned}
use Rattle.lane_types.specs.declared.call.Call.{Call}
use Rattle.lane_types.specs.declared.call.Phase.{Phase}
use Rattle.lane_types.specs.declared.call.Reply.{Reply}
use Rattle.lane_types.specs.declared.call.Reply.TheVariants.{Committed}
use Rattle.lane_types.specs.declared.call.Stepped.{Stepped}
use Rattle.lane_types.specs.declared.face.Entry.{Entry}
use Rattle.lane_types.specs.Deeds.{Deeds}
use Rattle.lane_types.specs.Heaps.{Heap, is_data, block_address, block_of}
use Rattle.lane_types.specs.Histories.{after_entries}
use Rattle.lane_types.specs.Faces.{Base, phase_after}
use Rattle.lane_types.specs.Asks.{is_there, has_word, has_all, Fits}
use Rattle.lane_types.specs.May.{AreData, MayCommit, May}
use Rattle.lane_book.specs.declared.lane.Lane.{Lane}
use Rattle.lane_book.specs.declared.lane.Doing.{Doing}
use Rattle.lane_book.specs.declared.book.Book.{Book}
use Rattle.lane_book.specs.Lanes.{moved, left, entered_lane, with_lane, with_history}
use Rattle.lane_book.specs.FacesOf.{lane_at, faces_of, batch_of, begun_heap}
use Rattle.lane_book.specs.Flights.{flights_of}
use Rattle.lane_book.specs.Steps.{IsLawfulFrom, HasEntry, held_by, CanTake, IsAskedIn, IsRoomierIn}
use Rattle.lane_book.specs.Books.{IsBook, IsFresh}
use Rattle.lane_book.specs.Entries.{AreBlocks, committing, writes_of_entry}
use Rattle.lane_book.specs.Locks.{BeginEnds}
use Rattle.lane_book.specs.Stores.{no_write}
use Rattle.lane_book.specs.Refusals.{AreStructures, ShowsBlocks}
use Rattle.lawful_book.specs.LawfulBooks.{IsHeapOf}
use Rattle.lawful_book.specs.OwnedBooks.{owner_in, moves_block, IsOwnedBook}
use Rattle.lawful_book.specs.Laws.{GoesOn, IsSameBook, IsWordCall, IsAnswered, words_now}

-- a block whose owner word is among these writes
abbrev pub is_taken : Heap → List WordWrite → ℕ → Bool
is_taken heap writes k = list_any (has_address (block_address heap k)) writes

-- ---- what follows

abbrev pub FreshBooksAreOwned : {E : Type 0} → Deeds E → Type 0
FreshBooksAreOwned deeds = (layout : Layout) (base : Base) (lanes : ℕ) (blocks : List Standing) (sorts : List ℕ) (book : Book _) → IsFresh lanes blocks sorts book →
    IsHeapOf layout base → length blocks ≡ layout.blocks → AreAsOwned (layout_shape layout) base.heap.at blocks → IsOwnedBook deeds layout base book

abbrev pub HistoriesAreLawful : {E : Type 0} → Deeds E → Type 0
HistoriesAreLawful deeds = (layout : Layout) (base : Base) (book : Book _) → IsOwnedBook deeds layout base book → IsLawfulFrom deeds book.history.items base

abbrev pub FlightsAreLawful : {E : Type 0} → Deeds E → Type 0
FlightsAreLawful deeds = (layout : Layout) (base : Base) (book : Book _) → IsOwnedBook deeds layout base book →
    IsLawfulFrom deeds (book.history.items ++ flights_of book) base

abbrev pub SomeFlightsAreLawful : {E : Type 0} → Deeds E → Type 0
SomeFlightsAreLawful deeds = (layout : Layout) (base : Base) (book : Book _) → IsOwnedBook deeds layout base book → (picks : Entry _ → Bool) →
    IsLawfulFrom deeds (book.history.items ++ filter picks (flights_of book)) base

-- a lane that is about no take and no give sees the blocks that it holds
abbrev pub BlocksAreShown : {E : Type 0} → Deeds E → Type 0
BlocksAreShown deeds = (layout : Layout) (base : Base) (book : Book _) → IsOwnedBook deeds layout base book → (l : ℕ) → moves_block (lane_at book l).doing ≡ false →
    ShowsBlocks layout book l base

-- a data word that a lane wrote, in a block that it didn't give, is held
abbrev pub WritesAreHeld : {E : Type 0} → Deeds E → Type 0
WritesAreHeld deeds = (layout : Layout) (base : Base) (book : Book _) → IsOwnedBook deeds layout base book → (l n : ℕ) → n < length (lane_at book l).writes.items →
    (lane_at book l).entered ≡ false → moves_block (lane_at book l).doing ≡ false → is_data base.heap (get_or (lane_at book l).writes.items n no_write).address ≡ true →
    is_among (lane_at book l).gives.items (block_of base.heap (get_or (lane_at book l).writes.items n no_write).address) ≡ false →
    has_word (held_by base book l) (get_or (lane_at book l).writes.items n no_write).address ≡ true

-- the word that a call is about is held
abbrev pub CallsAreHeld : {E : Type 0} → Deeds E → Type 0
CallsAreHeld deeds = (layout : Layout) (base : Base) (book : Book _) → IsOwnedBook deeds layout base book → IsBook book → (l a v : ℕ) →
    (lane_at book l).doing ≡ Doing.Write a v → has_word (held_by base book l) a ≡ true

abbrev pub BatchesAreHeld : {E : Type 0} → Deeds E → Type 0
BatchesAreHeld deeds = (layout : Layout) (base : Base) (book : Book _) → IsOwnedBook deeds layout base book → (l n : ℕ) → (lane_at book l).doing ≡ Doing.Batch n →
    has_all (held_by base book l) (batch_of n (lane_at book l)) ≡ true

abbrev pub ReadsAreHeld : {E : Type 0} → Deeds E → Type 0
ReadsAreHeld deeds = (layout : Layout) (base : Base) (book : Book _) → IsOwnedBook deeds layout base book → (l a : ℕ) →
    (lane_at book l).doing ≡ Doing.Read a → has_word (held_by base book l) a ≡ true

abbrev pub ValuesAreHeld : {E : Type 0} → Deeds E → Type 0
ValuesAreHeld deeds = (layout : Layout) (base : Base) (book : Book _) → IsOwnedBook deeds layout base book → IsBook book → (l a : ℕ) →
    has_word (held_by base book l) a ≡ true → (held_by base book l).word a ≡ Some (words_now base book l a)

abbrev pub WordsAreApart : {E : Type 0} → Deeds E → Type 0
WordsAreApart deeds = (layout : Layout) (base : Base) (book : Book _) → IsOwnedBook deeds layout base book → (l k a v : ℕ) → l ≢ k →
    (held_by base book l).word a ≡ Some v → (held_by base book k).word a ≡ None

-- a block that is being taken is one that the lane neither has nor gave
abbrev pub TakesAreNew : {E : Type 0} → Deeds E → Type 0
TakesAreNew deeds = (layout : Layout) (base : Base) (book : Book _) → IsOwnedBook deeds layout base book → (l s k : ℕ) → (lane_at book l).doing ≡ Doing.Take s k →
    CanTake book l s k (block_address base.heap k) base

-- a block that is free or pending is seen by no lane,
abbrev pub LooseBlocksAreHidden : {E : Type 0} → Deeds E → Type 0
LooseBlocksAreHidden deeds = (layout : Layout) (base : Base) (book : Book _) → IsOwnedBook deeds layout base book → (l k : ℕ) → owner_in book.blocks k ≡ 0 →
    (held_by base book l).owner k ≡ None

-- nor one by two lanes,
abbrev pub BlocksAreApart : {E : Type 0} → Deeds E → Type 0
BlocksAreApart deeds = (layout : Layout) (base : Base) (book : Book _) → IsOwnedBook deeds layout base book → (l j k s : ℕ) → l ≢ j → (held_by base book l).owner k ≡ Some s →
    (held_by base book j).owner k ≡ None

-- nor one that another lane gave, until its entry joins
abbrev pub GivenBlocksAreHidden : {E : Type 0} → Deeds E → Type 0
GivenBlocksAreHidden deeds = (layout : Layout) (base : Base) (book : Book _) → IsOwnedBook deeds layout base book → (l j k : ℕ) → l ≢ j → (lane_at book l).entered ≡ false →
    is_among (lane_at book l).gives.items k ≡ true → (held_by base book j).owner k ≡ None

-- a block that the lane took and didn't give is its own
abbrev pub TakenBlocksAreSeen : {E : Type 0} → Deeds E → Type 0
TakenBlocksAreSeen deeds = (layout : Layout) (base : Base) (book : Book _) → IsOwnedBook deeds layout base book → (l k : ℕ) → (lane_at book l).entered ≡ false →
    moves_block (lane_at book l).doing ≡ false → k < layout.blocks → is_taken base.heap (lane_at book l).writes.items k ≡ true → is_among (lane_at book l).gives.items k ≡ false →
    is_there ((held_by base book l).owner k) ≡ true

-- ---- what the calls of a book ask

abbrev pub NumbersAreLeft : {E : Type 0} → Deeds E → Type 0
NumbersAreLeft deeds = (layout : Layout) (base : Base) (book : Book _) → IsOwnedBook deeds layout base book → length book.lanes.items ≤ 16 →
    book.next_transaction < 2 ^ 64 - 1

abbrev pub CommitsAreFew : {E : Type 0} → Deeds E → Type 0
CommitsAreFew deeds = (layout : Layout) (base : Base) (book : Book _) → IsOwnedBook deeds layout base book → (l : ℕ) → (lane_at book l).commits < 2 ^ 60

abbrev pub EntriesAreThere : {E : Type 0} → Deeds E → Type 0
EntriesAreThere deeds = (layout : Layout) (base : Base) (book : Book _) → IsOwnedBook deeds layout base book → (l : ℕ) → (lane_at book l).doing ≡ Doing.Commit →
    (lane_at book l).entered ≡ false → HasEntry l (lane_at book l)

abbrev pub GivesAreBlocks : {E : Type 0} → Deeds E → Type 0
GivesAreBlocks deeds = (layout : Layout) (base : Base) (book : Book _) → IsOwnedBook deeds layout base book → (l : ℕ) → AreBlocks layout (lane_at book l).gives.items

abbrev pub OwnersAreStructures : {E : Type 0} → Deeds E → Type 0
OwnersAreStructures deeds = (layout : Layout) (base : Base) (book : Book _) → IsOwnedBook deeds layout base book → AreStructures book.blocks

-- ---- what keeps it: a step

abbrev pub StepsKeep : {E : Type 0} → Deeds E → Type 0
StepsKeep deeds = (layout : Layout) (base : Base) (book later : Book _) (l : ℕ) (lane : Lane _) (touched : Option ℕ) → IsOwnedBook deeds layout base book →
    l < length book.lanes.items → later ≡ with_lane book l lane touched → GoesOn (lane_at book l) lane → IsOwnedBook deeds layout base later

-- A call is answered that is no commit, and leaves its transaction: some first ones of the writes stand, and with the others no take is undone.
abbrev pub AnswersKeep : {E : Type 0} → Deeds E → Type 0
AnswersKeep deeds = (layout : Layout) (base : Base) (book later : Book _) (l kept : ℕ) (reply : Reply) (lane : Lane _) (touched : Option ℕ) →
    IsOwnedBook deeds layout base book → l < length book.lanes.items → later ≡ with_lane book l lane touched → IsAnswered reply kept (lane_at book l) lane →
    AreData base.heap (drop kept (lane_at book l).writes.items) → IsOwnedBook deeds layout base later

abbrev pub SameBooksKeep : {E : Type 0} → Deeds E → Type 0
SameBooksKeep deeds = (layout : Layout) (base : Base) (book later : Book _) → IsOwnedBook deeds layout base book → IsSameBook book later → IsOwnedBook deeds layout base later

abbrev pub RefusalsKeep : {E : Type 0} → Deeds E → Type 0
RefusalsKeep deeds = (layout : Layout) (base : Base) (book later : Book _) (l : ℕ) → IsOwnedBook deeds layout base book → l < length book.lanes.items →
    IsRoomierIn book later l → IsOwnedBook deeds layout base later

-- ---- a begin, and an end

abbrev pub BeginsKeep : {E : Type 0} → Deeds E → Type 0
BeginsKeep deeds = (layout : Layout) (base : Base) (book later : Book _) (l set : ℕ) (answer : Stepped) → IsOwnedBook deeds layout base book → l < length book.lanes.items →
    (lane_at book l).doing ≡ Doing.Begin set → IsBook book → BeginEnds book later l set answer → IsOwnedBook deeds layout base later

-- a transaction is over whose entry joined, or which took nothing
abbrev pub LeavesKeep : {E : Type 0} → Deeds E → Type 0
LeavesKeep deeds = (layout : Layout) (base : Base) (book later : Book _) (l : ℕ) (reply : Reply) (touched : Option ℕ) → IsOwnedBook deeds layout base book →
    l < length book.lanes.items → phase_after reply ≡ Phase.Out → ((lane_at book l).entered ≡ false → AreData base.heap (lane_at book l).writes.items) →
    later ≡ with_lane book l (left reply (lane_at book l)) touched → IsOwnedBook deeds layout base later

-- The blocks that were taken by these writes are free, and all others stand as before.
pub record AreLetGo (heap : Heap) (writes : List WordWrite) (blocks later : List Standing) : Type 0 where
  pub many : length later ≡ length blocks
  pub taken : (k : ℕ) → k < heap.blocks → is_taken heap writes k ≡ true → slice_get later k ≡ Some Free
  pub others : (k : ℕ) → is_taken heap writes k ≡ false → slice_get later k ≡ slice_get blocks k

-- an abort is answered, and what its transaction took is free
abbrev pub AbortsKeep : {E : Type 0} → Deeds E → Type 0
AbortsKeep deeds = (layout : Layout) (base : Base) (book later : Book _) (l : ℕ) (reply : Reply) (blocks : List Standing) (touched : Option ℕ) → IsOwnedBook deeds layout base book →
    l < length book.lanes.items → phase_after reply ≡ Phase.Out → (lane_at book l).entered ≡ false → AreLetGo base.heap (lane_at book l).writes.items book.blocks blocks →
    later ≡ with_lane (record book { blocks = blocks }) l (left reply (lane_at book l)) touched → IsOwnedBook deeds layout base later

-- The given blocks are pending, and all others stand as before.
pub record AreGivenUp (gives : List ℕ) (blocks later : List Standing) : Type 0 where
  pub many : length later ≡ length blocks
  pub given : (k : ℕ) → k < length blocks → is_among gives k ≡ true → slice_get later k ≡ Some Pending
  pub others : (k : ℕ) → is_among gives k ≡ false → slice_get later k ≡ slice_get blocks k

-- the entry of a commit joins the history, its gives are pending, and the commit goes on
abbrev pub JoinsKeep : {E : Type 0} → Deeds E → Type 0
JoinsKeep deeds = (layout : Layout) (base : Base) (book later : Book _) (l part : ℕ) (e : Entry _) (blocks : List Standing) → IsOwnedBook deeds layout base book → IsBook book →
    l < length book.lanes.items → (lane_at book l).entry ≡ Some e → AreGivenUp (lane_at book l).gives.items book.blocks blocks →
    later ≡ with_history (book.history.items ++ e ∷ []) (with_lane (record book { blocks = blocks }) l (moved part (entered_lane (lane_at book l))) None) →
    IsOwnedBook deeds layout base later

-- or is answered in that step
abbrev pub CommitsKeep : {E : Type 0} → Deeds E → Type 0
CommitsKeep deeds = (layout : Layout) (base : Base) (book later : Book _) (l : ℕ) (e : Entry _) (blocks : List Standing) → IsOwnedBook deeds layout base book → IsBook book →
    l < length book.lanes.items → (lane_at book l).entry ≡ Some e → AreGivenUp (lane_at book l).gives.items book.blocks blocks →
    later ≡ with_history (book.history.items ++ e ∷ []) (with_lane (record book { blocks = blocks }) l (left Committed (entered_lane (lane_at book l))) None) →
    IsOwnedBook deeds layout base later

-- a pending block that nobody owns by the history's heap becomes free
abbrev pub FreesKeep : {E : Type 0} → Deeds E → Type 0
FreesKeep deeds = (layout : Layout) (base : Base) (book later : Book _) (k : ℕ) → IsOwnedBook deeds layout base book → slice_get book.blocks k ≡ Some Pending →
    after_entries book.history.items base.heap.at (block_address base.heap k) ≡ 0 → later ≡ record book { blocks = slice_set book.blocks k Free } →
    IsOwnedBook deeds layout base later

-- ---- an ask

abbrev pub AsksKeep : {E : Type 0} → Deeds E → Type 0
AsksKeep deeds = (layout : Layout) (base : Base) (book later : Book _) (l promised : ℕ) (call : Call _) (doing : Doing) (writes : List WordWrite) →
    IsOwnedBook deeds layout base book → l < length book.lanes.items → (lane_at book l).doing ≡ Doing.Nothing → IsWordCall call doing writes →
    Fits (faces_of base book l) call → May deeds (faces_of base book l) call → IsAskedIn call doing writes [] promised book later l → IsOwnedBook deeds layout base later

-- The words of the block are in the history's heap as at the lane's begin.
abbrev pub IsAsAtBegin : {E : Type 0} → Base → Book E → ℕ → ℕ → Type 0
IsAsAtBegin base book l k = (a : ℕ) → block_of base.heap a ≡ k → (begun_heap base book.history.items (lane_at book l)).at a ≡ after_entries book.history.items base.heap.at a

-- A take is asked, for a free block. A lane's face shows the words of a taken block as they were when its transaction began: so they must be the same still.
abbrev pub TakeAsksKeep : {E : Type 0} → Deeds E → Type 0
TakeAsksKeep deeds = (layout : Layout) (base : Base) (book later : Book _) (l s k : ℕ) → IsOwnedBook deeds layout base book →
    l < length book.lanes.items → (lane_at book l).doing ≡ Doing.Nothing → Fits (faces_of base book l) (Call.Take s) → May deeds (faces_of base book l) (Call.Take s) →
    slice_get book.blocks k ≡ Some Free → IsAsAtBegin base book l k →
    IsAskedIn (Call.Take s) (Doing.Take s k) (record { address = block_address base.heap k; value = s + 1 } ∷ []) [] 2
    (record book { blocks = slice_set book.blocks k (Owned s) }) later l →
    IsOwnedBook deeds layout base later

-- a give is asked
abbrev pub GiveAsksKeep : {E : Type 0} → Deeds E → Type 0
GiveAsksKeep deeds = (layout : Layout) (base : Base) (book later : Book _) (l k : ℕ) → IsOwnedBook deeds layout base book → l < length book.lanes.items →
    (lane_at book l).doing ≡ Doing.Nothing → Fits (faces_of base book l) (Call.Give k) → May deeds (faces_of base book l) (Call.Give k) →
    IsAskedIn (Call.Give k) (Doing.Give k) [] (k ∷ []) 1 book later l → IsOwnedBook deeds layout base later

-- a commit is asked, whose deed means what the transaction did
abbrev pub CommitAsksKeep : {E : Type 0} → Deeds E → Type 0
CommitAsksKeep deeds = (layout : Layout) (base : Base) (book later : Book _) (l : ℕ) (deed : _) (writes : List WordWrite) (touched : Option ℕ) →
    IsOwnedBook deeds layout base book → IsBook book → l < length book.lanes.items → (lane_at book l).doing ≡ Doing.Nothing →
    Fits (faces_of base book l) (Call.Commit deed) → MayCommit deeds (faces_of base book l) deed → writes ≡ writes_of_entry layout (lane_at book l) →
    later ≡ with_lane book l (committing l deed writes (lane_at book l)) touched → IsOwnedBook deeds layout base later
