-- What follows from what a lawful book keeps, and what keeps it.
use Rattle.std.specs.Prelude.{◌≡◌, ◌≢◌, ℕ, ◌-◌, ◌^◌, ◌<◌, ◌≤◌, if◌then◌else◌, Bool, true, false, List, [], ◌∷◌, ◌++◌, length, take, get_or, Option, Some, None}
use Rattle.std.specs.List.{filter}
use Rattle.lane_traits.specs.declared.draft.WordWrite.{WordWrite}
use Rattle.region_layout.specs.declared.layout.Layout.{Layout}
use Rattle.region_layout.specs.Layout.{layout_shape}
use Rattle.offset_alloc.specs.declared.Standing.{Standing}
use Rattle.offset_alloc.specs.Blocks.{AreAsOwned}
use Rattle.lane_types.specs.declared.call.Call.{Call}
use Rattle.lane_types.specs.declared.call.Phase.{Phase}
use Rattle.lane_types.specs.declared.call.Reply.{Reply}
use Rattle.lane_types.specs.declared.call.Reply.TheVariants.{Committed}
use Rattle.lane_types.specs.declared.call.Stepped.{Stepped}
use Rattle.lane_types.specs.declared.face.Entry.{Entry}
use Rattle.lane_types.specs.Deeds.{Deeds}
use Rattle.lane_types.specs.Heaps.{with_writes}
use Rattle.lane_types.specs.Histories.{fold}
use Rattle.lane_types.specs.Faces.{Base, phase_after}
use Rattle.lane_types.specs.Asks.{has_word, has_all, Fits}
use Rattle.lane_types.specs.May.{MayCommit, May}
use Rattle.lane_book.specs.declared.lane.Lane.{Lane}
use Rattle.lane_book.specs.declared.lane.Doing.{Doing}
use Rattle.lane_book.specs.declared.book.Book.{Book}
use Rattle.lane_book.specs.Lanes.{moved, left, entered_lane, with_lane, with_history}
use Rattle.lane_book.specs.FacesOf.{lane_at, faces_of, batch_of}
use Rattle.lane_book.specs.Flights.{flights_of}
use Rattle.lane_book.specs.Steps.{IsPlain, IsLawfulFrom, HasEntry, HasEntered, held_by, IsAskedIn, IsRoomierIn}
use Rattle.lane_book.specs.Books.{IsBook, IsFresh}
use Rattle.lane_book.specs.Entries.{AreBlocks, committing, writes_of_entry}
use Rattle.lane_book.specs.Locks.{BeginEnds}
use Rattle.lane_book.specs.Refusals.{AreStructures, ShowsBlocks}
use Rattle.lane_book.specs.Stores.{no_write}
use Rattle.lawful_book.specs.LawfulBooks.{is_inside, MayTake, IsHeapOf, IsLawfulBook}

-- ---- what follows

-- a book that begins is lawful
abbrev pub FreshBooksAreLawful : {E : Type 0} → Deeds E → Type 0
FreshBooksAreLawful deeds = (layout : Layout) (base : Base) (lanes : ℕ) (blocks : List Standing) (sorts : List ℕ) (book : Book _) → IsFresh lanes blocks sorts book →
    IsHeapOf layout base → length blocks ≡ layout.blocks → AreAsOwned (layout_shape layout) base.heap.at blocks → IsLawfulBook deeds layout base book

-- its history is lawful from what stood at the start
abbrev pub HistoriesAreLawful : {E : Type 0} → Deeds E → Type 0
HistoriesAreLawful deeds = (layout : Layout) (base : Base) (book : Book _) → IsLawfulBook deeds layout base book → IsLawfulFrom deeds book.history.items base

-- and so is that with the commits in flight behind it, in order of lanes
abbrev pub FlightsAreLawful : {E : Type 0} → Deeds E → Type 0
FlightsAreLawful deeds = (layout : Layout) (base : Base) (book : Book _) → IsLawfulBook deeds layout base book →
    IsLawfulFrom deeds (book.history.items ++ flights_of book) base

-- or with those of them alone that a stop has kept
abbrev pub SomeFlightsAreLawful : {E : Type 0} → Deeds E → Type 0
SomeFlightsAreLawful deeds = (layout : Layout) (base : Base) (book : Book _) → IsLawfulBook deeds layout base book → (picks : Entry _ → Bool) →
    IsLawfulFrom deeds (book.history.items ++ filter picks (flights_of book)) base

-- each lane sees the blocks that it holds
abbrev pub BlocksAreShown : {E : Type 0} → Deeds E → Type 0
BlocksAreShown deeds = (layout : Layout) (base : Base) (book : Book _) → IsLawfulBook deeds layout base book → (l : ℕ) → ShowsBlocks layout book l base

-- each write of a lane is of a word that it holds
abbrev pub WritesAreHeld : {E : Type 0} → Deeds E → Type 0
WritesAreHeld deeds = (layout : Layout) (base : Base) (book : Book _) → IsLawfulBook deeds layout base book → (l n : ℕ) → n < length (lane_at book l).writes.items →
    has_word (held_by base book l) (get_or (lane_at book l).writes.items n no_write).address ≡ true

-- so is the one that a call is about,
abbrev pub CallsAreHeld : {E : Type 0} → Deeds E → Type 0
CallsAreHeld deeds = (layout : Layout) (base : Base) (book : Book _) → IsLawfulBook deeds layout base book → IsBook book → (l a v : ℕ) →
    (lane_at book l).doing ≡ Doing.Write a v → has_word (held_by base book l) a ≡ true

-- and the last ones, which a batch is
abbrev pub BatchesAreHeld : {E : Type 0} → Deeds E → Type 0
BatchesAreHeld deeds = (layout : Layout) (base : Base) (book : Book _) → IsLawfulBook deeds layout base book → (l n : ℕ) →
    has_all (held_by base book l) (batch_of n (lane_at book l)) ≡ true

-- a lane that reads a word holds it
abbrev pub ReadsAreHeld : {E : Type 0} → Deeds E → Type 0
ReadsAreHeld deeds = (layout : Layout) (base : Base) (book : Book _) → IsLawfulBook deeds layout base book → (l a : ℕ) →
    (lane_at book l).doing ≡ Doing.Read a → has_word (held_by base book l) a ≡ true

-- what it holds is as the history and its own stored writes have it
abbrev pub words_now : {E : Type 0} → Base → Book E → ℕ → ℕ → ℕ
words_now base book l = (if (lane_at book l).entered then fold base.heap book.history.items
    else with_writes (take (lane_at book l).stored (lane_at book l).writes.items) (fold base.heap book.history.items)).at

abbrev pub ValuesAreHeld : {E : Type 0} → Deeds E → Type 0
ValuesAreHeld deeds = (layout : Layout) (base : Base) (book : Book _) → IsLawfulBook deeds layout base book → IsBook book → (l a : ℕ) →
    has_word (held_by base book l) a ≡ true → (held_by base book l).word a ≡ Some (words_now base book l a)

-- no two lanes hold a word in common
abbrev pub WordsAreApart : {E : Type 0} → Deeds E → Type 0
WordsAreApart deeds = (layout : Layout) (base : Base) (book : Book _) → IsLawfulBook deeds layout base book → (l k a v : ℕ) → l ≢ k →
    (held_by base book l).word a ≡ Some v → (held_by base book k).word a ≡ None

-- ---- what the calls of a book ask

-- numbers are left for more transactions
abbrev pub NumbersAreLeft : {E : Type 0} → Deeds E → Type 0
NumbersAreLeft deeds = (layout : Layout) (base : Base) (book : Book _) → IsLawfulBook deeds layout base book → length book.lanes.items ≤ 16 →
    book.next_transaction < 2 ^ 64 - 1

-- the lanes have few commits
abbrev pub CommitsAreFew : {E : Type 0} → Deeds E → Type 0
CommitsAreFew deeds = (layout : Layout) (base : Base) (book : Book _) → IsLawfulBook deeds layout base book → (l : ℕ) → (lane_at book l).commits < 2 ^ 60

-- a begin asks for what it may
abbrev pub BeginsMayTake : {E : Type 0} → Deeds E → Type 0
BeginsMayTake deeds = (layout : Layout) (base : Base) (book : Book _) → IsLawfulBook deeds layout base book → (l set : ℕ) → (lane_at book l).doing ≡ Doing.Begin set →
    MayTake base.structures (lane_at book l).begun set

-- a lane in a transaction has begun one
abbrev pub TransactionsHaveBegun : {E : Type 0} → Deeds E → Type 0
TransactionsHaveBegun deeds = (layout : Layout) (base : Base) (book : Book _) → IsLawfulBook deeds layout base book → (l : ℕ) → (lane_at book l).phase ≡ Phase.In →
    (lane_at book l).doing ≡ Doing.Nothing → 1 ≤ (lane_at book l).begun

-- a commit has its entry until it joins,
abbrev pub EntriesAreThere : {E : Type 0} → Deeds E → Type 0
EntriesAreThere deeds = (layout : Layout) (base : Base) (book : Book _) → IsLawfulBook deeds layout base book → (l : ℕ) → (lane_at book l).doing ≡ Doing.Commit →
    (lane_at book l).entered ≡ false → HasEntry l (lane_at book l)

-- and then the history has it
abbrev pub EntriesHaveJoined : {E : Type 0} → Deeds E → Type 0
EntriesHaveJoined deeds = (layout : Layout) (base : Base) (book : Book _) → IsLawfulBook deeds layout base book → (l : ℕ) → (lane_at book l).entered ≡ true →
    HasEntered book l

-- what a lane gave is of the heap
abbrev pub GivesAreBlocks : {E : Type 0} → Deeds E → Type 0
GivesAreBlocks deeds = (layout : Layout) (base : Base) (book : Book _) → IsLawfulBook deeds layout base book → (l : ℕ) → AreBlocks layout (lane_at book l).gives.items

-- the owners of blocks are structures
abbrev pub OwnersAreStructures : {E : Type 0} → Deeds E → Type 0
OwnersAreStructures deeds = (layout : Layout) (base : Base) (book : Book _) → IsLawfulBook deeds layout base book → AreStructures book.blocks

-- ---- what keeps it: a step

-- the lane's transaction is the same, with its structures and its heap at the begin
pub record IsSameTransaction {E : Type 0} (lane later : Lane E) : Type 0 where
  pub held : later.held ≡ lane.held
  pub begun : later.begun ≡ lane.begun
  pub commits : later.commits ≡ lane.commits
  pub transaction : later.transaction ≡ lane.transaction
  pub joined : later.joined ≡ lane.joined
  pub gives : later.gives.items ≡ lane.gives.items
  pub entry : later.entry ≡ lane.entry

-- The lane goes on with its call, or is as it was but for its records, counts and room.
pub record GoesOn {E : Type 0} (lane later : Lane E) : Type 0 where
  pub same : IsSameTransaction lane later
  pub writes : later.writes.items ≡ lane.writes.items
  pub phase : later.phase ≡ lane.phase
  pub doing : later.doing ≡ lane.doing
  pub entered : later.entered ≡ lane.entered

abbrev pub StepsKeep : {E : Type 0} → Deeds E → Type 0
StepsKeep deeds = (layout : Layout) (base : Base) (book later : Book _) (l : ℕ) (lane : Lane _) (touched : Option ℕ) → IsLawfulBook deeds layout base book →
    l < length book.lanes.items → later ≡ with_lane book l lane touched → GoesOn (lane_at book l) lane → IsLawfulBook deeds layout base later

-- A call is answered that is no commit, and leaves its transaction: some first ones of the writes stand.
pub record IsAnswered {E : Type 0} (reply : Reply) (kept : ℕ) (lane later : Lane E) : Type 0 where
  pub same : IsSameTransaction lane later
  pub writes : later.writes.items ≡ take kept lane.writes.items
  pub phase : later.phase ≡ phase_after reply
  pub doing : later.doing ≡ Doing.Nothing
  pub entered : later.entered ≡ false
  pub other : lane.doing ≢ Doing.Commit
  pub was_inside : phase_after reply ≡ Phase.In → is_inside lane.phase lane.doing ≡ true

abbrev pub AnswersKeep : {E : Type 0} → Deeds E → Type 0
AnswersKeep deeds = (layout : Layout) (base : Base) (book later : Book _) (l kept : ℕ) (reply : Reply) (lane : Lane _) (touched : Option ℕ) →
    IsLawfulBook deeds layout base book → l < length book.lanes.items → later ≡ with_lane book l lane touched → IsAnswered reply kept (lane_at book l) lane →
    IsLawfulBook deeds layout base later

-- what no law speaks of may be another
pub record IsSameBook {E : Type 0} (book later : Book E) : Type 0 where
  pub lanes : later.lanes ≡ book.lanes
  pub history : later.history.items ≡ book.history.items
  pub blocks : later.blocks ≡ book.blocks
  pub next : later.next_transaction ≡ book.next_transaction

abbrev pub SameBooksKeep : {E : Type 0} → Deeds E → Type 0
SameBooksKeep deeds = (layout : Layout) (base : Base) (book later : Book _) → IsLawfulBook deeds layout base book → IsSameBook book later → IsLawfulBook deeds layout base later

-- ---- a begin, and an end

abbrev pub BeginsKeep : {E : Type 0} → Deeds E → Type 0
BeginsKeep deeds = (layout : Layout) (base : Base) (book later : Book _) (l set : ℕ) (answer : Stepped) → IsLawfulBook deeds layout base book → l < length book.lanes.items →
    (lane_at book l).doing ≡ Doing.Begin set → IsBook book → BeginEnds book later l set answer → IsLawfulBook deeds layout base later

-- a transaction is over, whose entry joined or which is undone
abbrev pub LeavesKeep : {E : Type 0} → Deeds E → Type 0
LeavesKeep deeds = (layout : Layout) (base : Base) (book later : Book _) (l : ℕ) (reply : Reply) (touched : Option ℕ) → IsLawfulBook deeds layout base book →
    l < length book.lanes.items → phase_after reply ≡ Phase.Out → later ≡ with_lane book l (left reply (lane_at book l)) touched → IsLawfulBook deeds layout base later

-- the entry of a commit joins the history, and the commit goes on
abbrev pub JoinsKeep : {E : Type 0} → Deeds E → Type 0
JoinsKeep deeds = (layout : Layout) (base : Base) (book later : Book _) (l part : ℕ) (e : Entry _) → IsLawfulBook deeds layout base book → IsBook book →
    l < length book.lanes.items → (lane_at book l).entry ≡ Some e →
    later ≡ with_history (book.history.items ++ e ∷ []) (with_lane book l (moved part (entered_lane (lane_at book l))) None) → IsLawfulBook deeds layout base later

-- or is answered in that step
abbrev pub CommitsKeep : {E : Type 0} → Deeds E → Type 0
CommitsKeep deeds = (layout : Layout) (base : Base) (book later : Book _) (l : ℕ) (e : Entry _) → IsLawfulBook deeds layout base book → IsBook book →
    l < length book.lanes.items → (lane_at book l).entry ≡ Some e →
    later ≡ with_history (book.history.items ++ e ∷ []) (with_lane book l (left Committed (entered_lane (lane_at book l))) None) → IsLawfulBook deeds layout base later

-- ---- an ask

-- the call, what the lane is about in it, and what it writes: no call that takes or gives a block
pub data IsWordCall {E : Type 0} : Call E → Doing → List WordWrite → Type 0 where
  plain : {call : Call E} {doing : Doing} → IsPlain call doing → IsWordCall call doing []
  write : {a v : ℕ} → IsWordCall (Call.Write a v) (Doing.Write a v) (record { address = a; value = v } ∷ [])
  batch : {n : ℕ} {writes : List WordWrite} → IsWordCall (Call.Batch writes) (Doing.Batch n) writes

abbrev pub AsksKeep : {E : Type 0} → Deeds E → Type 0
AsksKeep deeds = (layout : Layout) (base : Base) (book later : Book _) (l promised : ℕ) (call : Call _) (doing : Doing) (writes : List WordWrite) →
    IsLawfulBook deeds layout base book → l < length book.lanes.items → (lane_at book l).doing ≡ Doing.Nothing → IsWordCall call doing writes →
    Fits (faces_of base book l) call → May deeds (faces_of base book l) call → IsAskedIn call doing writes [] promised book later l → IsLawfulBook deeds layout base later

-- no memory was there for it
abbrev pub RefusalsKeep : {E : Type 0} → Deeds E → Type 0
RefusalsKeep deeds = (layout : Layout) (base : Base) (book later : Book _) (l : ℕ) → IsLawfulBook deeds layout base book → l < length book.lanes.items →
    IsRoomierIn book later l → IsLawfulBook deeds layout base later

-- a commit, whose deed means what the transaction did
abbrev pub CommitAsksKeep : {E : Type 0} → Deeds E → Type 0
CommitAsksKeep deeds = (layout : Layout) (base : Base) (book later : Book _) (l : ℕ) (deed : _) (writes : List WordWrite) (touched : Option ℕ) →
    IsLawfulBook deeds layout base book → IsBook book → l < length book.lanes.items → (lane_at book l).doing ≡ Doing.Nothing →
    Fits (faces_of base book l) (Call.Commit deed) → MayCommit deeds (faces_of base book l) deed → writes ≡ writes_of_entry layout (lane_at book l) →
    later ≡ with_lane book l (committing l deed writes (lane_at book l)) touched → IsLawfulBook deeds layout base later
