-- What a lane's call changes without an event.
use Rattle.std.specs.Prelude.{◌≡◌, ◌≢◌, ℕ, ◌+◌, ◌%◌, ◌<◌, ◌≤◌, ◌^◌, Bool, true, false, if◌then◌else◌, [], ◌∷◌, ◌++◌, length, map, Some, None}
use Rattle.persist_model.specs.Region.{Words, Region}
use Rattle.persist_model.specs.Shape.{Shape}
use Rattle.region_layout.specs.declared.layout.Layout.{Layout}
use Rattle.region_layout.specs.Layout.{layout_shape, IsDataWord}
use Rattle.lane_traits.specs.declared.draft.WordWrite.{WordWrite}
use Rattle.lane_types.specs.declared.face.Entry.{Entry}
use Rattle.lane_types.specs.Heaps.{has_bit}
use Rattle.offset_alloc.specs.declared.Standing.TheVariants.{Owned}
use Rattle.offset_alloc.specs.Blocks.{IsFree}
use Rattle.lane_book.specs.declared.book.Book.{Book}
use Rattle.lane_book.specs.declared.lane.Lane.{Lane}
use Rattle.lane_book.specs.declared.lane.Doing.TheVariants as Doing
use Rattle.lane_book.specs.FacesOf.{lane_at}
use Rattle.lane_book.specs.Books.{IsBook}
use Rattle.lane_book.specs.Lanes.{begun_lane, left, entered_lane}
use Rattle.lane_book.specs.Locks.{AreLoose}
use Rattle.lane_book.specs.Steps.{HasEntry}
use Rattle.lane_book.specs.Refusals.{is_mine, block_in}
use Rattle.lane_types.specs.declared.call.Reply.TheVariants as Reply
use Rattle.log_keeper.specs.declared.keeper.LogKeeper.{LogKeeper}
use Rattle.log_keeper.specs.Keeper.{keeping_of, free_places, HasRoomIn}
use Rattle.log_keeper.specs.Listing.{gates_in}
use Rattle.log_keeper.specs.Rooms.{IsRoomAt, IsNewestOf}
use Rattle.txn_laws.specs.Rooms.{sum_below}
use Rattle.txn_state.specs.Stages.{Free, Between, Leaving, Naming, Securing, Opening, stage_of, is_commit}
use Rattle.txn_state.specs.Changes.{HasLane, GoesTo, JoinsTo, IsKept, with_block}
use Rattle.lane_book.specs.Books.{ends}
use Rattle.txn_state.specs.Ties.{plain_write, plain_entry, owned, due_by, WaitsToAppend, WaitsToDelete}
use Rattle.txn_state.specs.Owing.{Needs, needs, append_most, undoing_left, ending_left}
use Rattle.txn_state.specs.States.{IsStateOf, reserved_for}

-- ---- nothing of the transaction changes

-- The lane has the same transaction at the same stage, with no less that it owes.
pub record HasSameTransaction {E : Type 0} (lane later : Lane E) : Type 0 where
  pub stage : stage_of later ≡ stage_of lane
  pub transaction : later.transaction ≡ lane.transaction
  pub held : later.held ≡ lane.held
  pub begun : later.begun ≡ lane.begun
  pub commits : later.commits ≡ lane.commits
  pub writes : later.writes.items ≡ lane.writes.items
  pub updates : later.updates.items ≡ lane.updates.items
  pub waits : stage_of lane ≡ Naming → later.updates ≡ lane.updates
  pub stored : later.stored ≡ lane.stored
  pub gives : later.gives.items ≡ lane.gives.items
  pub has_records : later.has_records ≡ lane.has_records
  pub rolled : later.rolled ≡ lane.rolled
  pub ended : later.ended ≡ lane.ended
  pub entry : later.entry ≡ lane.entry
  pub entered : later.entered ≡ lane.entered
  pub committing : is_commit later.doing ≡ is_commit lane.doing
  pub takes : (s k : ℕ) → later.doing ≡ Doing.Take s k → lane.doing ≡ Doing.Take s k
  pub due : due_by later.doing ≡ due_by lane.doing
  pub gives_same : (k : ℕ) → later.doing ≡ Doing.Give k → lane.doing ≡ Doing.Give k
  pub ending : ends later.doing ≡ ends lane.doing
  pub gates : later.gates.items ≡ lane.gates.items
  pub gates_wait : due_by lane.doing ≡ 1 → later.gates ≡ lane.gates
  pub promised : later.promised ≡ lane.promised
  pub owed_events : later.owed_events ≡ lane.owed_events
  pub owed_records : later.owed_records ≡ lane.owed_records

-- A wait, a read, a refusal, or an ask of a call that appends nothing.
abbrev pub NotesKeep : Type 0 → Type 0
NotesKeep E = (layout : Layout) (start : Words) (book later : Book E) (keeper : LogKeeper) (region : Region) (spare events l : ℕ) (lane : Lane E) →
    HasSameTransaction (lane_at book l) lane → GoesTo book later l lane → IsBook later →
    IsStateOf layout start book keeper region spare events → IsStateOf layout start later keeper region spare events

-- ---- memory

-- Between its calls the lane owes so much from now on, and device and keeper have taken places for all that is owed.
abbrev pub MemoryIsTaken : Type 0 → Type 0
MemoryIsTaken E = (layout : Layout) (start : Words) (book later : Book E) (keeper taken : LogKeeper) (region : Region) (spare more events l m n : ℕ) →
    stage_of (lane_at book l) ≡ Between → GoesTo book later l (record (lane_at book l) { owed_events = m; owed_records = n }) → IsBook later →
    IsKept keeper taken (keeping_of keeper) →
    sum_below (λ k. (lane_at later k).owed_events) (length later.lanes.items) ≤ more →
    sum_below (λ k. (lane_at later k).owed_records) (length later.lanes.items) ≤ free_places taken →
    IsStateOf layout start book keeper region spare events → IsStateOf layout start later taken region more events

-- The history has places for entries to come.
pub record HasMorePlaces {E : Type 0} (book later : Book E) : Type 0 where
  pub is : later ≡ record book { history = record book.history { capacity = later.history.capacity } }
  pub no_less : book.history.capacity ≤ later.history.capacity

abbrev pub PlacesAreTaken : Type 0 → Type 0
PlacesAreTaken E = (layout : Layout) (start : Words) (book later : Book E) (keeper : LogKeeper) (region : Region) (spare events : ℕ) → HasMorePlaces book later →
    IsStateOf layout start book keeper region spare events → IsStateOf layout start later keeper region spare events

-- ---- a transaction begins

-- It takes loose structures, at a lane that has none.
pub record MayBegin {E : Type 0} (book : Book E) (l set : ℕ) : Type 0 where
  pub free : stage_of (lane_at book l) ≡ Free
  pub loose : AreLoose book set
  pub few : (lane_at book l).begun < 2 ^ 59

abbrev pub BeginsKeep : Type 0 → Type 0
BeginsKeep E = (layout : Layout) (start : Words) (book later : Book E) (keeper : LogKeeper) (region : Region) (spare events l set : ℕ) →
    MayBegin book l set → HasLane book later l (begun_lane book.next_transaction set (length book.history.items) (lane_at book l)) →
    later.history ≡ book.history → later.next_transaction ≡ book.next_transaction + 1 → IsBook later →
    IsStateOf layout start book keeper region spare events → IsStateOf layout start later keeper region spare events

-- ---- calls that append are asked

-- what an ask leaves of the lane's transaction, beside its writes and its entry
pub record HasSameRecords {E : Type 0} (lane later : Lane E) : Type 0 where
  pub transaction : later.transaction ≡ lane.transaction
  pub held : later.held ≡ lane.held
  pub begun : later.begun ≡ lane.begun
  pub commits : later.commits ≡ lane.commits
  pub updates : later.updates.items ≡ lane.updates.items
  pub stored : later.stored ≡ lane.stored
  pub gives : later.gives.items ≡ lane.gives.items
  pub gates : later.gates.items ≡ lane.gates.items
  pub has_records : later.has_records ≡ lane.has_records
  pub rolled : later.rolled ≡ lane.rolled
  pub ended : later.ended ≡ lane.ended
  pub entered : later.entered ≡ lane.entered
  pub owed_events : later.owed_events ≡ lane.owed_events
  pub owed_records : later.owed_records ≡ lane.owed_records

-- The lane's call is to write one word more of its own, for which it owes enough.
pub record AsksWrite {E : Type 0} (layout : Layout) (book : Book E) (l : ℕ) (write : WordWrite) (lane : Lane E) : Type 0 where
  pub between : stage_of (lane_at book l) ≡ Between
  pub naming : stage_of lane ≡ Naming
  pub same : HasSameRecords (lane_at book l) lane
  pub writes : lane.writes.items ≡ (lane_at book l).writes.items ++ write ∷ []
  pub entry : lane.entry ≡ None
  pub is_no_commit : is_commit lane.doing ≡ false
  pub is_no_take : (s k : ℕ) → lane.doing ≢ Doing.Take s k
  pub data_word : IsDataWord (layout_shape layout) write.address
  pub own : is_mine book.blocks (lane_at book l) (block_in layout write.address) ≡ true
  pub waits : WaitsToAppend lane
  pub owes_events : append_most (layout_shape layout) + 1 ≤ lane.owed_events
  pub owes_record : 1 ≤ lane.owed_records

-- In the lane's partition no more is reserved than the newest words have room for, and elsewhere the same.
pub record HasRoomForAsk {E : Type 0} (layout : Layout) (book later : Book E) (region : Region) (l : ℕ) : Type 0 where
  pub words : Words
  pub newest : IsNewestOf region words
  pub room : ℕ
  pub is_room : IsRoomAt (layout_shape layout) (l % layout.partitions) words room
  pub within : reserved_for layout later (l % layout.partitions) ≤ room
  pub elsewhere : (q : ℕ) → q ≢ l % layout.partitions → reserved_for layout later q ≡ reserved_for layout book q

abbrev pub WritesAreAsked : Type 0 → Type 0
WritesAreAsked E = (layout : Layout) (start : Words) (book later : Book E) (keeper : LogKeeper) (region : Region) (spare events l : ℕ) (write : WordWrite) (lane : Lane E) →
    AsksWrite layout book l write lane → HasRoomForAsk layout book later region l → GoesTo book later l lane → IsBook later →
    IsStateOf layout start book keeper region spare events → IsStateOf layout start later keeper region spare events

-- The lane's call is to take a free block, which is no root, for a structure that it has and no other lane: it is to write the block's owner word, for which
-- it owes enough.
pub record AsksTake {E : Type 0} (layout : Layout) (book : Book E) (l s k : ℕ) (lane : Lane E) : Type 0 where
  pub between : stage_of (lane_at book l) ≡ Between
  pub call : lane.doing ≡ Doing.Take s k
  pub naming : stage_of lane ≡ Naming
  pub same : HasSameRecords (lane_at book l) lane
  pub writes : lane.writes.items ≡ (lane_at book l).writes.items ++ owned layout s k ∷ []
  pub entry : lane.entry ≡ None
  pub free : IsFree book.blocks k
  pub plain : layout.structures ≤ k
  pub structure : s < 8
  pub had : has_bit (lane_at book l).held s ≡ true
  pub alone : (j : ℕ) → j ≢ l → has_bit (lane_at book j).held s ≡ false
  pub waits : WaitsToAppend lane
  pub owes_events : append_most (layout_shape layout) + 1 ≤ lane.owed_events
  pub owes_record : 1 ≤ lane.owed_records

-- From then on the block is the structure's.
abbrev pub TakesAreAsked : Type 0 → Type 0
TakesAreAsked E = (layout : Layout) (start : Words) (book later : Book E) (keeper : LogKeeper) (region : Region) (spare events l s k : ℕ) (lane : Lane E) →
    AsksTake layout book l s k lane → HasRoomForAsk layout book later region l → GoesTo (with_block k (Owned s) book) later l lane → IsBook later →
    IsStateOf layout start book keeper region spare events → IsStateOf layout start later keeper region spare events

-- The lane's call is to give a block of its own, which is no root, for which it owes enough.
pub record AsksGive {E : Type 0} (layout : Layout) (book : Book E) (l k : ℕ) (lane : Lane E) : Type 0 where
  pub between : stage_of (lane_at book l) ≡ Between
  pub call : lane.doing ≡ Doing.Give k
  pub same : HasSameRecords (lane_at book l) (record lane { gives = (lane_at book l).gives })
  pub gives : lane.gives.items ≡ (lane_at book l).gives.items ++ k ∷ []
  pub writes : lane.writes.items ≡ (lane_at book l).writes.items
  pub entry : lane.entry ≡ None
  pub own : is_mine book.blocks (lane_at book l) k ≡ true
  pub plain : layout.structures ≤ k
  pub inside : k < layout.blocks
  pub waits : WaitsToDelete lane
  pub owes_events : append_most (layout_shape layout) ≤ lane.owed_events
  pub owes_record : 1 ≤ lane.owed_records

abbrev pub GivesAreAsked : Type 0 → Type 0
GivesAreAsked E = (layout : Layout) (start : Words) (book later : Book E) (keeper : LogKeeper) (region : Region) (spare events l k : ℕ) (lane : Lane E) →
    AsksGive layout book l k lane → HasRoomForAsk layout book later region l → GoesTo book later l lane → IsBook later →
    IsStateOf layout start book keeper region spare events → IsStateOf layout start later keeper region spare events

-- what the end of a transaction with n records and so many updates may want, by whether it commits
abbrev pub ending_needs : Shape → ℕ → ℕ → Bool → Needs
ending_needs shape n updates true = needs (1 + ending_left shape n) 1 (n + 1)
ending_needs shape n updates false =
    needs (append_most shape + (undoing_left shape updates + (1 + ending_left shape (n + 1 + updates)))) (1 + (updates + 1)) (n + 1 + updates + 1)

-- The lane's call is to end its transaction, which gave no block, and for which it owes enough.
pub record AsksEnd {E : Type 0} (layout : Layout) (book : Book E) (keeper : LogKeeper) (l : ℕ) (commits : Bool) (lane : Lane E) : Type 0 where
  pub between : stage_of (lane_at book l) ≡ Between
  pub ends : stage_of lane ≡ (if lane.has_records then (if commits then Securing else Opening) else Leaving)
  pub commits_is : is_commit lane.doing ≡ commits
  pub no_gives : lane.gives.items ≡ []
  pub same : HasSameRecords (lane_at book l) lane
  pub writes : lane.writes.items ≡ (lane_at book l).writes.items
  pub entry_is : commits ≡ true → HasEntry l lane
  pub no_entry : commits ≡ false → lane.entry ≡ None
  pub place : commits ≡ true → length book.history.items + 16 ≤ book.history.capacity
  pub entry : (e : Entry E) → lane.entry ≡ Some e → plain_entry e ≡ record { transaction = lane.transaction; writes = map plain_write lane.writes.items }
  pub owes : (let wants = ending_needs (layout_shape layout) (length (gates_in lane.transaction false (keeping_of keeper).ledger)) (length lane.updates.items) commits in
      (wants.events ≤ lane.owed_events) × (wants.records ≤ lane.owed_records) × HasRoomIn keeper.slots.items (l % layout.partitions) wants.gates)

abbrev pub EndsAreAsked : Type 0 → Type 0
EndsAreAsked E = (layout : Layout) (start : Words) (book later : Book E) (keeper : LogKeeper) (region : Region) (spare events l : ℕ) (commits : Bool) (lane : Lane E) →
    AsksEnd layout book keeper l commits lane → ((q : ℕ) → reserved_for layout later q ≤ reserved_for layout book q) → GoesTo book later l lane → IsBook later →
    IsStateOf layout start book keeper region spare events → IsStateOf layout start later keeper region spare events

-- ---- a transaction without a record ends

abbrev pub UnrecordedAbortsKeep : Type 0 → Type 0
UnrecordedAbortsKeep E = (layout : Layout) (start : Words) (book later : Book E) (keeper : LogKeeper) (region : Region) (spare events l : ℕ) →
    stage_of (lane_at book l) ≡ Leaving → (lane_at book l).doing ≡ Doing.Abort → GoesTo book later l (left Reply.Aborted (lane_at book l)) → IsBook later →
    IsStateOf layout start book keeper region spare events → IsStateOf layout start later keeper region spare events

-- A commit's entry joins the history.
abbrev pub UnrecordedCommitsKeep : Type 0 → Type 0
UnrecordedCommitsKeep E = (layout : Layout) (start : Words) (book later : Book E) (keeper : LogKeeper) (region : Region) (spare events l : ℕ) (e : Entry E) →
    stage_of (lane_at book l) ≡ Leaving → (lane_at book l).doing ≡ Doing.Commit → (lane_at book l).entry ≡ Some e →
    JoinsTo book later l (left Reply.Committed (entered_lane (lane_at book l))) e → IsBook later →
    IsStateOf layout start book keeper region spare events → IsStateOf layout start later keeper region spare events
