-- The events of the log's parts: an append begins, goes on, stores its record's gate, and ends.
use Rattle.log_keeper.specs.declared.slots.TheConstants.{NOBODY}
use Rattle.std.specs.Prelude.{◌≡◌, ℕ, ◌+◌, ◌%◌, ◌<◌, ◌≤◌, true, false, if◌then◌else◌, ◌==◌, List, [], ◌∷◌, length, reverse, slice_get, Some, ◌^◌}
use Rattle.persist_model.specs.declared.event.Event.{Event}
use Rattle.persist_model.specs.declared.kinds.Outcome.TheVariants.{Committed, RolledBack}
use Rattle.persist_model.specs.Region.{Words, Region, newest, after}
use Rattle.persist_model.specs.Chain.{view}
use Rattle.atomic_list.specs.Walk.{chain_of}
use Rattle.region_layout.specs.declared.layout.Layout.{Layout}
use Rattle.region_layout.specs.declared.cell.Cell.{Cell}
use Rattle.region_layout.specs.Cell.{record_of}
use Rattle.region_layout.specs.RecordCells.{cell_of_compensation, cell_of_rollback, cell_of_end}
use Rattle.region_layout.specs.Layout.{layout_shape}
use Rattle.bucket_log.specs.declared.append.Place.{Place}
use Rattle.bucket_log.specs.Places.{IsNextPlace}
use Rattle.bucket_log.specs.Plans.{place_address}
use Rattle.plan_records.specs.Cells.{cell_of_update, cell_of_deletion}
use Rattle.lane_traits.specs.declared.draft.WordWrite.{WordWrite}
use Rattle.lane_types.specs.declared.face.Entry.{Entry}
use Rattle.lane_book.specs.declared.book.Book.{Book}
use Rattle.lane_book.specs.declared.lane.Lane.{Lane}
use Rattle.lane_book.specs.declared.lane.Doing.TheVariants as Doing
use Rattle.lane_types.specs.declared.call.Reply.TheVariants as Reply
use Rattle.persist_model.specs.Shape.{block}
use Rattle.lane_book.specs.FacesOf.{lane_at}
use Rattle.lane_book.specs.Books.{IsBook}
use Rattle.lane_book.specs.Lanes.{moved, closed, entered_lane}
use Rattle.lane_book.specs.Appends.{with_update, with_deletion, with_rollback, with_compensation, with_end}
use Rattle.log_keeper.specs.declared.keeper.LogKeeper.{LogKeeper}
use Rattle.log_keeper.specs.Parts.{appends, closes}
use Rattle.log_keeper.specs.Logged.{Keeping, plan_in, latched}
use Rattle.log_keeper.specs.Making.{made_part}
use Rattle.log_keeper.specs.Listing.{gates_in}
use Rattle.log_keeper.specs.Keeper.{keeping_of, numbered, appending, begun_in}
use Rattle.txn_laws.specs.Rooms.{stores_gate}
use Rattle.txn_state.specs.declared.parts.TheConstants.{STORE, UNDO, KEEP, CLOSE}
use Rattle.txn_state.specs.Stages.{Naming, Deleting, Opening, Undoing, Ending, stage_of, is_commit}
use Rattle.txn_state.specs.States.{IsStateOf, reserved_for}
use Rattle.txn_state.specs.Changes.{GoesTo, JoinsTo, IsKept, HasDrawn, paid_event, paid_record}
use Rattle.txn_state.specs.QuietLaws.{HasSameTransaction}

-- ---- an append begins

-- what a read of all words finds
abbrev pub newest_image : Region → Words
newest_image region a = newest (region.at a)

-- the number of the newest of these updates, oldest first, and 0 where there is none
abbrev pub top_cell : List Cell → ℕ
top_cell [] = 0
top_cell (c ∷ cells) = c.lsn

abbrev pub write_cell : {E : Type 0} → Region → Lane E → WordWrite → Cell
write_cell region lane w = cell_of_update (record {
  transaction = lane.transaction;
  word = w.address;
  before = newest (region.at w.address);
  after = w.value;
  undo_next = top_cell (reverse lane.updates.items);
})

-- The cell of the record that comes next in the lane's call: the update of its next write, a rollback record, the compensation of its newest update, or
-- its end.
pub data IsNextCell {E : Type 0} (region : Region) (lane : Lane E) : Cell → Type 0 where
  of_write : (w : WordWrite) → stage_of lane ≡ Naming → slice_get lane.writes.items lane.stored ≡ Some w → IsNextCell region lane (write_cell region lane w)
  of_rollback : stage_of lane ≡ Opening → IsNextCell region lane (cell_of_rollback lane.transaction)
  of_update : (c : Cell) (others : List Cell) → stage_of lane ≡ Undoing → reverse lane.updates.items ≡ c ∷ others → IsNextCell region lane (cell_of_compensation c)
  of_end : stage_of lane ≡ Ending → IsNextCell region lane (cell_of_end lane.transaction (if is_commit lane.doing then Committed else RolledBack))

-- The next place of a partition, as a read finds it.
abbrev pub IsPlaceRead : Layout → ℕ → Region → Place → Type 0
IsPlaceRead layout p region place =
    let w = view p (newest_image region) in IsNextPlace (layout_shape layout) p w (chain_of (layout_shape layout) w) place

-- The keeper's data where lane l takes the latch of p and begins the append of the cell.
abbrev pub latched_append : ℕ → ℕ → Place → Cell → LogKeeper → Keeping
latched_append p l place cell keeper = appending p place (record_of (place_address place) (numbered keeper.next_lsn cell)) (latched p l (keeping_of keeper))

abbrev pub AppendsBegin : Type 0 → Type 0
AppendsBegin E = (layout : Layout) (start : Words) (book later : Book E) (keeper drawn : LogKeeper) (region : Region) (spare events l : ℕ) (place : Place) (cell : Cell) →
    let p = l % layout.partitions in
    (keeping_of keeper).holder p ≡ NOBODY → IsPlaceRead layout p region place → IsNextCell region (lane_at book l) cell →
    ((a : ℕ) → a < region.size → 0 < length (region.at a)) →
    events < 2 ^ 64 → GoesTo book later l (paid_record (lane_at book l)) → IsBook later → HasDrawn keeper drawn (latched_append p l place cell keeper) →
    IsStateOf layout start book keeper region spare events → IsStateOf layout start later drawn region spare events

-- the cell of the deletion of the block that the lane gives, with its owner as a read finds it
abbrev pub deletion_cell : {E : Type 0} → Layout → Region → Lane E → ℕ → Cell
deletion_cell layout region lane k = cell_of_deletion (record {
  transaction = lane.transaction;
  owner_word = block (layout_shape layout) k;
  owner = newest (region.at (block (layout_shape layout) k));
})

-- So begins that of a deletion.
abbrev pub DeletionsBegin : Type 0 → Type 0
DeletionsBegin E = (layout : Layout) (start : Words) (book later : Book E) (keeper drawn : LogKeeper) (region : Region) (spare events l k : ℕ) (place : Place) →
    let p = l % layout.partitions in
    (keeping_of keeper).holder p ≡ NOBODY → IsPlaceRead layout p region place → stage_of (lane_at book l) ≡ Deleting → (lane_at book l).doing ≡ Doing.Give k →
    ((a : ℕ) → a < region.size → 0 < length (region.at a)) →
    events < 2 ^ 64 → GoesTo book later l (paid_record (lane_at book l)) → IsBook later →
    HasDrawn keeper drawn (latched_append p l place (deletion_cell layout region (lane_at book l) k) keeper) →
    IsStateOf layout start book keeper region spare events → IsStateOf layout start later drawn region spare events

-- ---- the next event of a part

-- e is the next event of what lane l has under way in its partition, which is made; the device has an event more, and perhaps a place less.
pub record IsMade (layout : Layout) (keeper : LogKeeper) (region later : Region) (l : ℕ) (e : Event) (spare left events made : ℕ) : Type 0 where
  pub holder : (keeping_of keeper).holder (l % layout.partitions) ≡ l
  pub next : slice_get (plan_in (layout_shape layout) (keeping_of keeper) (l % layout.partitions)) ((keeping_of keeper).runs (l % layout.partitions)).made ≡ Some e
  pub cells : later ≡ after region l e
  pub places : spare ≤ left + 1
  pub counted : made ≡ events + 1
  pub inside : l < NOBODY

-- so many of its events are left, that one included
abbrev pub AreLeft : Layout → LogKeeper → ℕ → ℕ → Type 0
AreLeft layout keeper p n =
    ((keeping_of keeper).runs p).made + n ≡ length (plan_in (layout_shape layout) (keeping_of keeper) p)

-- the keeper's data behind the event
abbrev pub made_in : Layout → LogKeeper → ℕ → Keeping
made_in layout keeper p = made_part (layout_shape layout) p (keeping_of keeper)

-- An event that neither stores a record's gate nor is the part's last.
abbrev pub PartsGoOn : Type 0 → Type 0
PartsGoOn E = (layout : Layout) (start : Words) (book later : Book E) (keeper kept : LogKeeper) (region behind : Region) (spare left events made l n : ℕ) (e : Event) (lane : Lane E) →
    let p = l % layout.partitions in
    IsMade layout keeper region behind l e spare left events made → AreLeft layout keeper p (n + 2) → stores_gate (layout_shape layout) (keeping_of keeper) p ≡ false →
    HasSameTransaction (paid_event (lane_at book l)) lane → GoesTo book later l lane → IsBook later → IsKept keeper kept (made_in layout keeper p) →
    IsStateOf layout start book keeper region spare events → IsStateOf layout start later kept behind left made

-- ---- the store of a record's gate

-- the lane behind it, c being the cell with its number
pub data Notices {E : Type 0} (lane : Lane E) (c : Cell) : Lane E → Type 0 where
  update : stage_of lane ≡ Naming → Notices lane c (with_update c lane)
  rollback : stage_of lane ≡ Opening → Notices lane c (with_rollback lane)
  compensation : stage_of lane ≡ Undoing → Notices lane c (with_compensation lane)
  end : stage_of lane ≡ Ending → Notices lane c (with_end lane)

-- a cell less is reserved in the partition, and no more elsewhere
abbrev pub LetsGoOne : {E : Type 0} → Layout → Book E → Book E → ℕ → Type 0
LetsGoOne layout book later p = (q : ℕ) → reserved_for layout later q + (if q == p then 1 else 0) ≤ reserved_for layout book q

abbrev pub GatesAreStored : Type 0 → Type 0
GatesAreStored E = (layout : Layout) (start : Words) (book later : Book E) (keeper kept : LogKeeper) (region behind : Region) (spare left events made l : ℕ) (e : Event) (place : Place) (c : Cell)
    (lane : Lane E) →
    let p = l % layout.partitions in
    IsMade layout keeper region behind l e spare left events made → AreLeft layout keeper p 2 →
    ((keeping_of keeper).runs p).part ≡ appends place (record_of (place_address place) c) →
    Notices (paid_event (lane_at book l)) c lane → LetsGoOne layout book later p →
    GoesTo book later l (moved lane.part lane) → IsBook later → IsKept keeper kept (made_in layout keeper p) →
    IsStateOf layout start book keeper region spare events → IsStateOf layout start later kept behind left made

-- A deletion's gate is stored.
abbrev pub DeletionsAreStored : Type 0 → Type 0
DeletionsAreStored E = (layout : Layout) (start : Words) (book later : Book E) (keeper kept : LogKeeper) (region behind : Region) (spare left events made l k : ℕ) (e : Event) (place : Place) (c : Cell) →
    let p = l % layout.partitions in
    IsMade layout keeper region behind l e spare left events made → AreLeft layout keeper p 2 →
    ((keeping_of keeper).runs p).part ≡ appends place (record_of (place_address place) c) →
    stage_of (lane_at book l) ≡ Deleting → (lane_at book l).doing ≡ Doing.Give k → LetsGoOne layout book later p →
    GoesTo book later l (moved (lane_at book l).part (with_deletion (place_address place) (paid_event (lane_at book l)))) → IsBook later → IsKept keeper kept (made_in layout keeper p) →
    IsStateOf layout start book keeper region spare events → IsStateOf layout start later kept behind left made

-- ---- the last event of an append

-- the part that follows, where no end was appended
abbrev pub undo_part : {E : Type 0} → Lane E → ℕ
undo_part lane = if length lane.updates.items == 0 then KEEP else UNDO

pub data GoesOnTo {E : Type 0} (lane : Lane E) : ℕ → Type 0 where
  store_word : stage_of lane ≡ Naming → GoesOnTo lane STORE
  undo : stage_of lane ≡ Opening → GoesOnTo lane (undo_part lane)
  take_back : stage_of lane ≡ Undoing → GoesOnTo lane STORE

-- The latch is let go.
abbrev pub RecordsSettle : Type 0 → Type 0
RecordsSettle E = (layout : Layout) (start : Words) (book later : Book E) (keeper kept : LogKeeper) (region behind : Region) (spare left events made l part : ℕ) (e : Event) →
    let p = l % layout.partitions in
    IsMade layout keeper region behind l e spare left events made → AreLeft layout keeper p 1 →
    GoesOnTo (lane_at book l) part → GoesTo book later l (moved part (paid_event (lane_at book l))) → IsBook later →
    IsKept keeper kept (latched p NOBODY (made_in layout keeper p)) →
    IsStateOf layout start book keeper region spare events → IsStateOf layout start later kept behind left made

-- Behind a deletion the give is answered too.
abbrev pub GivesAreAnswered : Type 0 → Type 0
GivesAreAnswered E = (layout : Layout) (start : Words) (book later : Book E) (keeper kept : LogKeeper) (region behind : Region) (spare left events made l k : ℕ) (e : Event) →
    let p = l % layout.partitions in
    IsMade layout keeper region behind l e spare left events made → AreLeft layout keeper p 1 →
    stage_of (lane_at book l) ≡ Deleting → (lane_at book l).doing ≡ Doing.Give k → GoesTo book later l (closed Reply.Given (paid_event (lane_at book l))) → IsBook later →
    IsKept keeper kept (latched p NOBODY (made_in layout keeper p)) →
    IsStateOf layout start book keeper region spare events → IsStateOf layout start later kept behind left made

-- the closing of the transaction's records but its end begins
abbrev pub closing_begun : ℕ → ℕ → Keeping → Keeping
closing_begun p t k = begun_in p (closes (gates_in t false k.ledger) [] []) k.ledger k

-- Behind an abort's end its records are closed,
abbrev pub UndoneEndsSettle : Type 0 → Type 0
UndoneEndsSettle E = (layout : Layout) (start : Words) (book later : Book E) (keeper kept : LogKeeper) (region behind : Region) (spare left events made l : ℕ) (e : Event) →
    let p = l % layout.partitions in
    IsMade layout keeper region behind l e spare left events made → AreLeft layout keeper p 1 →
    stage_of (lane_at book l) ≡ Ending → is_commit (lane_at book l).doing ≡ false →
    GoesTo book later l (moved CLOSE (paid_event (lane_at book l))) → IsBook later →
    IsKept keeper kept (closing_begun p (lane_at book l).transaction (made_in layout keeper p)) →
    IsStateOf layout start book keeper region spare events → IsStateOf layout start later kept behind left made

-- and behind a commit's too, whose entry has joined the history.
abbrev pub CommitEndsSettle : Type 0 → Type 0
CommitEndsSettle E = (layout : Layout) (start : Words) (book later : Book E) (keeper kept : LogKeeper) (region behind : Region) (spare left events made l : ℕ) (e : Event) (entry : Entry E) →
    let p = l % layout.partitions in
    IsMade layout keeper region behind l e spare left events made → AreLeft layout keeper p 1 →
    stage_of (lane_at book l) ≡ Ending → is_commit (lane_at book l).doing ≡ true → (lane_at book l).entry ≡ Some entry →
    JoinsTo book later l (moved CLOSE (entered_lane (paid_event (lane_at book l)))) entry → IsBook later →
    IsKept keeper kept (closing_begun p (lane_at book l).transaction (made_in layout keeper p)) →
    IsStateOf layout start book keeper region spare events → IsStateOf layout start later kept behind left made
