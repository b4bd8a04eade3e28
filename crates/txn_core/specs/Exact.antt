-- What the answer of a step says of the state before it, what the step costs the lane, and how the history grows.
use Rattle.log_keeper.specs.declared.slots.TheConstants.{NOBODY}
use Rattle.std.specs.Prelude.{◌≡◌, ◌≢◌, ◌⊎◌, ℕ, ◌+◌, ◌*◌, ◌%◌, ◌<◌, ◌≤◌, true, false, if◌then◌else◌, [], ◌∷◌, ◌++◌, length, Some, slice_set}
use Rattle.persist_model.specs.Shape.{Shape}
use Rattle.lane_traits.specs.Device.{Counts}
use Rattle.region_layout.specs.declared.layout.Layout.{Layout}
use Rattle.region_layout.specs.Layout.{layout_shape}
use Rattle.lane_types.specs.declared.call.Call.{Call}
use Rattle.lane_types.specs.declared.call.Call.TheVariants.{Begin, Read, Write, Take, Give, Commit, Abort, Checkpoint, Batch, Savepoint, RollbackTo}
use Rattle.lane_types.specs.declared.call.Reply.TheVariants.{Committed}
use Rattle.lane_types.specs.declared.call.Stepped.{Stepped}
use Rattle.lane_types.specs.declared.call.Stepped.TheVariants.{Moved, Answered, Waiting, Stopped, Idle}
use Rattle.lane_types.specs.declared.call.What.TheVariants as What
use Rattle.lane_types.specs.declared.face.Entry.{Entry}
use Rattle.offset_alloc.specs.declared.Standing.TheVariants.{Owned}
use Rattle.offset_alloc.specs.Blocks.{IsLeastFree}
use Rattle.lane_book.specs.declared.book.Book.{Book}
use Rattle.lane_book.specs.declared.lane.Lane.{Lane}
use Rattle.lane_book.specs.declared.lane.Doing.{Doing}
use Rattle.lane_book.specs.FacesOf.{lane_at}
use Rattle.lane_book.specs.Locks.{AreLoose}
use Rattle.log_keeper.specs.declared.keeper.LogKeeper.{LogKeeper}
use Rattle.log_keeper.specs.Keeper.{keeping_of}
use Rattle.txn_state.specs.Owing.{append_most}
use Rattle.txn_state.specs.QuietLaws.{ending_needs}
use Rattle.txn_state.specs.ReadLaws.{makes_events, appends_in}
use Rattle.txn_state.specs.Stages.{Leaving, Ending, Closing, stage_of}
use Rattle.txn_core.specs.Running.{one_made}
use Rattle.txn_core.specs.Stepping.{IsLatched, WaitsForStructure}

-- ---- what the next step needs

-- No other lane has what the lane's next step needs: where it appends, the latch of its partition; and where it begins, each of its structures.
pub record IsUnblocked {E : Type 0} (layout : Layout) (book : Book E) (keeper : LogKeeper) (l : ℕ) : Type 0 where
  pub latch : appends_in (stage_of (lane_at book l)) ≡ true →
      ((keeping_of keeper).holder (l % layout.partitions) ≡ NOBODY) ⊎ ((keeping_of keeper).holder (l % layout.partitions) ≡ l)
  pub structures : (set : ℕ) → (lane_at book l).doing ≡ Doing.Begin set → AreLoose book set

-- The lane appends, and the latch of its partition is another lane's.
pub record IsLatchedOut {E : Type 0} (layout : Layout) (book : Book E) (keeper : LogKeeper) (l p holder : ℕ) : Type 0 where
  pub appends : appends_in (stage_of (lane_at book l)) ≡ true
  pub latched : IsLatched layout keeper l p holder

-- ---- what an answer says

-- An event is made, for which the device was within its budget, and the lane's call goes on.
pub record HasMoved {E : Type 0} (layout : Layout) (book later : Book E) (keeper : LogKeeper) (counts after : Counts) (l : ℕ) : Type 0 where
  pub unblocked : IsUnblocked layout book keeper l
  pub has_event : makes_events (stage_of (lane_at book l)) ≡ true
  pub unspent : counts.events < counts.budget
  pub counted : after ≡ one_made counts
  pub call : (lane_at later l).doing ≡ (lane_at book l).doing

-- The call is over, with its last event where its stage has one, and with none elsewhere.
pub record HasAnswered {E : Type 0} (layout : Layout) (book later : Book E) (keeper : LogKeeper) (counts after : Counts) (l : ℕ) : Type 0 where
  pub unblocked : IsUnblocked layout book keeper l
  pub unspent : makes_events (stage_of (lane_at book l)) ≡ true → counts.events < counts.budget
  pub counted : makes_events (stage_of (lane_at book l)) ≡ true → after ≡ one_made counts
  pub uncounted : makes_events (stage_of (lane_at book l)) ≡ false → after ≡ counts
  pub over : (lane_at later l).doing ≡ Doing.Nothing

-- The stage has an event, and the device is at its budget.
pub record HasSpent {E : Type 0} (layout : Layout) (book : Book E) (keeper : LogKeeper) (counts : Counts) (l : ℕ) : Type 0 where
  pub unblocked : IsUnblocked layout book keeper l
  pub has_event : makes_events (stage_of (lane_at book l)) ≡ true
  pub spent : counts.events ≡ counts.budget

-- so it is with each answer to a lane that has a call in progress, in a world that no step was told to have stopped
abbrev pub GoesBy : {E : Type 0} → Layout → Book E → Book E → LogKeeper → Counts → Counts → ℕ → Stepped → Type 0
GoesBy layout book later keeper counts after l Moved = HasMoved layout book later keeper counts after l
GoesBy layout book later keeper counts after l (Answered reply) = HasAnswered layout book later keeper counts after l
GoesBy layout book later keeper counts after l (Waiting (What.Latch p) holder) = IsLatchedOut layout book keeper l p holder
GoesBy layout book later keeper counts after l (Waiting (What.Structure s) holder) = WaitsForStructure book l s holder
GoesBy layout book later keeper counts after l Stopped = HasSpent layout book keeper counts l
GoesBy layout book later keeper counts after l Idle = ⊥

-- ---- what the call may still make

-- The events that the lane's call may still make: what it owes, where its stage has events.
abbrev pub events_owed : {E : Type 0} → Lane E → ℕ
events_owed lane = if makes_events (stage_of lane) then lane.owed_events else 0

-- ---- the history

-- It stays; or the entry of the lane's commit is behind it: with the last event of its end's append, or with the answer where it has no record.
pub data Grows {E : Type 0} (book later : Book E) (l : ℕ) (answer : Stepped) : Type 0 where
  stays : later.history.items ≡ book.history.items → Grows book later l answer
  joins : (e : Entry E) → (lane_at book l).doing ≡ Doing.Commit → (lane_at book l).entry ≡ Some e →
      stage_of (lane_at book l) ≡ Ending → stage_of (lane_at later l) ≡ Closing → answer ≡ Moved →
      later.history.items ≡ book.history.items ++ e ∷ [] → Grows book later l answer
  joins_at_once : (e : Entry E) → (lane_at book l).doing ≡ Doing.Commit → (lane_at book l).entry ≡ Some e →
      stage_of (lane_at book l) ≡ Leaving → answer ≡ Answered Committed →
      later.history.items ≡ book.history.items ++ e ∷ [] → Grows book later l answer

-- ---- a step

-- A step of a call in progress: the answer tells the state before; each event is paid for, and no step adds to what is owed; no other lane is another.
pub record GoesExactly {E : Type 0} (layout : Layout) (book later : Book E) (keeper : LogKeeper) (counts after : Counts) (l : ℕ) (answer : Stepped) : Type 0 where
  pub goes : GoesBy layout book later keeper counts after l answer
  pub spends : events_owed (lane_at later l) + after.events ≤ events_owed (lane_at book l) + counts.events
  pub others : (k : ℕ) → k ≢ l → lane_at later k ≡ lane_at book k
  pub history : Grows book later l answer

-- And any step: once one was told that the device has stopped, each is; then a lane without a call is idle; and else it goes by what its call needs.
pub record StepsExactly {E : Type 0} (layout : Layout) (book later : Book E) (keeper : LogKeeper) (counts after : Counts) (l : ℕ) (answer : Stepped) : Type 0 where
  pub stopped : book.stopped ≡ true → answer ≡ Stopped
  pub idle : book.stopped ≡ false → (lane_at book l).doing ≡ Doing.Nothing → answer ≡ Idle
  pub goes : book.stopped ≡ false → (lane_at book l).doing ≢ Doing.Nothing → GoesBy layout book later keeper counts after l answer
  pub spends : events_owed (lane_at later l) + after.events ≤ events_owed (lane_at book l) + counts.events
  pub others : (k : ℕ) → k ≢ l → lane_at later k ≡ lane_at book k
  pub history : Grows book later l answer

-- ---- an ask

-- So many events a call has at the most, where so many updates of the lane's transaction stand.
abbrev pub call_events : {E : Type 0} → Shape → ℕ → Call E → ℕ
call_events shape updates (Begin set) = 0
call_events shape updates (Read a) = 0
call_events shape updates (Write a v) = append_most shape + 1
call_events shape updates (Take s) = append_most shape + 1
call_events shape updates (Give block) = 0
call_events shape updates (Commit deed) = (ending_needs shape updates 0 true).events
call_events shape updates Abort = (ending_needs shape updates updates false).events
call_events shape updates Checkpoint = 0
call_events shape updates (Batch writes) = 0
call_events shape updates Savepoint = 0
call_events shape updates (RollbackTo n) = 0

-- The lane's call may make at most what it has, by the lane's own updates.
abbrev pub MayMake : {E : Type 0} → Layout → Call E → Book E → Book E → ℕ → Type 0
MayMake layout call book later l = events_owed (lane_at later l) ≤ call_events (layout_shape layout) (length (lane_at book l).updates.items) call

-- And no call of any lane makes more than so many, by the sizes of the region.
abbrev pub world_events : Layout → ℕ
world_events layout = 16 * layout.blocks + (31 + layout.cells) * layout.cells * layout.buckets + 8

-- No block stands otherwise; or the lane's call is to take the least free one, which is the structure's from now on.
pub data GoBlocks {E : Type 0} (book later : Book E) (l : ℕ) : Type 0 where
  blocks_stay : later.blocks ≡ book.blocks → GoBlocks book later l
  block_taken : (s k : ℕ) → (lane_at later l).doing ≡ Doing.Take s k → IsLeastFree book.blocks k → later.blocks ≡ slice_set book.blocks k (Owned s) → GoBlocks book later l

-- No other lane is another, and all else of the book is the same but for a block that is taken.
pub record KeepsBeside {E : Type 0} (book later : Book E) (l : ℕ) : Type 0 where
  pub others : (k : ℕ) → k ≢ l → lane_at later k ≡ lane_at book k
  pub history : later.history.items ≡ book.history.items
  pub blocks : GoBlocks book later l
  pub next : later.next_transaction ≡ book.next_transaction
  pub stopped : later.stopped ≡ book.stopped
