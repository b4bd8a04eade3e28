-- What a lane is about in its transaction, by its call and the part of its plan.
use Rattle.std.specs.Prelude.{ℕ, Bool, if◌then◌else◌, ◌==◌}
use Rattle.lane_types.specs.declared.call.Phase.{Phase}
pub use Rattle.lane_book.specs.Flights.{is_commit}
use Rattle.lane_book.specs.declared.lane.Lane.{Lane}
use Rattle.lane_book.specs.declared.lane.Doing.{Doing}
use Rattle.txn_state.specs.declared.parts.TheConstants.{FIRST, STORE, UNDO, KEEP, END, CLOSE, CLOSE_END}

pub data Stage : Type 0 where
  -- it has no transaction
  Free : Stage
  -- it has one, and no call that makes an event
  Between : Stage
  -- it ends one that has no record
  Leaving : Stage
  -- a write, or a take, which is one of an owner word: the append of its update, and the store of its word
  Naming : Stage
  Storing : Stage
  -- a give: the append of its deletion
  Deleting : Stage
  -- a commit's fence
  Securing : Stage
  -- an abort: the append of its rollback record and of a compensation, the store of that one's word, and the fence behind all
  Opening : Stage
  Undoing : Stage
  TakingBack : Stage
  Keeping : Stage
  -- the append of the end
  Ending : Stage
  -- the closing of the other records, and of the end, and the removal of buckets
  Closing : Stage
  ClosingEnd : Stage
  Dropping : Stage
  -- a call that no world makes yet
  Unbuilt : Stage

abbrev pub idle_stage : Phase → Stage
idle_stage Phase.Out = Free
idle_stage Phase.In = Between
idle_stage Phase.Calling = Unbuilt

abbrev pub write_stage : ℕ → Stage
write_stage part = if part == STORE then Storing else Naming

abbrev pub end_stage : ℕ → Stage
end_stage part = if part == END then Ending else (if part == CLOSE then Closing else (if part == CLOSE_END then ClosingEnd else Dropping))

abbrev pub commit_stage : ℕ → Stage
commit_stage part = if part == FIRST then Securing else end_stage part

abbrev pub abort_stage : ℕ → Stage
abort_stage part =
    if part == FIRST then Opening else
    (if part == STORE then TakingBack else
    (if part == UNDO then Undoing else
    (if part == KEEP then Keeping else end_stage part)))

-- where the lane has this phase, call and part, and its transaction has a record or not
abbrev pub stage_at : Phase → Bool → ℕ → Doing → Stage
stage_at phase recorded part Doing.Nothing = idle_stage phase
stage_at phase recorded part (Doing.Begin set) = Free
stage_at phase recorded part (Doing.Read a) = Between
stage_at phase recorded part (Doing.Write a v) = write_stage part
stage_at phase recorded part (Doing.Take s block) = write_stage part
stage_at phase recorded part (Doing.Give block) = Deleting
stage_at phase recorded part Doing.Commit = if recorded then commit_stage part else Leaving
stage_at phase recorded part Doing.Abort = if recorded then abort_stage part else Leaving
stage_at phase recorded part Doing.Checkpoint = Free
stage_at phase recorded part (Doing.Batch n) = Unbuilt
stage_at phase recorded part Doing.Savepoint = Unbuilt
stage_at phase recorded part (Doing.RollbackTo n) = Unbuilt

abbrev pub stage_of : {E : Type 0} → Lane E → Stage
stage_of lane = stage_at lane.phase lane.has_records lane.part lane.doing
