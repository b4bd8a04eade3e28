-- The parts of a plan before the closing.
use Rattle.std.proofs.Common.{◌≡◌, ℕ, ◌==◌, if◌then◌else◌, Bool, true, false, refl, ap}
use Rattle.lane_types.specs.declared.call.Phase.{Phase}
use Rattle.lane_book.specs.declared.lane.Doing.{Doing}
use Rattle.txn_state.specs.declared.parts.TheConstants.{STORE, UNDO, KEEP}
use Rattle.txn_state.specs.Stages.{Naming, Storing, stage_at, idle_stage, is_commit}
use Rattle.txn_state.specs.ReadLaws.{clears_in}

-- a lane without a call closes nothing,
pub rests_open : (phase : Phase) → clears_in (idle_stage phase) ≡ true → ⊥
rests_open Phase.Out on = cc
rests_open Phase.In on = cc
rests_open Phase.Calling on = cc

-- nor does one whose call has made no step,
pub begins_clear : (recorded : Bool) (doing : Doing) → clears_in (stage_at Phase.Calling recorded 0 doing) ≡ false
begins_clear recorded Doing.Nothing = refl
begins_clear recorded (Doing.Begin set) = refl
begins_clear recorded (Doing.Read a) = refl
begins_clear recorded (Doing.Write a v) = refl
begins_clear recorded (Doing.Take s block) = refl
begins_clear recorded (Doing.Give block) = refl
begins_clear true Doing.Commit = refl
begins_clear false Doing.Commit = refl
begins_clear true Doing.Abort = refl
begins_clear false Doing.Abort = refl
begins_clear recorded Doing.Checkpoint = refl
begins_clear recorded (Doing.Batch n) = refl
begins_clear recorded Doing.Savepoint = refl
begins_clear recorded (Doing.RollbackTo n) = refl

both : (t : Bool) → t ≡ true → t ≡ false → ⊥
both true on off = cc
both false on off = cc

write_open : (storing : Bool) → clears_in (if storing then Storing else Naming) ≡ true → ⊥
write_open true e = cc
write_open false e = cc

-- nor one that names a word,
pub naming_open : (phase : Phase) (recorded : Bool) (part : ℕ) (doing : Doing) → stage_at phase recorded part doing ≡ Naming → clears_in (stage_at phase true part doing) ≡ true → ⊥
naming_open phase recorded part Doing.Nothing is on = rests_open phase on
naming_open phase recorded part (Doing.Begin set) is on = cc
naming_open phase recorded part (Doing.Read a) is on = cc
naming_open phase recorded part (Doing.Write a v) is on = write_open (part == STORE) on
naming_open phase recorded part (Doing.Take s block) is on = write_open (part == STORE) on
naming_open phase recorded part (Doing.Give block) is on = cc
naming_open phase true part Doing.Commit is on = both (clears_in (stage_at phase true part Doing.Commit)) on (ap clears_in is)
naming_open phase false part Doing.Commit is on = cc
naming_open phase true part Doing.Abort is on = both (clears_in (stage_at phase true part Doing.Abort)) on (ap clears_in is)
naming_open phase false part Doing.Abort is on = cc
naming_open phase recorded part Doing.Checkpoint is on = cc
naming_open phase recorded part (Doing.Batch n) is on = cc
naming_open phase recorded part Doing.Savepoint is on = cc
naming_open phase recorded part (Doing.RollbackTo n) is on = cc

-- nor one that is about these parts of no commit
pub data IsOpenPart : ℕ → Type 0 where
  store_part : IsOpenPart STORE
  undo_part : IsOpenPart UNDO
  keep_part : IsOpenPart KEEP

pub undoes_open : (none : Bool) → IsOpenPart (if none then KEEP else UNDO)
undoes_open true = keep_part
undoes_open false = undo_part

pub part_open : (phase : Phase) (recorded : Bool) (part : ℕ) (doing : Doing) → IsOpenPart part → is_commit doing ≡ false → clears_in (stage_at phase recorded part doing) ≡ true → ⊥
part_open phase recorded part Doing.Nothing is off on = rests_open phase on
part_open phase recorded part (Doing.Begin set) is off on = cc
part_open phase recorded part (Doing.Read a) is off on = cc
part_open phase recorded part (Doing.Write a v) is off on = write_open (part == STORE) on
part_open phase recorded part (Doing.Take s block) is off on = write_open (part == STORE) on
part_open phase recorded part (Doing.Give block) is off on = cc
part_open phase recorded part Doing.Commit is off on = cc
part_open phase true part Doing.Abort store_part off on = cc
part_open phase true part Doing.Abort undo_part off on = cc
part_open phase true part Doing.Abort keep_part off on = cc
part_open phase false part Doing.Abort is off on = cc
part_open phase recorded part Doing.Checkpoint is off on = cc
part_open phase recorded part (Doing.Batch n) is off on = cc
part_open phase recorded part Doing.Savepoint is off on = cc
part_open phase recorded part (Doing.RollbackTo n) is off on = cc
