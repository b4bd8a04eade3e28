-- The plans under no-force, part by part.
use Rattle.std.specs.Prelude.{ℕ, ◌==◌, if◌then◌else◌, List, [], ◌∷◌, ◌++◌, Option, Some, None, slice_get}
use Rattle.persist_model.specs.declared.event.Event.TheVariants.{Store, WriteBack}
use Rattle.region_layout.specs.declared.layout.Policy.TheVariants.{NoForce}
use Rattle.plan_records.specs.declared.parts.Part.{Part}
use Rattle.plan_records.specs.declared.parts.Part.TheVariants.{Append, Word, Fence, Clear}
use Rattle.plan_records.specs.declared.parts.Update.{Update}
use Rattle.plan_records.specs.declared.parts.Giving.{Giving}
use Rattle.plan_records.specs.declared.parts.Closing.{Closing}
use Rattle.plan_records.specs.declared.parts.Undoing.{Undoing}
use Rattle.persist_model.specs.declared.kinds.Outcome.TheVariants.{Committed, RolledBack}
use Rattle.plan_records.specs.Cells.{cell_of_update, cell_of_deletion}
use Rattle.region_layout.specs.RecordCells.{cell_of_rollback, cell_of_end, cell_of_checkpoint}
use Rattle.plan_records.specs.Sequences.{undo_parts, owner_parts}
use Rattle.noforce_policy.specs.declared.checkpoint.Sweep.{Sweep}

-- the record is there before the word is stored
abbrev pub write_plan : Update → List Part
write_plan u = Append (cell_of_update u) ∷ Word (Store u.word u.after) ∷ []

abbrev pub give_plan : Giving → List Part
give_plan g = Append (cell_of_deletion g) ∷ []

abbrev pub commit_plan : Closing → List Part
commit_plan c = Append (cell_of_end c.transaction Committed) ∷ []

-- Each update is compensated, newest first, and its word has its value before.
abbrev pub abort_plan : Undoing → List Part
abort_plan u = Append (cell_of_rollback u.transaction) ∷ (undo_parts NoForce u.updates ++ Append (cell_of_end u.transaction RolledBack) ∷ [])

-- What was swept is kept before the checkpoint is recorded, and that before a block is deleted; then the records are cleared.
abbrev pub checkpoint_plan : List ℕ → List Part
checkpoint_plan deletions = Fence ∷ Append cell_of_checkpoint ∷ (owner_parts deletions ++ Clear ∷ [])

-- the write back of a word that is left to sweep, or else what follows
abbrev pub sweep_or : Option ℕ → Option Part → Option Part
sweep_or (Some word) next = Some (Word (WriteBack word))
sweep_or None next = next

abbrev pub next_of_checkpoint : Sweep → ℕ → Option Part
next_of_checkpoint sweep i =
    if sweep.stage == 0 then sweep_or sweep.dirty (slice_get (checkpoint_plan sweep.deletions) i) else slice_get (checkpoint_plan sweep.deletions) i
