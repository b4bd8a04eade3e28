-- The plans under force, part by part.
use Rattle.std.specs.Prelude.{List, [], ◌∷◌, ◌++◌}
use Rattle.persist_model.specs.declared.event.Event.TheVariants.{PStore}
use Rattle.region_layout.specs.declared.layout.Policy.TheVariants.{Force}
use Rattle.plan_records.specs.declared.parts.Part.{Part}
use Rattle.plan_records.specs.declared.parts.Part.TheVariants.{Append, Word, Fence, Clear}
use Rattle.plan_records.specs.declared.parts.Update.{Update}
use Rattle.plan_records.specs.declared.parts.Giving.{Giving}
use Rattle.plan_records.specs.declared.parts.Closing.{Closing}
use Rattle.plan_records.specs.declared.parts.Undoing.{Undoing}
use Rattle.persist_model.specs.declared.kinds.Outcome.TheVariants.{Committed, RolledBack}
use Rattle.plan_records.specs.Cells.{cell_of_update, cell_of_deletion}
use Rattle.region_layout.specs.RecordCells.{cell_of_rollback, cell_of_end}
use Rattle.plan_records.specs.Sequences.{undo_parts, owner_parts}

-- the record is there before the word is stored
abbrev pub write_plan : Update → List Part
write_plan u = Append (cell_of_update u) ∷ Word (PStore u.word u.after) ∷ []

abbrev pub give_plan : Giving → List Part
give_plan g = Append (cell_of_deletion g) ∷ []

-- What was written is kept before the end is recorded, and the end before a block is deleted; then the records are cleared.
abbrev pub commit_plan : Closing → List Part
commit_plan c = Fence ∷ Append (cell_of_end c.transaction Committed) ∷ (owner_parts c.deletions ++ Clear ∷ [])

-- Each update is compensated, newest first, and its word has its value before; that is kept before the end is recorded.
abbrev pub abort_plan : Undoing → List Part
abort_plan u = Append (cell_of_rollback u.transaction) ∷ (undo_parts Force u.updates ++ Fence ∷ Append (cell_of_end u.transaction RolledBack) ∷ Clear ∷ [])
