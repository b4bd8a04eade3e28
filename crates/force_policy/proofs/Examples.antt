-- The plans under force on small literals.
use Rattle.std.proofs.Common.{◌≡◌, [], ◌∷◌, refl}
use Rattle.persist_model.specs.declared.event.Event.TheVariants.{PStore}
use Rattle.plan_records.specs.declared.parts.Update.{Update}
use Rattle.plan_records.specs.declared.parts.Part.TheVariants.{Append, Word, Fence, Clear}
use Rattle.persist_model.specs.declared.kinds.Outcome.TheVariants.{Committed, RolledBack}
use Rattle.plan_records.specs.Cells.{cell_of_update}
use Rattle.region_layout.specs.RecordCells.{cell_of_compensation, cell_of_rollback, cell_of_end}
use Rattle.force_policy.specs.Plans.{write_plan, give_plan, commit_plan, abort_plan}

abbrev first : Update
first = record { transaction = 7; word = 170; before = 5; after = 6; undo_next = 0 }

abbrev second : Update
second = record { transaction = 7; word = 171; before = 0; after = 9; undo_next = 1 }

write_is : write_plan first ≡ Append (cell_of_update first) ∷ Word (PStore 170 6) ∷ []
write_is = refl

give_is : give_plan (record { transaction = 7; owner_word = 176; owner = 1 }) ≡
    Append (record { lsn = 0; transaction = 7; kind = 6; word = 176; before = 1; after = 0; undo_next = 0; outcome = 0 }) ∷ []
give_is = refl

-- a commit without and with deletions
commit_is : (commit_plan (record { transaction = 7; deletions = [] }) ≡ Fence ∷ Append (cell_of_end 7 Committed) ∷ Clear ∷ [])
    × (commit_plan (record { transaction = 7; deletions = 176 ∷ 192 ∷ [] }) ≡
    Fence ∷ Append (cell_of_end 7 Committed) ∷ Word (PStore 176 0) ∷ Word (PStore 192 0) ∷ Fence ∷ Clear ∷ [])
commit_is = (refl, refl)

-- the newest update is compensated first
abort_is : abort_plan (record { transaction = 7; updates = cell_of_update second ∷ cell_of_update first ∷ [] }) ≡
    Append (cell_of_rollback 7) ∷ Append (cell_of_compensation (cell_of_update second)) ∷ Word (PStore 171 0) ∷
    Append (cell_of_compensation (cell_of_update first)) ∷ Word (PStore 170 5) ∷ Fence ∷ Append (cell_of_end 7 RolledBack) ∷ Clear ∷ []
abort_is = refl
