-- The plans under no-force on small literals.
use Rattle.std.proofs.Common.{◌≡◌, [], ◌∷◌, Some, None, refl}
use Rattle.persist_model.specs.declared.event.Event.TheVariants.{Store, PStore, WriteBack}
use Rattle.plan_records.specs.declared.parts.Update.{Update}
use Rattle.plan_records.specs.declared.parts.Part.TheVariants.{Append, Word, Fence, Clear}
use Rattle.persist_model.specs.declared.kinds.Outcome.TheVariants.{Committed, RolledBack}
use Rattle.plan_records.specs.Cells.{cell_of_update}
use Rattle.region_layout.specs.RecordCells.{cell_of_compensation, cell_of_rollback, cell_of_end, cell_of_checkpoint}
use Rattle.noforce_policy.specs.Plans.{write_plan, commit_plan, abort_plan, checkpoint_plan, next_of_checkpoint}

abbrev update : Update
update = record { transaction = 7; word = 170; before = 5; after = 6; undo_next = 0 }

write_is : write_plan update ≡ Append (cell_of_update update) ∷ Word (Store 170 6) ∷ []
write_is = refl

commit_is : commit_plan (record { transaction = 7; deletions = 176 ∷ [] }) ≡ Append (cell_of_end 7 Committed) ∷ []
commit_is = refl

abort_is : abort_plan (record { transaction = 7; updates = cell_of_update update ∷ [] }) ≡
    Append (cell_of_rollback 7) ∷ Append (cell_of_compensation (cell_of_update update)) ∷ Word (Store 170 5) ∷ Append (cell_of_end 7 RolledBack) ∷ []
abort_is = refl

checkpoint_is : (checkpoint_plan [] ≡ Fence ∷ Append cell_of_checkpoint ∷ Clear ∷ [])
    × (checkpoint_plan (176 ∷ []) ≡ Fence ∷ Append cell_of_checkpoint ∷ Word (PStore 176 0) ∷ Fence ∷ Clear ∷ [])
checkpoint_is = (refl, refl)

-- while a word is dirty it is written back, whatever the number; then the parts behind the sweep come
next_is : (next_of_checkpoint (record { dirty = Some 170; stage = 0; deletions = [] }) 3 ≡ Some (Word (WriteBack 170)))
    × (next_of_checkpoint (record { dirty = None; stage = 0; deletions = [] }) 0 ≡ Some Fence)
    × (next_of_checkpoint (record { dirty = Some 170; stage = 1; deletions = [] }) 1 ≡ Some (Append cell_of_checkpoint))
    × (next_of_checkpoint (record { dirty = None; stage = 1; deletions = [] }) 3 ≡ None)
next_is = (refl, refl, refl, refl)
