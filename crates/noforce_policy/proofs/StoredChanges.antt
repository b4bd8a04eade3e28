-- The plans of transactions store the NEW of each change and nothing else.
use Rattle.std.proofs.Common.{List, [], ◌∷◌, ◌++◌}
use Rattle.region_layout.specs.declared.cell.Cell.{Cell}
use Rattle.region_layout.specs.declared.layout.Policy.TheVariants.{NoForce}
use Rattle.plan_records.specs.declared.parts.Part.{Part}
use Rattle.persist_model.specs.declared.kinds.Outcome.TheVariants.{Committed, RolledBack}
use Rattle.plan_records.specs.Cells.{cell_of_update, cell_of_deletion}
use Rattle.region_layout.specs.RecordCells.{cell_of_compensation, cell_of_rollback, cell_of_end}
use Rattle.plan_records.specs.Sequences.{undo_parts}
use Rattle.noforce_policy.specs.Backed.{StoresChanges, nothing, notes, changes}
use Rattle.noforce_policy.specs.BackedLaws.{PlansStoreChanges}

undos : (updates : List Cell) (rest : List Part) → StoresChanges rest → StoresChanges (undo_parts NoForce updates ++ rest)
undos [] rest k = k
undos (u ∷ updates) rest k = changes (cell_of_compensation u) (undos updates rest k)

pub plans_store_changes : PlansStoreChanges
plans_store_changes = record {
  writes = λ u. changes (cell_of_update u) nothing;
  gives = λ g. notes (cell_of_deletion g) (λ e. cc) (λ e. cc) nothing;
  commits = λ c. notes (cell_of_end c.transaction Committed) (λ e. cc) (λ e. cc) nothing;
  aborts = λ u. notes (cell_of_rollback u.transaction) (λ e. cc) (λ e. cc)
      (undos u.updates _ (notes (cell_of_end u.transaction RolledBack) (λ e. cc) (λ e. cc) nothing));
}
