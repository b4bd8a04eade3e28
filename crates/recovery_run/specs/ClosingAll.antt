-- The closing of all records.
use Rattle.std.specs.Prelude.{ℕ, List}
use Rattle.persist_model.specs.Records.{HasNo, IsLoser}
use Rattle.persist_model.specs.Standing.{IsToRedo}
use Rattle.persist_model.specs.Shape.{Shape}
use Rattle.persist_model.specs.State.{State}
use Rattle.log_laws.specs.Recovery.{AreApplied}
use Rattle.recovery_run.specs.Groups.{ListsAll}

-- No transaction runs, each word has its standing value, nothing is to be redone, and the lists have the gates of all records.
pub record CanCloseAll (shape : Shape) (y : State) (gates ends checkpoints : List ℕ) : Type 0 where
  pub lists : ListsAll y.log gates ends checkpoints
  pub over : (t : ℕ) → IsLoser y.log t → ⊥
  pub applied : AreApplied shape.policy y.log y.words
  pub redone : (a : ℕ) → HasNo (IsToRedo shape.policy y.log a) y.log
