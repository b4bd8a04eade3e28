-- What the parts of recovery that change lists of buckets do.
use Rattle.std.specs.Prelude.{◌≡◌, ℕ, ◌<◌, []}
use Rattle.persist_model.specs.Region.{Region}
use Rattle.persist_model.specs.Shape.{Shape}
use Rattle.persist_model.specs.State.{State}
use Rattle.recovery_run.specs.Reached.{newest_at, HasSettled, IsQuiet, HasFewBuckets}

-- recovery has come to some state, with nothing pending
pub record IsAtState (shape : Shape) (region : Region) : Type 0 where
  pub first : State
  pub state : State
  pub settled : HasSettled shape first state region

-- and no record is left, and the partition's list needs no repair
pub record IsAtEmptyLog (shape : Shape) (p : ℕ) (region : Region) : Type 0 where
  pub at : IsAtState shape region
  pub empty : at.state.log ≡ []
  pub quiet : IsQuiet p (newest_at region)

-- partitions that need no repair still need none, and those of at most one bucket still are
pub record KeepsLists (shape : Shape) (before later : Region) : Type 0 where
  pub quiet : (q : ℕ) → q < shape.partitions → IsQuiet q (newest_at before) → IsQuiet q (newest_at later)
  pub few : (q : ℕ) → q < shape.partitions → HasFewBuckets shape q (newest_at before) → HasFewBuckets shape q (newest_at later)

-- recovery has come from y to a state without records, with the same heap words
pub record HasDropped (shape : Shape) (first y : State) (region : Region) : Type 0 where
  pub state : State
  pub settled : HasSettled shape first state region
  pub empty : state.log ≡ []
  pub words : state.words ≡ y.words
