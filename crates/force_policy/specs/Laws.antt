-- The laws of the plans under force: wherever a lane has come in one, its next part may begin.
use Rattle.std.specs.Prelude.{ℕ}
use Rattle.persist_model.specs.Records.{IsRunning}
use Rattle.persist_model.specs.Shape.{Shape}
use Rattle.persist_model.specs.State.{State}
use Rattle.plan_records.specs.declared.parts.Update.{Update}
use Rattle.plan_records.specs.declared.parts.Giving.{Giving}
use Rattle.plan_records.specs.declared.parts.Closing.{Closing}
use Rattle.plan_records.specs.declared.parts.Undoing.{Undoing}
use Rattle.plan_records.specs.Courses.{GoesOn, CanCommit, CanAbort}
use Rattle.force_policy.specs.Plans.{write_plan, give_plan, commit_plan, abort_plan}

-- of a running transaction
abbrev pub WritesGoOn : Type 0
WritesGoOn = (shape : Shape) (p : ℕ) (s : State) (u : Update) → IsRunning s.log u.transaction → GoesOn shape p u.transaction s (write_plan u)

abbrev pub GivesGoOn : Type 0
GivesGoOn = (shape : Shape) (p : ℕ) (s : State) (g : Giving) → GoesOn shape p g.transaction s (give_plan g)

-- of a running transaction with a record, which gave back these blocks
abbrev pub CommitsGoOn : Type 0
CommitsGoOn = (shape : Shape) (p : ℕ) (s : State) (c : Closing) → CanCommit shape p c.transaction s.log c.deletions → GoesOn shape p c.transaction s (commit_plan c)

-- of a running transaction with a record and no rollback record, whose updates that no compensation names are these, newest first
abbrev pub AbortsGoOn : Type 0
AbortsGoOn = (shape : Shape) (p : ℕ) (s : State) (u : Undoing) → CanAbort shape p u.transaction s.log u.updates → GoesOn shape p u.transaction s (abort_plan u)
