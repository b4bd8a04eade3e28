-- The kinds of records and the outcomes of ends, by the numbers that a cell holds.
use Rattle.std.specs.Prelude.{ℕ, ◌==◌, Option, Some, None, if◌then◌else◌}
use Rattle.persist_model.specs.declared.kinds.RecordKind.{RecordKind}
use Rattle.persist_model.specs.declared.kinds.RecordKind.TheVariants.{Update, Compensation, Rollback, End, Checkpoint, Deletion}
use Rattle.persist_model.specs.declared.kinds.Outcome.{Outcome}
use Rattle.persist_model.specs.declared.kinds.Outcome.TheVariants.{Committed, RolledBack}

abbrev pub UPDATE : ℕ
UPDATE = 1

abbrev pub COMPENSATION : ℕ
COMPENSATION = 2

abbrev pub ROLLBACK : ℕ
ROLLBACK = 3

abbrev pub END : ℕ
END = 4

abbrev pub CHECKPOINT : ℕ
CHECKPOINT = 5

abbrev pub DELETION : ℕ
DELETION = 6

-- what the cell of a record that is no end has in an outcome's place
abbrev pub NO_OUTCOME : ℕ
NO_OUTCOME = 0

abbrev pub COMMITTED : ℕ
COMMITTED = 1

abbrev pub ROLLED_BACK : ℕ
ROLLED_BACK = 2

abbrev pub kind_number : RecordKind → ℕ
kind_number Update = UPDATE
kind_number Compensation = COMPENSATION
kind_number Rollback = ROLLBACK
kind_number End = END
kind_number Checkpoint = CHECKPOINT
kind_number Deletion = DELETION

-- what a cell's number of a kind says: one reading of every number
abbrev pub kind_of : ℕ → Option RecordKind
kind_of n =
    if n == UPDATE then Some Update else
    (if n == COMPENSATION then Some Compensation else
    (if n == ROLLBACK then Some Rollback else
    (if n == END then Some End else
    (if n == CHECKPOINT then Some Checkpoint else
    (if n == DELETION then Some Deletion else None)))))

abbrev pub outcome_number : Outcome → ℕ
outcome_number Committed = COMMITTED
outcome_number RolledBack = ROLLED_BACK

-- what an end's number of an outcome says
abbrev pub outcome_of : ℕ → Option Outcome
outcome_of n = if n == COMMITTED then Some Committed else (if n == ROLLED_BACK then Some RolledBack else None)
