-- The cells of records, with closed gates: the number is drawn when the append is made.
use Rattle.std.specs.Prelude.{ℕ}
use Rattle.persist_model.specs.Kinds.{outcome_number, CHECKPOINT, COMPENSATION, END, NO_OUTCOME, ROLLBACK}
use Rattle.persist_model.specs.declared.kinds.Outcome.{Outcome}
use Rattle.region_layout.specs.declared.cell.Cell.{Cell}

-- the word of an update, its values the other way round, and its undo next
abbrev pub cell_of_compensation : Cell → Cell
cell_of_compensation u = record {
  lsn = 0;
  transaction = u.transaction;
  kind = COMPENSATION;
  word = u.word;
  before = u.after;
  after = u.before;
  undo_next = u.undo_next;
  outcome = NO_OUTCOME;
}

-- a record that names no word
abbrev pub plain : ℕ → ℕ → ℕ → Cell
plain transaction kind outcome = record {
  lsn = 0;
  transaction = transaction;
  kind = kind;
  word = 0;
  before = 0;
  after = 0;
  undo_next = 0;
  outcome = outcome;
}

abbrev pub cell_of_rollback : ℕ → Cell
cell_of_rollback transaction = plain transaction ROLLBACK NO_OUTCOME

abbrev pub cell_of_end : ℕ → Outcome → Cell
cell_of_end transaction outcome = plain transaction END (outcome_number outcome)

abbrev pub cell_of_checkpoint : Cell
cell_of_checkpoint = plain 0 CHECKPOINT NO_OUTCOME

-- the cell as it is appended
abbrev pub with_number : ℕ → Cell → Cell
with_number number cell = record cell { lsn = number }
