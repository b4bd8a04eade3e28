-- The cells of the records that a plan names words for, with closed gates, and the records that cells become.
use Rattle.std.specs.Prelude.{◌≡◌, ℕ}
use Rattle.persist_model.specs.Records.{Record}
use Rattle.persist_model.specs.Kinds.{DELETION, NO_OUTCOME, UPDATE}
use Rattle.region_layout.specs.declared.cell.Cell.{Cell}
use Rattle.region_layout.specs.Cell.{record_of}
use Rattle.region_layout.specs.RecordCells.{with_number}
use Rattle.bucket_log.specs.declared.append.Place.{Place}
use Rattle.plan_records.specs.declared.parts.Update.{Update}
use Rattle.plan_records.specs.declared.parts.Giving.{Giving}
use Rattle.bucket_log.specs.Plans.{place_address}

abbrev pub cell_of_update : Update → Cell
cell_of_update u = record {
  lsn = 0;
  transaction = u.transaction;
  kind = UPDATE;
  word = u.word;
  before = u.before;
  after = u.after;
  undo_next = u.undo_next;
  outcome = NO_OUTCOME;
}

abbrev pub cell_of_deletion : Giving → Cell
cell_of_deletion g = record {
  lsn = 0;
  transaction = g.transaction;
  kind = DELETION;
  word = g.owner_word;
  before = g.owner;
  after = 0;
  undo_next = 0;
  outcome = NO_OUTCOME;
}

-- the record of a cell that is appended at this place with this number
abbrev pub appended : Place → ℕ → Cell → Record
appended place number cell = record_of (place_address place) (with_number number cell)

-- the cell has the fields of this record, whatever its gate
abbrev pub IsCellOf : Cell → Record → Type 0
IsCellOf cell u = record_of u.at (with_number u.lsn cell) ≡ u
