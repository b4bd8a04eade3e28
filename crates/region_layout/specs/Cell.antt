-- The cell of a record, as eight words.
use Rattle.std.specs.Prelude.{◌≡◌, ℕ, ◌+◌, ◌<◌, ◌==◌, if◌then◌else◌}
use Rattle.persist_model.specs.Region.{Words}
use Rattle.persist_model.specs.Records.{Record}
use Rattle.persist_model.specs.ImageRecords.{record_at}
use Rattle.region_layout.specs.declared.cell.Cell.{Cell}

-- the record of a cell whose gate stands at this address
abbrev pub record_of : ℕ → Cell → Record
record_of at cell = record {
  at = at;
  lsn = cell.lsn;
  transaction = cell.transaction;
  kind = cell.kind;
  word = cell.word;
  before = cell.before;
  after = cell.after;
  undo_next = cell.undo_next;
  outcome = cell.outcome;
}

-- the eight words from this address
abbrev pub cell_at : Words → ℕ → Cell
cell_at w at = record {
  lsn = w at;
  transaction = w (at + 1);
  kind = w (at + 2);
  word = w (at + 3);
  before = w (at + 4);
  after = w (at + 5);
  undo_next = w (at + 6);
  outcome = w (at + 7);
}

-- word i of a cell, for i below 8
abbrev pub word_of_cell : Cell → ℕ → ℕ
word_of_cell cell i =
    if i == 0 then cell.lsn else
    (if i == 1 then cell.transaction else
    (if i == 2 then cell.kind else
    (if i == 3 then cell.word else
    (if i == 4 then cell.before else
    (if i == 5 then cell.after else
    (if i == 6 then cell.undo_next else cell.outcome))))))

-- A cell is its words, and its record is that of the region.
pub record CellsAreRecords : Type 0 where
  pub records : (w : Words) (at : ℕ) → record_of at (cell_at w at) ≡ record_at w at
  pub words : (w : Words) (at i : ℕ) → i < 8 → word_of_cell (cell_at w at) i ≡ w (at + i)
  pub cells : (w : Words) (at : ℕ) (cell : Cell) → ((i : ℕ) → i < 8 → w (at + i) ≡ word_of_cell cell i) → cell_at w at ≡ cell
