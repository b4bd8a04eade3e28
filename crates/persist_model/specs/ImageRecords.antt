-- The records of an image: the open cells of the buckets of all chains.
use Rattle.std.specs.Prelude.{◌≡◌, ◌≢◌, ◌⊎◌, ◌↔◌, ℕ, ◌+◌, ◌*◌, ◌<◌, ◌≤◌, List}
use Rattle.persist_model.specs.Region.{Words}
use Rattle.persist_model.specs.Kinds.{CHECKPOINT, COMMITTED, END, NO_OUTCOME, ROLLED_BACK}
use Rattle.persist_model.specs.Records.{Record, Log, IsAmong, IsNewestFirst, IsEnd, IsCheckpoint, IsDeletion, IsChange}
use Rattle.persist_model.specs.Shape.{Shape, IsHeapWord, IsRootOwner, IsPlainOwner}

abbrev pub cell_address : ℕ → ℕ → ℕ
cell_address b c = b + 8 + 8 * c

-- the cell at this address
abbrev pub record_at : Words → ℕ → Record
record_at w at = record {
  at = at;
  lsn = w at;
  transaction = w (at + 1);
  kind = w (at + 2);
  word = w (at + 3);
  before = w (at + 4);
  after = w (at + 5);
  undo_next = w (at + 6);
  outcome = w (at + 7);
}

-- r is an open cell of a bucket of the chain
pub record IsRecordOf (cells : ℕ) (chain : List ℕ) (w : Words) (r : Record) : Type 0 where
  pub bucket : ℕ
  pub is_among : IsAmong chain bucket
  pub place : ℕ
  pub below : place < cells
  pub is : r ≡ record_at w (cell_address bucket place)
  pub gate : r.lsn ≢ 0

-- The log is the records of the chains, each once, newest first.
pub record AreRecords (shape : Shape) (chains : ℕ → List ℕ) (w : Words) (log : Log) : Type 0 where
  pub newest_first : IsNewestFirst log
  pub each : (r : Record) → IsAmong log r ↔ (p : ℕ) × (p < shape.partitions) × IsRecordOf shape.cells (chains p) w r

-- ---- the record rule

pub record IsWellFormed (shape : Shape) (r : Record) : Type 0 where
  pub kind : (1 ≤ r.kind) × (r.kind ≤ 6)
  pub transaction : (IsCheckpoint r × (r.transaction ≡ 0)) ⊎ ((r.kind ≢ CHECKPOINT) × (1 ≤ r.transaction))
  pub change : IsChange r → IsHeapWord shape r.word × (IsRootOwner shape r.word → ⊥)
  pub deletion : IsDeletion r → IsPlainOwner shape r.word
  pub outcome : (IsEnd r × ((r.outcome ≡ COMMITTED) ⊎ (r.outcome ≡ ROLLED_BACK))) ⊎ ((r.kind ≢ END) × (r.outcome ≡ NO_OUTCOME))

abbrev pub AreWellFormed : Shape → Log → Type 0
AreWellFormed shape log = (r : Record) → IsAmong log r → IsWellFormed shape r
