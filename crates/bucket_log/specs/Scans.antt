-- The records of one chain, as they are read.
use Rattle.std.specs.Prelude.{◌≡◌, ◌⊎◌, ◌↔◌, ℕ, zero, suc, ◌+◌, ◌<◌, ◌≤◌, ◌==◌, if◌then◌else◌, List, [], ◌∷◌, ◌++◌, length, slice_index_or, IsPermutation}
use Rattle.persist_model.specs.Region.{Words}
use Rattle.persist_model.specs.Records.{Record, Log, IsAmong, IsNewestFirst}
use Rattle.persist_model.specs.Shape.{Shape, log_words}
use Rattle.persist_model.specs.Chain.{view}
use Rattle.persist_model.specs.ImageRecords.{cell_address, IsRecordOf}
use Rattle.persist_model.specs.Sound.{IsListOf, HasChain, HasState}
use Rattle.persist_model.specs.State.{State}
use Rattle.region_layout.specs.declared.cell.Cell.{Cell}
use Rattle.region_layout.specs.Cell.{record_of, cell_at}
use Rattle.bucket_log.specs.declared.scanning.Placed.{Placed}

abbrev pub record_of_placed : Placed → Record
record_of_placed placed = record_of placed.at placed.cell

-- the log is the open cells of the chain's buckets, each once, newest first
pub record IsLogIn (cells : ℕ) (w : Words) (chain : List ℕ) (log : Log) : Type 0 where
  pub newest_first : IsNewestFirst log
  pub each : (r : Record) → IsAmong log r ↔ IsRecordOf cells chain w r

abbrev pub placed_at : Words → ℕ → Placed
placed_at w at = record { at = at; cell = cell_at w at }

-- the cell with its address, or nothing where it is closed
abbrev pub open_cell : ℕ → Cell → List Placed
open_cell at cell = if cell.lsn == 0 then [] else record { at = at; cell = cell } ∷ []

-- the open cells among the first n of a bucket, in order
abbrev pub open_cells : Words → ℕ → ℕ → List Placed
open_cells w b zero = []
open_cells w b (suc n) = open_cells w b n ++ open_cell (cell_address b n) (cell_at w (cell_address b n))

-- those of all buckets, in the chain's order
abbrev pub chain_cells : Words → ℕ → List ℕ → List Placed
chain_cells w cells [] = []
chain_cells w cells (b ∷ chain) = open_cells w b cells ++ chain_cells w cells chain

abbrev pub ComesBefore : Placed → Placed → Type 0
ComesBefore x y = (x.cell.lsn < y.cell.lsn) ⊎ ((x.cell.lsn ≡ y.cell.lsn) × (x.at ≤ y.at))

-- the same cells, ascending by gate, then by address
pub record IsSortedOf (found sorted : List Placed) : Type 0 where
  pub same : IsPermutation found sorted
  pub ascending : (k : ℕ) (d : Placed) → k + 1 < length sorted → ComesBefore (slice_index_or sorted k d) (slice_index_or sorted (k + 1) d)

-- ---- the laws

-- the log of a partition's view is that of the words
abbrev pub ViewsHaveLogs : Type 0
ViewsHaveLogs = (shape : Shape) (p : ℕ) (w : Words) (chain : List ℕ) (log : Log) → IsListOf shape p w chain →
    IsLogIn shape.cells (view p w) chain log ↔ IsLogIn shape.cells w chain log

-- of a region with one partition it is the state's log
abbrev pub LogsAreStates : Type 0
LogsAreStates = (shape : Shape) (z : Words) (s : State) (chain : List ℕ) (log : Log) → shape.partitions ≡ 1 → HasState shape z s → HasChain shape z 0 chain →
    IsLogIn shape.cells (log_words shape z) chain log → log ≡ s.log
