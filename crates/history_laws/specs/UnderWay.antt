-- What is under way in a partition of the log: the keeper's run, and what an append adds.
use Rattle.std.specs.Prelude.{◌≡◌, ◌⊎◌, ℕ, ◌+◌, ◌<◌, List, [], length}
use Rattle.persist_model.specs.Records.{Record, Log, IsAmong}
use Rattle.persist_model.specs.Shape.{Shape, part_of}
use Rattle.atomic_list.specs.declared.plans.Remove.{Remove}
use Rattle.region_layout.specs.declared.cell.Cell.{Cell}
use Rattle.bucket_log.specs.declared.append.Place.{Place}
use Rattle.plan_records.specs.declared.parts.Update.{Update}
use Rattle.plan_records.specs.declared.parts.Giving.{Giving}
use Rattle.bucket_log.specs.Appends.{region_append}
use Rattle.log_clearing.specs.Closed.{IsListed}
use Rattle.log_keeper.specs.Parts.{rests, appends as adds, closes as shuts, takes_back as drops_deletions, drops as takes_out, Running}
use Rattle.persist_model.specs.declared.kinds.Outcome.TheVariants.{Committed, RolledBack}
use Rattle.plan_records.specs.Cells.{cell_of_update, cell_of_deletion, appended}
use Rattle.region_layout.specs.RecordCells.{cell_of_compensation, cell_of_rollback, cell_of_end}

-- the record of a transaction that an append adds; a compensation has the update that it undoes, and a cell with that one's fields
pub data Added : Type 0 where
  an_update : Update → Added
  a_deletion : Giving → Added
  a_rollback : ℕ → Added
  a_compensation : Record → Cell → Added
  an_undone_end : ℕ → Added
  a_commit_end : ℕ → Added

abbrev pub cell_of : Added → Cell
cell_of (an_update u) = cell_of_update u
cell_of (a_deletion g) = cell_of_deletion g
cell_of (a_rollback t) = cell_of_rollback t
cell_of (a_compensation u cell) = cell_of_compensation cell
cell_of (an_undone_end t) = cell_of_end t RolledBack
cell_of (a_commit_end t) = cell_of_end t Committed

-- an append: what is added, where, and with which number
pub record Adding : Type 0 where
  pub place : Place
  pub number : ℕ
  pub added : Added

abbrev pub record_of_adding : Adding → Record
record_of_adding x = appended x.place x.number (cell_of x.added)

-- Nothing, an append, a group of a closing (its gates and ends), the closing of deletions that running transactions take back (their gates), or
-- a removal, with the number of its events that were made.
pub data UnderWay : Type 0 where
  nothing : UnderWay
  appends : Adding → ℕ → UnderWay
  closes : List ℕ → List ℕ → ℕ → UnderWay
  takes_back : List ℕ → ℕ → UnderWay
  drops : Remove → ℕ → UnderWay

-- the run of the log's keeper that it is
abbrev pub run_of : UnderWay → Running
run_of nothing = record { part = rests; made = 0 }
run_of (appends x made) = record { part = adds x.place (record_of_adding x); made = made }
run_of (closes gates ends made) = record { part = shuts gates ends []; made = made }
run_of (takes_back gates made) = record { part = drops_deletions gates; made = made }
run_of (drops r made) = record { part = takes_out r; made = made }

abbrev pub runs_of : (ℕ → UnderWay) → ℕ → Running
runs_of under p = run_of (under p)

-- the gate is stored: all events are made but for the last fence, or that too
abbrev pub IsStored : Shape → ℕ → Adding → ℕ → Type 0
IsStored shape p x made = length (region_append shape p x.place (record_of_adding x)) < made + 2

-- r is the record of an append whose gate is stored
abbrev pub IsAddedIn : Shape → ℕ → UnderWay → Record → Type 0
IsAddedIn shape p nothing r = ⊥
IsAddedIn shape p (appends x made) r = IsStored shape p x made × (r ≡ record_of_adding x)
IsAddedIn shape p (closes gates ends made) r = ⊥
IsAddedIn shape p (takes_back gates made) r = ⊥
IsAddedIn shape p (drops r made) x = ⊥

-- r is to be closed
abbrev pub IsClosedIn : UnderWay → Record → Type 0
IsClosedIn nothing r = ⊥
IsClosedIn (appends x made) r = ⊥
IsClosedIn (closes gates ends made) r = IsListed gates ends [] r
IsClosedIn (takes_back gates made) r = IsAmong gates r.at
IsClosedIn (drops x made) r = ⊥

-- r is under way in the partition: it is added, or it is a settled one that is to be closed
abbrev pub IsUnderWayIn : Shape → Log → ℕ → UnderWay → Record → Type 0
IsUnderWayIn shape log p u r = IsAddedIn shape p u r ⊎ IsAmong log r × IsClosedIn u r × (part_of shape r.at ≡ p)
