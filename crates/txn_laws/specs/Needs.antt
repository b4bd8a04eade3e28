-- The cells that recovery needs in a partition, by lane.
use Rattle.std.specs.Prelude.{◌≡◌, ℕ, ◌+◌, ◌<◌, Bool, not, ◌==◌, ◌&&◌, if◌then◌else◌, List, [], ◌∷◌, length}
use Rattle.persist_model.specs.Region.{Words, Region}
use Rattle.persist_model.specs.Records.{Log}
use Rattle.persist_model.specs.Need.{has_of}
use Rattle.persist_model.specs.Shape.{Shape}
use Rattle.persist_model.specs.State.{State}
use Rattle.log_keeper.specs.Parts.{rests}
use Rattle.log_keeper.specs.Ledger.{newest_log}
use Rattle.log_keeper.specs.Needs.{need_at}
use Rattle.txn_laws.specs.Txns.{Txn}
use Rattle.txn_laws.specs.AreTransactions.{AreTransactions}
use Rattle.txn_laws.specs.Worlds.{World, IsWorldAt}

-- what takes a transaction back and ends it: a cell for each update that stands, one for the rollback record until it is there, and one for the end
abbrev pub undo_cells : Txn → ℕ
undo_cells x = length x.updates + ((if x.rolled then 0 else 1) + 1)

-- its end isn't fenced, and the log has a record of it
abbrev pub is_open : Log → Txn → Bool
is_open log x = not x.over && has_of x.number log

-- what it needs in partition p
abbrev pub need_by : ℕ → Log → Txn → ℕ
need_by p log x = if (x.part == p) && is_open log x then undo_cells x else 0

-- a sum over the lanes
abbrev pub sum_lanes : (Txn → ℕ) → List Txn → ℕ
sum_lanes f [] = 0
sum_lanes f (x ∷ lanes) = f x + sum_lanes f lanes

-- The need of the settled log is the sum of what the lanes' transactions need.
abbrev pub NeedsAreLanes : Type 0
NeedsAreLanes = (shape : Shape) (log : Log) (h : Words) (lanes : List Txn) (p : ℕ) → AreTransactions shape log h lanes →
    need_at shape p log ≡ sum_lanes (need_by p log) lanes

-- Where nothing is under way in a partition the newest log has the same need there: what isn't settled yet is of transactions of other partitions.
abbrev pub NeedsRest : Type 0
NeedsRest = (shape : Shape) (base : Words) (s : State) (chains : ℕ → List ℕ) (start : Words) (w : World) (region : Region) (p : ℕ) → p < shape.partitions →
    (w.keeping.runs p).part ≡ rests → IsWorldAt shape base s chains start w region → need_at shape p (newest_log w.keeping.ledger) ≡ need_at shape p s.log
