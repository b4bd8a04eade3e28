-- The invariant of a world of lanes under force, as plain data.
use Rattle.std.specs.Prelude.{◌≡◌, ◌≢◌, ℕ, ◌+◌, ◌*◌, ◌<◌, ◌≤◌, ◌^◌, List}
use Rattle.persist_model.specs.Region.{Words, Region}
use Rattle.persist_model.specs.Shape.{Shape, shape_of, IsShape}
use Rattle.persist_model.specs.State.{State, IsSoundState}
use Rattle.log_keeper.specs.Logged.{Keeping, IsLoggedAt}
use Rattle.log_keeper.specs.Ordered.{IsOrdered, FitsRuns}
use Rattle.history_laws.specs.Histories.{Entry, fold}
use Rattle.history_laws.specs.UnderWay.{UnderWay}
use Rattle.txn_laws.specs.Txns.{Txn, txn_at, with_txn}
use Rattle.txn_laws.specs.Owners.{AreOwners}
use Rattle.txn_laws.specs.Heaps.{StandsForHeap, IsHeapOf, IsKept}
use Rattle.txn_laws.specs.AreTransactions.{AreTransactions}
use Rattle.txn_laws.specs.PartsOf.{IsPartIn}

-- The log's keeper with the next number, what is under way in each partition, the lanes' transactions, and the history.
pub record World : Type 0 where
  pub keeping : Keeping
  pub next : ℕ
  pub under : ℕ → UnderWay
  pub lanes : List Txn
  pub history : List Entry

-- lane l has another transaction
abbrev pub with_lane : ℕ → Txn → World → World
with_lane l x w = record w { lanes = with_txn l x w.lanes }

-- The keeper's region has the settled words base, with the sound state s, and numbers are left for all cells.
pub record IsLogOf (shape : Shape) (base : Words) (s : State) (chains : ℕ → List ℕ) (k : Keeping) (next : ℕ) (region : Region) : Type 0 where
  pub of_shape : shape_of base ≡ shape
  pub header : IsShape region.size base
  pub logged : IsLoggedAt shape base s chains k region
  pub sound : IsSoundState shape s
  pub ordered : IsOrdered k next
  pub fits : FitsRuns shape k
  pub numbers : next + shape.cells * (shape.buckets + shape.partitions) + 1 ≤ 2 ^ 63

-- The history began at the heap `start`. Whatever a stop leaves in the heap stands for the history, by the settled records.
pub record IsWorldAt (shape : Shape) (base : Words) (s : State) (chains : ℕ → List ℕ) (start : Words) (w : World) (region : Region) : Type 0 where
  pub force : shape.policy ≢ 2
  pub log : IsLogOf shape base s chains w.keeping w.next region
  pub owners : AreOwners shape w.lanes
  pub transactions : AreTransactions shape s.log (fold start w.history) w.lanes
  pub heap : IsHeapOf shape s.log (fold start w.history) w.lanes region
  pub kept : (l : ℕ) → IsKept l (txn_at w.lanes l) region
  pub stands : StandsForHeap shape s.log (fold start w.history) region
  pub parts : (p : ℕ) → p < shape.partitions → IsPartIn shape s (fold start w.history) w.keeping w.lanes p (w.under p)
