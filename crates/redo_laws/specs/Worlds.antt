-- The invariant of a world of lanes under no-force, as plain data.
use Rattle.std.specs.Prelude.{◌≡◌, ℕ, ◌+◌, ◌<◌, ◌≤◌, Bool, List, length}
use Rattle.persist_model.specs.Region.{Words, Region, newest}
use Rattle.persist_model.specs.Records.{Log, HasNo}
use Rattle.persist_model.specs.Standing.{IsToDelete}
use Rattle.persist_model.specs.Need.{need_in}
use Rattle.persist_model.specs.Shape.{Shape, part_of, IsHeapWord}
use Rattle.persist_model.specs.State.{State}
use Rattle.history_laws.specs.Histories.{fold}
use Rattle.txn_laws.specs.Txns.{Txn}
use Rattle.txn_laws.specs.Owners.{AreOwners}
use Rattle.txn_laws.specs.Heaps.{StandsForHeap, now_of}
use Rattle.txn_laws.specs.Worlds.{World, IsLogOf}
use Rattle.redo_laws.specs.Checkpoints.{Checkpoint}
use Rattle.redo_laws.specs.Transactions.{AreRedoTransactions}
use Rattle.redo_laws.specs.Stages.{IsAtStage}

-- A world of lanes, with the heap words that are dirty, from a plain store to the next write back of a checkpoint, and where a checkpoint has come.
-- Nothing that a lane stores to its own words waits for a fence.
pub record RedoWorld : Type 0 where
  pub world : World
  pub dirty : ℕ → Bool
  pub checkpoint : Checkpoint

-- the lanes' part is another
abbrev pub with_world : World → RedoWorld → RedoWorld
with_world w z = record z { world = w }

-- A read finds what the lanes wrote, but in a word that a committed deletion names.
pub record IsRedoHeap (shape : Shape) (log : Log) (h : Words) (lanes : List Txn) (region : Region) : Type 0 where
  pub full : (a : ℕ) → IsHeapWord shape a → 0 < length (region.at a)
  pub now : (a : ℕ) → IsHeapWord shape a → HasNo (IsToDelete log a) log → newest (region.at a) ≡ now_of lanes h a

-- in the first partition a cell is left for recovery's checkpoint record
abbrev pub IsSpare : Shape → State → Type 0
IsSpare shape s = need_in (part_of shape) 0 s.log + 1 ≤ s.room 0

-- Each candidate of each heap word stands for the history, whose heap began at `start`, by the settled records.
pub record IsRedoWorldAt (shape : Shape) (base : Words) (s : State) (chains : ℕ → List ℕ) (start : Words) (z : RedoWorld) (region : Region) : Type 0 where
  pub no_force : shape.policy ≡ 2
  pub log : IsLogOf shape base s chains z.world.keeping z.world.next region
  pub spare : IsSpare shape s
  pub owners : AreOwners shape z.world.lanes
  pub transactions : AreRedoTransactions shape s.log (fold start z.world.history) z.world.lanes
  pub heap : IsRedoHeap shape s.log (fold start z.world.history) z.world.lanes region
  pub stands : StandsForHeap shape s.log (fold start z.world.history) region
  pub stage : IsAtStage shape s (fold start z.world.history) z.world z.dirty z.checkpoint region
