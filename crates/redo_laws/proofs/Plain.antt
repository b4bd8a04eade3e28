-- A world where there is no checkpoint.
use Rattle.std.proofs.Common.{◌≡◌, ℕ, ◌<◌, Bool, List, sym, subst}
use Rattle.persist_model.specs.Region.{Words, Region}
use Rattle.persist_model.specs.Shape.{Shape}
use Rattle.persist_model.specs.State.{State}
use Rattle.history_laws.specs.Histories.{fold}
use Rattle.txn_laws.specs.Owners.{AreOwners}
use Rattle.txn_laws.specs.Heaps.{StandsForHeap}
use Rattle.txn_laws.specs.PartsOf.{IsPartIn}
use Rattle.txn_laws.specs.Worlds.{World, IsLogOf}
use Rattle.txn_laws.proofs.Lanes.{IsFound, found_of}
use Rattle.redo_laws.specs.Checkpoints.{Checkpoint, none}
use Rattle.redo_laws.specs.Transactions.{AreRedoTransactions}
use Rattle.redo_laws.specs.Stages.{AreTold, IsUnmarked, IsNoClosing, IsAtNone, IsAtStage}
use Rattle.redo_laws.specs.Worlds.{RedoWorld, IsRedoHeap, IsSpare, IsRedoWorldAt}

pub record IsPlainAt (shape : Shape) (base : Words) (s : State) (chains : ℕ → List ℕ) (start : Words) (w : World) (region : Region) : Type 0 where
  pub no_force : shape.policy ≡ 2
  pub log : IsLogOf shape base s chains w.keeping w.next region
  pub spare : IsSpare shape s
  pub owners : AreOwners shape w.lanes
  pub transactions : AreRedoTransactions shape s.log (fold start w.history) w.lanes
  pub heap : IsRedoHeap shape s.log (fold start w.history) w.lanes region
  pub stands : StandsForHeap shape s.log (fold start w.history) region
  pub unmarked : IsUnmarked s.log
  pub parts : (p : ℕ) → p < shape.partitions → IsPartIn shape s (fold start w.history) w.keeping w.lanes p (w.under p)
  pub no_closing : (p : ℕ) → p < shape.partitions → IsNoClosing (w.under p)

pub at_none : (shape : Shape) (s : State) (h : Words) (w : World) (dirty : ℕ → Bool) (c : Checkpoint) (region : Region) → c ≡ none → IsAtStage shape s h w dirty c region → IsAtNone shape s h w dirty region
at_none shape s h w dirty c region is stage = subst (λ k. IsAtStage shape s h w dirty k region) is stage

pub plain_of : (shape : Shape) (base : Words) (s : State) (chains : ℕ → List ℕ) (start : Words) (z : RedoWorld) (region : Region) → z.checkpoint ≡ none →
    IsRedoWorldAt shape base s chains start z region → IsPlainAt shape base s chains start z.world region
plain_of shape base s chains start z region is world =
    let stage = at_none shape s (fold start z.world.history) z.world z.dirty z.checkpoint region is world.stage in
    record {
      no_force = world.no_force;
      log = world.log;
      spare = world.spare;
      owners = world.owners;
      transactions = world.transactions;
      heap = world.heap;
      stands = world.stands;
      unmarked = stage.unmarked;
      parts = stage.parts;
      no_closing = stage.no_closing;
    }

pub with_told : (shape : Shape) (base : Words) (s : State) (chains : ℕ → List ℕ) (start : Words) (z : RedoWorld) (region : Region) → z.checkpoint ≡ none →
    AreTold shape z.dirty region → IsPlainAt shape base s chains start z.world region → IsRedoWorldAt shape base s chains start z region
with_told shape base s chains start z region is told plain = record {
  no_force = plain.no_force;
  log = plain.log;
  spare = plain.spare;
  owners = plain.owners;
  transactions = plain.transactions;
  heap = plain.heap;
  stands = plain.stands;
  stage = subst (λ k. IsAtStage shape s (fold start z.world.history) z.world z.dirty k region) (sym is)
      (record { told = told; unmarked = plain.unmarked; parts = plain.parts; no_closing = plain.no_closing });
}

pub plain_found : (shape : Shape) (base : Words) (s : State) (chains : ℕ → List ℕ) (start : Words) (w : World) (region : Region) → IsPlainAt shape base s chains start w region →
    IsFound shape s.log (fold start w.history) w.lanes region
plain_found shape base s chains start w region plain = found_of shape s.log (fold start w.history) w.lanes region plain.owners plain.heap.now
