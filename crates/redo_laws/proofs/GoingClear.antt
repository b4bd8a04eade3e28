-- An event of a removal of a checkpoint's clearing that isn't its last.
use Rattle.std.proofs.Common.{◌≡◌, ℕ, zero, suc, ◌+◌, ◌<◌, if◌then◌else◌, List, [], ◌∷◌, length, refl, sym, ap, ◌∙◌, subst}
use Rattle.persist_model.specs.declared.event.Event.{Event}
use Rattle.persist_model.specs.Region.{Words, Region}
use Rattle.persist_model.specs.Shape.{Shape}
use Rattle.persist_model.specs.State.{State}
use Rattle.log_keeper.specs.Parts.{Running}
use Rattle.log_keeper.specs.Making.{made_part}
use Rattle.log_keeper.specs.Logged.{Keeping, one_more, plan_in}
use Rattle.log_keeper.specs.Events.{IsNextEvent, region_made}
use Rattle.log_keeper.proofs.Progressing.{by_part}
use Rattle.log_keeper.proofs.Made.{goes_on}
use Rattle.history_laws.specs.Histories.{fold}
use Rattle.history_laws.specs.UnderWay.{UnderWay, nothing, appends, closes, takes_back, drops, run_of}
use Rattle.txn_laws.specs.Txns.{Txn, txn_at, with_txn}
use Rattle.txn_laws.specs.PartsOf.{IsPartIn}
use Rattle.txn_laws.specs.Going.{with_under, further, txn_further}
use Rattle.txn_laws.proofs.LogEvents.{IsLogEvent, LeavesHeap, next_is_log, leaves_heap}
use Rattle.redo_laws.specs.Checkpoints.{zeroed}
use Rattle.redo_laws.specs.Stages.{IsIdle, IsZeroed, IsAtStage}
use Rattle.redo_laws.specs.Worlds.{RedoWorld, IsRedoWorldAt}
use Rattle.redo_laws.specs.Clears.{ClearingsGoOn}
use Rattle.redo_laws.proofs.Owned.{deleted_inside}
use Rattle.redo_laws.proofs.Beside.{log_goes_on, stage_is}
use Rattle.redo_laws.proofs.LaneStages.{idle_fits}
use Rattle.redo_laws.proofs.GoingOn.{further_run, next_runs}
use Rattle.redo_laws.proofs.Telling.{log_stores_none, told_beside}

-- a lane with the transaction that it had
with_itself : (l : ℕ) (lanes : List Txn) → with_txn l (txn_at lanes l) lanes ≡ lanes
with_itself l [] = refl
with_itself zero (x ∷ lanes) = refl
with_itself (suc l) (x ∷ lanes) = ap (λ (later : List Txn). x ∷ later) (with_itself l lanes)

-- an event of a removal changes no transaction
idle_same : (shape : Shape) (p : ℕ) (u : UnderWay) (x : Txn) → IsIdle u → txn_further shape p u x ≡ x
idle_same shape p nothing x idle = refl
idle_same shape p (appends adding made) x idle = absurd idle
idle_same shape p (closes gates ends made) x idle = absurd idle
idle_same shape p (takes_back gates made) x idle = absurd idle
idle_same shape p (drops r made) x idle = refl

idle_further : (u : UnderWay) → IsIdle u → IsIdle (further u)
idle_further nothing idle = tt
idle_further (appends adding made) idle = idle
idle_further (closes gates ends made) idle = idle
idle_further (takes_back gates made) idle = idle
idle_further (drops r made) idle = tt

module _ (shape : Shape) (base : Words) (s : State) (chains : ℕ → List ℕ) (start : Words) (z : RedoWorld) (region : Region) (l p : ℕ) (e : Event) (is : z.checkpoint ≡ zeroed l)
    (next : IsNextEvent shape z.world.keeping p e) (more : (z.world.keeping.runs p).made + 1 < length (plan_in shape z.world.keeping p))
    (world : IsRedoWorldAt shape base s chains start z region) where
  abbrev h : Words
  h = fold start z.world.history

  abbrev later : Region
  later = region_made z.world.keeping p e region

  stage : IsZeroed shape s h z.world z.dirty l region
  stage = stage_is shape s h z.world z.dirty region z.checkpoint (zeroed l) is world.stage

  on : IsLogEvent shape e
  on = next_is_log shape base s chains z.world.keeping region p e next world.log.logged

  leaves : LeavesHeap shape region later
  leaves = leaves_heap shape region (z.world.keeping.holder p) e on

  holder_there : (q : ℕ) → (made_part shape p z.world.keeping).holder q ≡ z.world.keeping.holder q
  holder_there q = ap (λ (k : Keeping). k.holder q) (goes_on shape z.world.keeping p more)

  idle_there : (q : ℕ) → q < shape.partitions → IsIdle (with_under p (further (z.world.under p)) z.world.under q)
  idle_there q lt = by_part (λ n t. n < shape.partitions → IsIdle (if t then further (z.world.under p) else z.world.under n)) p q
      (λ inside. idle_further (z.world.under p) (stage.idle p inside)) (λ ne inside. stage.idle q inside) lt

  part_there : (q : ℕ) → q < shape.partitions → IsPartIn shape s h (made_part shape p z.world.keeping) z.world.lanes q (with_under p (further (z.world.under p)) z.world.under q)
  part_there q lt = record {
    run = ap (λ (k : Keeping). k.runs q) (goes_on shape z.world.keeping p more)
        ∙ by_part (λ n t. n < shape.partitions → (if t then one_more (z.world.keeping.runs p) else z.world.keeping.runs n) ≡ run_of (if t then further (z.world.under p) else z.world.under n)) p q
        (λ inside. ap one_more (stage.parts p inside).run
        ∙ further_run (z.world.under p) (λ rest. next_runs shape z.world.keeping p e next (ap (λ (r : Running). r.part) (stage.parts p inside).run ∙ rest)))
        (λ ne inside. (stage.parts q inside).run) lt;
    fits = idle_fits shape s h q _ _ (idle_there q lt);
  }

  abbrev there : List Txn → RedoWorld
  there lanes = record z { world = record z.world { keeping = made_part shape p z.world.keeping; under = with_under p (further (z.world.under p)) z.world.under; lanes = lanes } }

  goes_there : IsRedoWorldAt shape base s chains start (there z.world.lanes) later
  goes_there = record {
    no_force = world.no_force;
    log = log_goes_on shape base s chains z.world.keeping z.world.next region p e next more world.log;
    spare = world.spare;
    owners = world.owners;
    transactions = world.transactions;
    heap = record { full = λ a m. leaves.full a m (world.heap.full a m); now = λ a m none. leaves.newest_is a m ∙ world.heap.now a m none };
    stands = λ a u m may. world.stands a u m (leaves.fewer a u m may);
    stage = subst (λ c. IsAtStage shape s h (there z.world.lanes).world z.dirty c later) (sym is) (record {
      told = told_beside shape z.dirty region (z.world.keeping.holder p) e (λ a m. log_stores_none shape a e m on) stage.told;
      skipped = stage.skipped;
      zero = λ a u d may. stage.zero a u d (leaves.fewer a u (deleted_inside shape s world.log.sound a d) may);
      held = record { holder = λ q lt. holder_there q ∙ stage.held.holder q lt; landed = stage.held.landed };
      parts = part_there;
      idle = idle_there;
    });
  }

  same_lanes : with_txn (z.world.keeping.holder p) (txn_further shape p (z.world.under p) (txn_at z.world.lanes (z.world.keeping.holder p))) z.world.lanes ≡ z.world.lanes
  same_lanes = ap (λ (x : Txn). with_txn (z.world.keeping.holder p) x z.world.lanes) (idle_same shape p (z.world.under p) (txn_at z.world.lanes (z.world.keeping.holder p)) (stage.idle p next.inside))
      ∙ with_itself (z.world.keeping.holder p) z.world.lanes

  pub clears_on : IsRedoWorldAt shape base s chains start (there (with_txn (z.world.keeping.holder p) (txn_further shape p (z.world.under p) (txn_at z.world.lanes (z.world.keeping.holder p))) z.world.lanes)) later
  clears_on = subst (λ (lanes : List Txn). IsRedoWorldAt shape base s chains start (there lanes) later) (sym same_lanes) goes_there

pub clearings_go_on : ClearingsGoOn
clearings_go_on shape base s chains start z region l p e is next more world = clears_on shape base s chains start z region l p e is next more world
