-- A removal of a checkpoint's clearing begins.
use Rattle.std.proofs.Common.{◌≡◌, ℕ, ◌<◌, ◌==◌, if◌then◌else◌, refl, sym, ◌∙◌, subst}
use Rattle.log_keeper.specs.Keeper.{begun_in}
use Rattle.log_keeper.specs.Logged.{begun}
use Rattle.log_keeper.proofs.Progressing.{by_part}
use Rattle.log_keeper.proofs.EventsPass.{parts_begin as parts_begin_logged}
use Rattle.log_keeper.proofs.Orders.{orders_keep}
use Rattle.log_keeper.proofs.Runs.{runs_keep}
use Rattle.history_laws.specs.Histories.{fold}
use Rattle.history_laws.specs.UnderWay.{drops, run_of}
use Rattle.txn_laws.specs.Asks.{begun_part}
use Rattle.redo_laws.specs.Checkpoints.{zeroed}
use Rattle.redo_laws.specs.Stages.{IsIdle, IsAtStage}
use Rattle.redo_laws.specs.Clears.{ClearingsRemove}
use Rattle.redo_laws.proofs.Beside.{stage_is}
use Rattle.redo_laws.proofs.LaneStages.{idle_fits}

pub clearings_remove : ClearingsRemove
clearings_remove shape base s chains start z region l p r made is may world = record {
  no_force = world.no_force;
  log = record {
    of_shape = world.log.of_shape;
    header = world.log.header;
    logged = parts_begin_logged shape base s chains z.world.keeping region p (z.world.keeping.holder p) (run_of (drops r made)).part z.world.keeping.ledger may.inside may.free may.can refl world.log.logged;
    sound = world.log.sound;
    ordered = orders_keep.stays z.world.next z.world.keeping (begun_in p (run_of (drops r made)).part z.world.keeping.ledger z.world.keeping) refl world.log.ordered;
    fits = runs_keep.begins shape p (run_of (drops r made)).part z.world.keeping may.inside may.free may.no_append world.log.fits;
    numbers = world.log.numbers;
  };
  spare = world.spare;
  owners = world.owners;
  transactions = world.transactions;
  heap = world.heap;
  stands = world.stands;
  stage = subst (λ c. IsAtStage shape s (fold start z.world.history) (begun_part p (drops r made) z.world) z.dirty c region) (sym is) (
      let stage = stage_is shape s (fold start z.world.history) z.world z.dirty region z.checkpoint (zeroed l) is world.stage in record {
        told = stage.told;
        skipped = stage.skipped;
        zero = stage.zero;
        held = record { holder = λ q lt. holder_same q ∙ stage.held.holder q lt; landed = stage.held.landed };
        parts = λ q lt. record {
          run = by_part (λ n t. n < shape.partitions → (if t then begun (run_of (drops r made)).part else z.world.keeping.runs n) ≡ run_of (if t then drops r made else z.world.under n)) p q
              (λ k. run_is) (λ ne k. (stage.parts q k).run) lt;
          fits = idle_fits shape s (fold start z.world.history) q _ _ (idle_there stage.idle q lt);
        };
        idle = idle_there stage.idle;
      });
}
  where
    run_is : begun (run_of (drops r made)).part ≡ run_of (drops r made)
    run_is = λ i. record { part = (run_of (drops r made)).part; made = sym may.none_made i }

    holder_same : (n : ℕ) → (if n == p then z.world.keeping.holder p else z.world.keeping.holder n) ≡ z.world.keeping.holder n
    holder_same n = by_part (λ k t. (if t then z.world.keeping.holder p else z.world.keeping.holder k) ≡ z.world.keeping.holder k) p n refl (λ ne. refl)

    idle_there : ((q : ℕ) → q < shape.partitions → IsIdle (z.world.under q)) → (q : ℕ) → q < shape.partitions → IsIdle (if q == p then drops r made else z.world.under q)
    idle_there idle q lt = by_part (λ n t. n < shape.partitions → IsIdle (if t then drops r made else z.world.under n)) p q (λ k. tt) (λ ne k. idle q k) lt
