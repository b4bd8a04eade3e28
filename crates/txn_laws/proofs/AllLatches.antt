-- All latches.
use Rattle.std.proofs.Common.{◌≡◌, inl, inr, ℕ, ◌<◌, false, nat_lt, if◌then◌else◌, List, refl, sym, ap, ◌∙◌, arith}
use Rattle.std.proofs.lemmas.Bool.Decides.{nat_tests}
use Rattle.std.proofs.lemmas.Bool.{cases_lt}
use Rattle.persist_model.specs.Region.{Words, Region}
use Rattle.persist_model.specs.Shape.{Shape}
use Rattle.persist_model.specs.State.{State}
use Rattle.log_keeper.specs.Parts.{rests, Running}
use Rattle.log_keeper.specs.Keeper.{all_latched}
use Rattle.log_keeper.proofs.Orders.{orders_keep}
use Rattle.log_keeper.proofs.Runs.{runs_keep}
use Rattle.log_keeper.proofs.Made.{all_latches_pass}
use Rattle.history_laws.specs.Histories.{fold}
use Rattle.history_laws.specs.UnderWay.{run_of}
use Rattle.txn_laws.specs.Txns.{txn_at}
use Rattle.txn_laws.specs.PartsOf.{IsPartIn}
use Rattle.txn_laws.specs.Worlds.{World, IsWorldAt}
use Rattle.txn_laws.specs.AllLatches.{AllLatchesKeep}
use Rattle.txn_laws.proofs.Lanes.{rests_fits}

module _ (shape : Shape) (base : Words) (s : State) (chains : ℕ → List ℕ) (start : Words) (w : World) (region : Region) (lane n : ℕ)
    (free : (p : ℕ) → p < n → (w.keeping.runs p).part ≡ rests) (world : IsWorldAt shape base s chains start w region) where
  rests_under : (p : ℕ) → p < shape.partitions → (w.keeping.runs p).part ≡ rests → (run_of (w.under p)).part ≡ rests
  rests_under p lt is = sym (ap (λ (x : Running). x.part) (world.parts p lt).run) ∙ is

  parts : (q : ℕ) → q < shape.partitions → IsPartIn shape s (fold start w.history) (all_latched lane n w.keeping) w.lanes q (w.under q)
  parts q lt = record {
    run = (world.parts q lt).run;
    fits = elim (cases_lt q n) [
      | inl low ↦ rests_fits shape s (fold start w.history) q (txn_at w.lanes (if nat_lt q n then lane else w.keeping.holder q)) (w.under q) (rests_under q lt (free q low))
      | inr le ↦ (let off : nat_lt q n ≡ false = grind (arith, nat_tests, le) in rw off (world.parts q lt).fits)
    ];
  }

  latched_all : IsWorldAt shape base s chains start (record w { keeping = all_latched lane n w.keeping }) region
  latched_all = record {
    force = world.force;
    log = record {
      of_shape = world.log.of_shape;
      header = world.log.header;
      logged = all_latches_pass shape base s chains w.keeping region lane n free world.log.logged;
      sound = world.log.sound;
      ordered = orders_keep.stays w.next w.keeping (all_latched lane n w.keeping) refl world.log.ordered;
      fits = runs_keep.stays shape w.keeping (all_latched lane n w.keeping) refl refl world.log.fits;
      numbers = world.log.numbers;
    };
    owners = world.owners;
    transactions = world.transactions;
    heap = world.heap;
    kept = world.kept;
    stands = world.stands;
    parts = parts;
  }

pub all_latches_keep : AllLatchesKeep
all_latches_keep shape base s chains start w region lane n free world = latched_all shape base s chains start w region lane n free world
