-- Where no append and no closing is under way a world makes a moment at each image, whatever a checkpoint has come to.
use Rattle.std.proofs.Common.{◌≡◌, ℕ, ◌<◌, List, sym, ap, subst}
use Rattle.persist_model.specs.Region.{Words, Region, IsCandidate}
use Rattle.persist_model.specs.Records.{Record, IsAmong, IsRunning}
use Rattle.persist_model.specs.Shape.{Shape, heap_words, IsHeapWord}
use Rattle.persist_model.specs.State.{State}
use Rattle.plan_records.proofs.Changes.{heap_word_is}
use Rattle.log_keeper.specs.Parts.{Running, CanRun}
use Rattle.log_keeper.proofs.Ledgers.{in_ledger}
use Rattle.history_laws.specs.Histories.{Entry, fold}
use Rattle.history_laws.specs.UnderWay.{UnderWay, nothing, appends, closes, takes_back, drops, run_of, IsAddedIn}
use Rattle.history_laws.specs.Moments.{IsRunningIn, IsMoment}
use Rattle.txn_laws.specs.Flights.{flight_of}
use Rattle.txn_laws.proofs.Finding.{stands_word}
use Rattle.txn_laws.proofs.Flying.{flight_from}
use Rattle.redo_laws.specs.Stages.{IsIdle}
use Rattle.redo_laws.specs.Worlds.{RedoWorld, IsRedoWorldAt}

pub adds_nothing : (shape : Shape) (p : ℕ) (u : UnderWay) (r : Record) → IsIdle u → IsAddedIn shape p u r → ⊥
adds_nothing shape p nothing r idle k = k
adds_nothing shape p (appends adding made) r idle k = idle
adds_nothing shape p (closes gates ends made) r idle k = idle
adds_nothing shape p (takes_back gates made) r idle k = idle
adds_nothing shape p (drops d made) r idle k = k

idle_runs : (shape : Shape) (base : Words) (s : State) (h : Words) (flight : List Entry) (found : Words) (p : ℕ) (chain : List ℕ) (u : UnderWay) → IsIdle u →
    CanRun shape p base s chain (run_of u).part → IsRunningIn shape base s h flight found p u
idle_runs shape base s h flight found p chain nothing idle can = tt
idle_runs shape base s h flight found p chain (appends adding made) idle can = absurd idle
idle_runs shape base s h flight found p chain (closes gates ends made) idle can = absurd idle
idle_runs shape base s h flight found p chain (takes_back gates made) idle can = absurd idle
idle_runs shape base s h flight found p chain (drops r made) idle can = can

module _ (shape : Shape) (base : Words) (s : State) (chains : ℕ → List ℕ) (start : Words) (z : RedoWorld) (region : Region) (world : IsRedoWorldAt shape base s chains start z region) where
  pub numbered_below : (r : Record) → IsAmong s.log r → r.lsn < z.world.next
  numbered_below r m =
      let n = in_ledger z.world.keeping.ledger r (subst (λ log. IsAmong log r) world.log.logged.records m) in
      subst (λ x. x.lsn < z.world.next) n.2 (world.log.ordered.below n.0 n.1)

  pub flight_runs : (e : Entry) → IsAmong (flight_of z.world.lanes) e → IsRunning s.log e.transaction
  flight_runs e m =
      let k = flight_from z.world.lanes e m in
      subst (IsRunning s.log) (sym (ap (λ (f : Entry). f.transaction) k.1.entry)) ((world.transactions.each k.0).going k.1.flying.over_is).running

  module _ (run : (p : ℕ) → p < shape.partitions → z.world.keeping.runs p ≡ run_of (z.world.under p)) (idle : (p : ℕ) → p < shape.partitions → IsIdle (z.world.under p))
      (i : Words) (image : (a : ℕ) → IsHeapWord shape a → IsCandidate (region.at a) (i a)) where
    pub idle_moment : IsMoment shape base s (fold start z.world.history) (flight_of z.world.lanes) z.world.under (heap_words shape i)
    idle_moment = record {
      allowed = world.log.logged.allowed;
      has = world.log.logged.has;
      sound = world.log.sound;
      runs = λ p lt. idle_runs shape base s (fold start z.world.history) (flight_of z.world.lanes) (heap_words shape i) p (chains p) (z.world.under p) (idle p lt)
          (subst (λ (r : Running). CanRun shape p base s (chains p) r.part) (run p lt) (world.log.logged.can p lt));
      together = λ p q r x lp lq ne a b. absurd (adds_nothing shape p (z.world.under p) r (idle p lp) a);
      in_flight = flight_runs;
      spare = λ two. world.spare;
      top = z.world.next;
      above = numbered_below;
      drawn = λ p r lt a. absurd (adds_nothing shape p (z.world.under p) r (idle p lt) a);
      numbers = world.log.numbers;
      standing = λ a m. (
          stands_word shape.policy s.log (λ b. i a) (heap_words shape i) a (fold start z.world.history a) (sym (heap_word_is shape i a m)) (world.stands a (i a) m (image a m)));
    }
