-- A checkpoint begins, sweeps and makes its fence.
use Rattle.std.proofs.Common.{◌≡◌, ◌≢◌, ◌⊎◌, inl, inr, ℕ, ◌+◌, ◌<◌, ◌==◌, ◌&&◌, not, nat_lt, Bool, true, false, List, refl, sym, ap, ◌∙◌, arith}
use Rattle.std.proofs.lemmas.Bool.{cases_lt}
use Rattle.std.proofs.lemmas.Bool.Decides.{eqb_tells, nat_tests}
use Rattle.persist_model.specs.declared.event.Event.TheVariants.{WriteBack, Fence}
use Rattle.persist_model.specs.Region.{Words, Region, newest, after}
use Rattle.persist_model.specs.Shape.{Shape, heap}
use Rattle.persist_model.specs.State.{State}
use Rattle.persist_model.proofs.Candidates.{IsCandidate_newest}
use Rattle.noforce_policy.proofs.Sweeps.{sweeps_tell}
use Rattle.log_keeper.specs.Parts.{Running}
use Rattle.log_keeper.specs.Keeper.{all_latched}
use Rattle.log_keeper.specs.Logged.{Keeping, resting}
use Rattle.log_keeper.proofs.EventsPass.{events_pass, heap_events_pass}
use Rattle.log_keeper.proofs.Made.{all_latches_pass}
use Rattle.log_keeper.proofs.Orders.{orders_keep}
use Rattle.log_keeper.proofs.Runs.{runs_keep}
use Rattle.history_laws.specs.Histories.{fold}
use Rattle.txn_laws.specs.Worlds.{IsLogOf}
use Rattle.txn_laws.proofs.LogEvents.{leaves_heap}
use Rattle.redo_laws.specs.Checkpoints.{none, sweeps, swept}
use Rattle.redo_laws.specs.Sweeps.{clean_at, SweepsBegin, SweepsPass, WordsAreWrittenBack, SweepsAreFenced}
use Rattle.redo_laws.proofs.Beside.{leaves_itself, leaves_written, beside, fence_log, stage_is}

pub latched_log : (shape : Shape) (base : Words) (s : State) (chains : ℕ → List ℕ) (k : Keeping) (next : ℕ) (region : Region) (l : ℕ) →
    ((p : ℕ) → p < shape.partitions → k.runs p ≡ resting) → IsLogOf shape base s chains k next region → IsLogOf shape base s chains (all_latched l shape.partitions k) next region
latched_log shape base s chains k next region l run log = record {
  of_shape = log.of_shape;
  header = log.header;
  logged = all_latches_pass shape base s chains k region l shape.partitions (λ p lt. ap (λ (r : Running). r.part) (run p lt)) log.logged;
  sound = log.sound;
  ordered = orders_keep.stays next k (all_latched l shape.partitions k) refl log.ordered;
  fits = runs_keep.stays shape k (all_latched l shape.partitions k) refl refl log.fits;
  numbers = log.numbers;
}

latched_holder : (l n p : ℕ) (k : Keeping) → p < n → (all_latched l n k).holder p ≡ l
latched_holder l n p k lt = let on : nat_lt p n ≡ true = grind (arith, nat_tests, lt) in rw on refl

pub sweeps_begin : SweepsBegin
sweeps_begin shape base s chains start z region l is may world =
    let stage = stage_is shape s (fold start z.world.history) z.world z.dirty region z.checkpoint none is world.stage in
    beside shape base s chains start z region region (all_latched l shape.partitions z.world.keeping) z.world.next z.dirty (sweeps l (heap shape))
    (latched_log shape base s chains z.world.keeping z.world.next region l may.run world.log) (leaves_itself shape region) (record {
      tells = sweeps_tell.begins shape z.dirty l region stage.told;
      swept_to = λ a m lt d. (let le = m.0 in absurd (omega (arith, le, lt)));
      unmarked = stage.unmarked;
      at_rest = record {
        held = record { holder = λ p lt. latched_holder l shape.partitions p z.world.keeping lt; landed = may.landed };
        run = may.run;
        under = may.under;
      };
    }) world

pub sweeps_pass : SweepsPass
sweeps_pass shape base s chains start z region l place later is clean world =
    let stage = stage_is shape s (fold start z.world.history) z.world z.dirty region z.checkpoint (sweeps l place) is world.stage in
    beside shape base s chains start z region region z.world.keeping z.world.next z.dirty (sweeps l later) world.log (leaves_itself shape region) (record {
      tells = stage.tells;
      swept_to = λ a m lt d. elim (cases_lt a place) [
        | inl low ↦ stage.swept_to a m low d
        | inr le ↦ (let off = clean a m le lt in let e = sym off ∙ d in cc)
      ];
      unmarked = stage.unmarked;
      at_rest = stage.at_rest;
    }) world

clean_was : (dirty : ℕ → Bool) (a b : ℕ) → clean_at a dirty b ≡ true → (dirty b ≡ true) × (b ≢ a)
clean_was dirty a b e = by (dirty b) (b == a) refl (eqb_tells b a) e
  where
    by : (s t : Bool) → dirty b ≡ s → ((t ≡ true) × (b ≡ a)) ⊎ ((t ≡ false) × (b ≢ a)) → (s && not t) ≡ true → (dirty b ≡ true) × (b ≢ a)
    by true false is (inl k) e = cc
    by true false is (inr k) e = (is, k.1)
    by true true is told e = cc
    by false t is told e = cc

still_dirty : (dirty : ℕ → Bool) (a b : ℕ) → dirty b ≡ true → (b ≡ a) ⊎ (clean_at a dirty b ≡ true)
still_dirty dirty a b d = elim (eqb_tells b a) [ inl e ↦ inl e.1 | inr ne ↦ inr (rw (d, ne.0) refl) ]

pub words_are_written_back : WordsAreWrittenBack
words_are_written_back shape base s chains start z region l a is inside world =
    let stage = stage_is shape s (fold start z.world.history) z.world z.dirty region z.checkpoint (sweeps l a) is world.stage in
    beside shape base s chains start z region (after region l (WriteBack a)) z.world.keeping z.world.next (clean_at a z.dirty) (sweeps l (a + 1))
    (record {
      of_shape = world.log.of_shape;
      header = world.log.header;
      logged = events_pass shape base s chains z.world.keeping region l (WriteBack a) (heap_events_pass shape z.world.keeping l (WriteBack a) world.log.logged.allowed inside.0) world.log.logged;
      sound = world.log.sound;
      ordered = world.log.ordered;
      fits = world.log.fits;
      numbers = world.log.numbers;
    })
    (leaves_written shape region l a) (record {
      tells = sweeps_tell.writes_back shape z.dirty (clean_at a z.dirty) l a (newest (region.at a)) region (λ b d. still_dirty z.dirty a b d)
          (IsCandidate_newest (region.at a) (world.heap.full a inside)) stage.tells;
      swept_to = λ b m lt d. (let k = clean_was z.dirty a b d in let ne = k.1 in stage.swept_to b m (omega (arith, lt, ne)) k.0);
      unmarked = stage.unmarked;
      at_rest = stage.at_rest;
    }) world

pub sweeps_are_fenced : SweepsAreFenced
sweeps_are_fenced shape base s chains start z region l place few is all world =
    let stage = stage_is shape s (fold start z.world.history) z.world z.dirty region z.checkpoint (sweeps l place) is world.stage in
    beside shape base s chains start z region (after region l Fence) z.world.keeping z.world.next z.dirty (swept l)
    (fence_log shape base s chains z.world.keeping z.world.next region l few stage.at_rest.run world.log) (leaves_heap shape region l Fence tt) (record {
      told = sweeps_tell.fences shape z.dirty l region stage.tells;
      all_swept = λ a m d. (let lt = m.1 in stage.swept_to a m (omega (arith, lt, all)) d);
      unmarked = stage.unmarked;
      at_rest = stage.at_rest;
    }) world
