-- A world whose heap keeps its newest values and gains no candidate.
use Rattle.std.proofs.Common.{◌≡◌, ◌≢◌, inl, inr, ℕ, ◌+◌, ◌<◌, Bool, List, length, refl, sym, ap, ◌∙◌, subst, arith}
use Rattle.std.proofs.lemmas.Bool.Decides.{eqb_tells}
use Rattle.persist_model.specs.declared.event.Event.{Event}
use Rattle.persist_model.specs.declared.event.Event.TheVariants.{WriteBack, Fence}
use Rattle.persist_model.specs.declared.event.Candidate.{Candidate}
use Rattle.persist_model.specs.Region.{Words, Region, IsCandidate, after, mark_last}
use Rattle.persist_model.specs.Shape.{Shape, IsShape}
use Rattle.persist_model.specs.State.{State}
use Rattle.persist_model.proofs.Candidates.{IsCandidate_same_values, map-value_of-mark_last, length-mark_last}
use Rattle.persist_model.proofs.Images.{at-with_word, at-with_word_other}
use Rattle.noforce_policy.proofs.Sweeps.{sweeps_settle}
use Rattle.log_keeper.specs.declared.slots.TheConstants.{NOBODY}
use Rattle.log_keeper.specs.Parts.{waits_for, Running}
use Rattle.log_keeper.specs.Making.{made_part}
use Rattle.log_keeper.specs.Logged.{Keeping, resting, plan_in}
use Rattle.log_keeper.specs.Events.{IsNextEvent, region_made}
use Rattle.log_keeper.proofs.EventsPass.{events_pass, fences_pass}
use Rattle.log_keeper.proofs.Progressing.{size_after}
use Rattle.log_keeper.proofs.Made.{events_go_on}
use Rattle.log_keeper.proofs.Orders.{orders_keep}
use Rattle.log_keeper.proofs.Runs.{runs_keep, parts_spare}
use Rattle.history_laws.specs.Histories.{fold}
use Rattle.txn_laws.specs.Worlds.{World, IsLogOf}
use Rattle.txn_laws.proofs.LogEvents.{LeavesHeap}
use Rattle.redo_laws.specs.Checkpoints.{Checkpoint}
use Rattle.redo_laws.specs.Stages.{IsAtStage}
use Rattle.redo_laws.specs.Worlds.{RedoWorld, IsRedoWorldAt}

pub leaves_itself : (shape : Shape) (region : Region) → LeavesHeap shape region region
leaves_itself shape region = record { full = λ a m some. some; newest_is = λ a m. refl; fewer = λ a v m is. is }

pub leaves_written : (shape : Shape) (region : Region) (by b : ℕ) → LeavesHeap shape region (after region by (WriteBack b))
leaves_written shape region by b = record {
  full = λ a m some. elim (eqb_tells a b) [
    | inl e ↦ subst (λ c. 0 < length ((after region by (WriteBack b)).at c)) (sym e.1) (let n = ap (λ (cs : List Candidate). length cs) here ∙ length-mark_last (by + 1) (region.at b) in let k = subst (λ c. 0 < length (region.at c)) e.1 some in omega (arith, n, k))
    | inr ne ↦ subst (λ (cs : List Candidate). 0 < length cs) (sym (there a ne.1)) some
  ];
  newest_is = λ a m. sweeps_settle.same region by a (WriteBack b) tt;
  fewer = λ a v m is. elim (eqb_tells a b) [
    | inl e ↦ subst (λ c. IsCandidate (region.at c) v) (sym e.1)
        (IsCandidate_same_values (mark_last (by + 1) (region.at b)) (region.at b) v (map-value_of-mark_last (by + 1) (region.at b)) (subst (λ (cs : List Candidate). IsCandidate cs v) here (subst (λ c. IsCandidate ((after region by (WriteBack b)).at c) v) e.1 is)))
    | inr ne ↦ subst (λ (cs : List Candidate). IsCandidate cs v) (there a ne.1) is
  ];
}
  where
    here : (after region by (WriteBack b)).at b ≡ mark_last (by + 1) (region.at b)
    here = at-with_word b (mark_last (by + 1)) region

    there : (a : ℕ) → a ≢ b → (after region by (WriteBack b)).at a ≡ region.at a
    there a ne = at-with_word_other b (mark_last (by + 1)) region a ne

-- the log's keeper, the dirty words and the stage are others
pub beside : (shape : Shape) (base : Words) (s : State) (chains : ℕ → List ℕ) (start : Words) (z : RedoWorld) (region later : Region) (k : Keeping) (next : ℕ) (dirty : ℕ → Bool) (c : Checkpoint) →
    IsLogOf shape base s chains k next later → LeavesHeap shape region later →
    IsAtStage shape s (fold start z.world.history) (record z.world { keeping = k; next = next }) dirty c later → IsRedoWorldAt shape base s chains start z region →
    IsRedoWorldAt shape base s chains start (record { world = record z.world { keeping = k; next = next }; dirty = dirty; checkpoint = c }) later
beside shape base s chains start z region later k next dirty c log leaves stage world = record {
  no_force = world.no_force;
  log = log;
  spare = world.spare;
  owners = world.owners;
  transactions = world.transactions;
  heap = record { full = λ a m. leaves.full a m (world.heap.full a m); now = λ a m none. leaves.newest_is a m ∙ world.heap.now a m none };
  stands = λ a u m is. world.stands a u m (leaves.fewer a u m is);
  stage = stage;
}

-- a fence where nothing is under way
pub fence_log : (shape : Shape) (base : Words) (s : State) (chains : ℕ → List ℕ) (k : Keeping) (next : ℕ) (region : Region) (l : ℕ) → l < NOBODY →
    ((p : ℕ) → p < shape.partitions → k.runs p ≡ resting) → IsLogOf shape base s chains k next region → IsLogOf shape base s chains k next (after region l Fence)
fence_log shape base s chains k next region l few run log = record {
  of_shape = log.of_shape;
  header = log.header;
  logged = events_pass shape base s chains k region l Fence (fences_pass shape k l few (λ p lt e. (
      let w = ap (λ (r : Running). waits_for r.part (k.holder p)) (run p lt) in omega (arith, w, e, few)))) log.logged;
  sound = log.sound;
  ordered = log.ordered;
  fits = log.fits;
  numbers = log.numbers;
}

-- an event of a part that isn't its last
pub log_goes_on : (shape : Shape) (base : Words) (s : State) (chains : ℕ → List ℕ) (k : Keeping) (next : ℕ) (region : Region) (p : ℕ) (e : Event) → IsNextEvent shape k p e →
    (k.runs p).made + 1 < length (plan_in shape k p) → IsLogOf shape base s chains k next region → IsLogOf shape base s chains (made_part shape p k) next (region_made k p e region)
log_goes_on shape base s chains k next region p e is more log = record {
  of_shape = log.of_shape;
  header = subst (λ n. IsShape n base) (sym (size_after region (k.holder p) e)) log.header;
  logged = events_go_on shape base s chains k region p e is more log.ordered.newest_first log.fits log.logged;
  sound = log.sound;
  ordered = orders_keep.made shape p next k log.ordered;
  fits = runs_keep.made shape p k is.inside log.ordered.newest_first (parts_spare shape base s chains k region p is.inside log.fits log.logged) log.fits;
  numbers = log.numbers;
}

pub stage_is : (shape : Shape) (s : State) (h : Words) (w : World) (dirty : ℕ → Bool) (region : Region) (c d : Checkpoint) → c ≡ d → IsAtStage shape s h w dirty c region → IsAtStage shape s h w dirty d region
stage_is shape s h w dirty region c d is k = subst (λ e. IsAtStage shape s h w dirty e region) is k
