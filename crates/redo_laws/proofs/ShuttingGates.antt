-- The store of a gate in a group of a checkpoint's closing.
use Rattle.std.proofs.Common.{◌≡◌, ℕ, zero, suc, ◌+◌, ◌*◌, ◌<◌, ◌≤◌, Bool, if◌then◌else◌, Some, List, [], ◌∷◌, ◌++◌, length, slice_get, refl, ap, ◌∙◌, subst, arith}
use Rattle.std.proofs.lemmas.List.{append-nil}
use Rattle.std.proofs.lemmas.Option.{slice_get_within}
use Rattle.persist_model.specs.declared.event.Event.{Event}
use Rattle.persist_model.specs.declared.event.Event.TheVariants.{PStore, Fence}
use Rattle.persist_model.specs.Region.{Words, Region, after}
use Rattle.persist_model.specs.Progress.{Tracks}
use Rattle.persist_model.specs.Runs.{progress_at}
use Rattle.persist_model.specs.Records.{Has}
use Rattle.persist_model.specs.Standing.{IsToDelete}
use Rattle.persist_model.specs.Shape.{Shape, heap, IsHeapWord, IsPlainOwner}
use Rattle.persist_model.specs.State.{State, IsSoundState}
use Rattle.persist_model.proofs.Running.{Tracks-makes}
use Rattle.persist_model.proofs.Tracking.{Tracks-aside}
use Rattle.bucket_log.specs.Words.{IsPartWord}
use Rattle.bucket_log.proofs.Partitions.{part_words_apart, part_word_below}
use Rattle.log_clearing.specs.Plans.{closes, group, closing_plan}
use Rattle.log_keeper.specs.Parts.{Running, plan_of, waits_for, CanRun}
use Rattle.log_keeper.specs.Logged.{Keeping, one_more, advanced, waiting, plan_in, IsNone's, IsLoggedAt}
use Rattle.log_keeper.proofs.Orders.{orders_keep}
use Rattle.log_keeper.proofs.Progressing.{by_part, settled_aside, on_event, part_on, waits_is}
use Rattle.history_laws.specs.Histories.{fold}
use Rattle.txn_laws.proofs.LogEvents.{LeavesHeap, leaves_heap}
use Rattle.redo_laws.specs.Checkpoints.{Kind, of_others, of_ends, of_checkpoints, other_gates, end_gates, checkpoint_gates, Group, shuts, shutting_part, shutting_run}
use Rattle.redo_laws.specs.Stages.{IsShutting}
use Rattle.redo_laws.specs.Worlds.{RedoWorld, IsRedoWorldAt}
use Rattle.redo_laws.specs.Clears.{one_made, GatesAreShut}
use Rattle.redo_laws.proofs.Beside.{beside, stage_is}
use Rattle.redo_laws.proofs.Clearing.{fits_closing, no_append_shuts}
use Rattle.redo_laws.proofs.Telling.{log_stores_none, told_beside}

-- a word that a committed deletion names is one of the heap
pub deleted_inside : (shape : Shape) (s : State) → IsSoundState shape s → (a : ℕ) → Has (IsToDelete s.log a) s.log → IsHeapWord shape a
deleted_inside shape s sound a d = subst (IsHeapWord shape) d.2.1 (owner_inside d.0.word ((sound.formed d.0 d.1).deletion d.2.0))
  where
    owner_inside : (b : ℕ) → IsPlainOwner shape b → IsHeapWord shape b
    owner_inside b k = let e : b ≡ heap shape + 16 * k.0 = k.3 in let lt : k.0 < shape.blocks = k.2 in (omega (arith, e), omega (arith, e, lt))

-- ---- a durable store of a part

-- A part's next event is a durable store. Other parts of the lane that makes it may be under way, since only its fences would touch them.
pub stores_go_on : (shape : Shape) (base : Words) (s : State) (chains : ℕ → List ℕ) (k : Keeping) (region : Region) (p a v : ℕ) → p < shape.partitions → IsPartWord shape p a →
    slice_get (plan_in shape k p) (k.runs p).made ≡ Some (PStore a v) → IsLoggedAt shape base s chains k region →
    IsLoggedAt shape base s chains (advanced p k) (after region (k.holder p) (PStore a v))
stores_go_on shape base s chains k region p a v inside on found h = record {
  size = h.size;
  allowed = h.allowed;
  has = h.has;
  records = h.records;
  rest = h.rest;
  header = settled_aside (IsNone's shape) (k.holder p) base region (PStore a v) (λ none. none.1 p inside on) h.header;
  parts = λ q lt. by_part (λ n t. n < shape.partitions → Tracks (IsPartWord shape n) (waits_for (run n t).part (k.holder n)) (progress_at base (plan_of shape n (run n t).part) (run n t).made) later) p q
      (λ lt. own)
      (λ ne lt. Tracks-aside (IsPartWord shape q) (waiting k q) (k.holder p) _ region (PStore a v) (λ m. part_words_apart shape p q a h.allowed inside lt ne m on) (h.parts q lt)) lt;
  can = λ q lt. by_part (λ n t. n < shape.partitions → CanRun shape n base s (chains n) (run n t).part) p q (λ lt. h.can p lt) (λ ne lt. h.can q lt) lt;
}
  where
    run : ℕ → Bool → Running
    run n t = if t then one_more (k.runs p) else k.runs n

    later : Region
    later = after region (k.holder p) (PStore a v)

    own : Tracks (IsPartWord shape p) (waiting k p) (progress_at base (plan_in shape k p) (suc (k.runs p).made)) later
    own = subst (λ l. Tracks (IsPartWord shape p) (waiting k p) (progress_at base (plan_in shape k p) (suc (k.runs p).made)) (after region l (PStore a v)))
        (waits_is shape p (k.runs p).part (k.holder p) (k.runs p).made (PStore a v) found)
        (Tracks-makes (IsPartWord shape p) (waiting k p) base (plan_in shape k p) (k.runs p).made (PStore a v) region found tt (h.parts p inside))

-- ---- the events of a group

closes_gate : (gates : List ℕ) (others : List Event) (i a : ℕ) → slice_get gates i ≡ Some a → slice_get (closes gates ++ others) i ≡ Some (PStore a 0)
closes_gate [] others i a found = cc
closes_gate (b ∷ gates) others zero a found = let same : b ≡ a = cc in ap (λ n. Some (PStore n 0)) same
closes_gate (b ∷ gates) others (suc i) a found = closes_gate gates others i a found

group_gate : (gates : List ℕ) (i a : ℕ) → slice_get gates i ≡ Some a → slice_get (group gates) i ≡ Some (PStore a 0)
group_gate [] i a found = cc
group_gate (b ∷ gates) i a found = closes_gate (b ∷ gates) (Fence ∷ []) i a found

-- two of the lists are empty
plan_is : (kind : Kind) (gates : List ℕ) → closing_plan (other_gates kind gates) (end_gates kind gates) (checkpoint_gates kind gates) ≡ group gates
plan_is of_others gates = append-nil (group gates)
plan_is of_ends gates = append-nil (group gates)
plan_is of_checkpoints gates = refl

-- ---- the law

module _ (shape : Shape) (base : Words) (s : State) (chains : ℕ → List ℕ) (start : Words) (z : RedoWorld) (region : Region) (l p a : ℕ) (g : Group) (is : z.checkpoint ≡ shuts l g)
    (inside : p < shape.partitions) (next : slice_get (g.gates p) (g.made p) ≡ Some a) (world : IsRedoWorldAt shape base s chains start z region) where
  abbrev k : Keeping
  k = z.world.keeping

  abbrev later : Region
  later = after region l (PStore a 0)

  stage : IsShutting shape s z.world z.dirty l g region
  stage = stage_is shape s (fold start z.world.history) z.world z.dirty region z.checkpoint (shuts l g) is world.stage

  found : slice_get (plan_in shape k p) (k.runs p).made ≡ Some (PStore a 0)
  found = ap (λ (run : Running). slice_get (plan_of shape p run.part) run.made) (stage.run p inside)
      ∙ ap (λ plan. slice_get plan (g.made p)) (plan_is g.kind (g.gates p)) ∙ group_gate (g.gates p) (g.made p) a next

  on : IsPartWord shape p a
  on = on_event shape p (plan_in shape k p) (part_on shape p base s (chains p) (k.runs p).part world.log.logged.allowed inside world.log.logged.has (world.log.logged.can p inside)) (k.runs p).made
      (PStore a 0) found

  below : a < heap shape
  below = part_word_below shape p a world.log.logged.allowed inside on

  leaves : LeavesHeap shape region later
  leaves = leaves_heap shape region l (PStore a 0) below

  logged_there : IsLoggedAt shape base s chains (advanced p k) later
  logged_there = subst (λ lane. IsLoggedAt shape base s chains (advanced p k) (after region lane (PStore a 0))) (stage.held.holder p inside)
      (stores_go_on shape base s chains k region p a 0 inside on found world.log.logged)

  run_there : (q : ℕ) → q < shape.partitions → (advanced p k).runs q ≡ shutting_run (one_made p g) q
  run_there q lt = by_part (λ n t. n < shape.partitions → (if t then one_more (k.runs p) else k.runs n) ≡ record { part = shutting_part g n; made = if t then suc (g.made n) else g.made n }) p q
      (λ inner. ap one_more (stage.run p inner)) (λ ne inner. stage.run q inner) lt

  gate_in : g.made p < length (g.gates p)
  gate_in = slice_get_within (g.gates p) (g.made p) a next

  shut_there : IsShutting shape s (record z.world { keeping = advanced p k }) z.dirty l (one_made p g) later
  shut_there = record {
    told = told_beside shape z.dirty region l (PStore a 0) (λ b m. log_stores_none shape b (PStore a 0) m below) stage.told;
    skipped = stage.skipped;
    zero = λ b u d may_be. stage.zero b u d (leaves.fewer b u (deleted_inside shape s world.log.sound b d) may_be);
    held = record { holder = stage.held.holder; landed = stage.held.landed };
    run = run_there;
    under = stage.under;
    unfenced = λ q lt. by_part (λ n t. n < shape.partitions → (if t then suc (g.made n) else g.made n) ≤ length (g.gates n)) p q (λ inner. omega (arith, gate_in)) (λ ne inner. stage.unfenced q inner) lt;
    group = stage.group;
  }

pub gates_are_shut : GatesAreShut
gates_are_shut shape base s chains start z region l p a g is inside next world =
    let stage = stage_is shape s (fold start z.world.history) z.world z.dirty region z.checkpoint (shuts l g) is world.stage in
    let there = run_there shape base s chains start z region l p a g is inside next world in
    beside shape base s chains start z region (after region l (PStore a 0)) (advanced p z.world.keeping) z.world.next z.dirty (shuts l (one_made p g)) (record {
      of_shape = world.log.of_shape;
      header = world.log.header;
      logged = logged_there shape base s chains start z region l p a g is inside next world;
      sound = world.log.sound;
      ordered = orders_keep.stays z.world.next z.world.keeping (advanced p z.world.keeping) refl world.log.ordered;
      fits = fits_closing shape z.world.keeping (advanced p z.world.keeping) (λ n m. m) (λ q lt place r e. no_append_shuts (z.world.keeping.runs q) g q place r (stage.run q lt) e)
          (λ q lt place r e. no_append_shuts ((advanced p z.world.keeping).runs q) (one_made p g) q place r (there q lt) e) world.log.fits;
      numbers = world.log.numbers;
    }) (leaves shape base s chains start z region l p a g is inside next world) (shut_there shape base s chains start z region l p a g is inside next world) world
