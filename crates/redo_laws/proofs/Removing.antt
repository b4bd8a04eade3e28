-- The last event of a removal, and the end of a checkpoint.
use Rattle.std.proofs.Common.{◌≡◌, inl, inr, ℕ, ◌+◌, ◌<◌, ◌≤◌, ◌==◌, if◌then◌else◌, Bool, true, false, List, refl, sym, ap, ◌∙◌, subst, arith}
use Rattle.std.proofs.lemmas.Bool.Decides.{eqb_tells}
use Rattle.persist_model.specs.declared.event.Event.{Event}
use Rattle.persist_model.specs.Region.{Words, Region}
use Rattle.persist_model.specs.Records.{Record}
use Rattle.persist_model.specs.Shape.{Shape, part_of, heap_words, IsShape}
use Rattle.persist_model.specs.State.{State}
use Rattle.log_laws.specs.MoveRoom.{HasCells, HasItsCells}
use Rattle.atomic_list.specs.declared.plans.Remove.{Remove}
use Rattle.bucket_log.proofs.Partitions.{few_parts}
use Rattle.log_clearing.specs.Removals.{with_room, more_room}
use Rattle.log_keeper.specs.declared.slots.TheConstants.{NOBODY}
use Rattle.log_keeper.specs.Parts.{LogPart, rests, appends as adds, closes as shuts_part, drops as takes_out, words_behind, Running, CanRun}
use Rattle.log_keeper.specs.Making.{made_part}
use Rattle.log_keeper.specs.Keeper.{all_latched}
use Rattle.log_keeper.specs.Logged.{Keeping, resting, one_more, with_chain}
use Rattle.log_keeper.specs.Laws.{HasDropped}
use Rattle.log_keeper.specs.Events.{IsLastEvent, region_made}
use Rattle.log_keeper.specs.Ordered.{Spares}
use Rattle.log_keeper.proofs.Progressing.{by_part, size_after, part_on, words_outside}
use Rattle.log_keeper.proofs.Made.{removals_are_made}
use Rattle.log_keeper.proofs.Steps.{last_events_end}
use Rattle.log_keeper.proofs.Orders.{orders_keep}
use Rattle.log_keeper.proofs.Runs.{runs_keep}
use Rattle.history_laws.specs.Histories.{fold}
use Rattle.history_laws.specs.Stands.{IsHeader}
use Rattle.history_laws.specs.UnderWay.{Added, an_update, a_deletion, a_rollback, a_compensation, an_undone_end, a_commit_end, record_of_adding, UnderWay, nothing, appends, closes, takes_back, drops, run_of}
use Rattle.history_laws.proofs.Headers.{header_is_none's, same_shape, is_shape}
use Rattle.log_clearing.proofs.RemovalStates.{room_keeps}
use Rattle.txn_laws.specs.Txns.{Txn, txn_at}
use Rattle.txn_laws.specs.NextRecords.{ComesNext}
use Rattle.txn_laws.specs.PartsOf.{Fits, IsPartIn}
use Rattle.txn_laws.specs.Going.{with_under}
use Rattle.txn_laws.specs.Dropped.{dropped}
use Rattle.txn_laws.proofs.LogEvents.{LeavesHeap, next_is_log, leaves_heap}
use Rattle.redo_laws.specs.Checkpoints.{Checkpoint, none, sweeps, swept, notes, noted, zeroed, shuts}
use Rattle.redo_laws.specs.Stages.{AreTold, IsNoClosing, IsIdle, IsAtStage}
use Rattle.redo_laws.specs.Worlds.{RedoWorld, with_world, IsRedoWorldAt}
use Rattle.redo_laws.specs.Parts.{RemovalsSettle}
use Rattle.redo_laws.specs.Clears.{CheckpointsEnd}
use Rattle.redo_laws.proofs.Beside.{leaves_itself, beside, stage_is}
use Rattle.redo_laws.proofs.Owned.{deleted_inside}
use Rattle.redo_laws.proofs.LaneStages.{idle_fits}
use Rattle.redo_laws.proofs.Sweeping.{latched_log}
use Rattle.redo_laws.proofs.Telling.{log_stores_none, told_beside}

more : (p cells : ℕ) (room : ℕ → ℕ) (q : ℕ) → room q ≤ more_room p cells room q
more p cells room q = by (q == p)
  where
    by : (b : Bool) → room q ≤ (if b then room q + cells else room q)
    by true = omega arith
    by false = omega arith

module _ (shape : Shape) (p : ℕ) (s : State) (words h : Words) (x : Txn) where
  abbrev roomier : State
  roomier = with_room s (more_room p shape.cells s.room) words

  cells_roomier : (r : Record) (n : ℕ) → HasCells shape s r n → HasCells shape roomier r n
  cells_roomier r n cells = record {
    here = (let enough = cells.here in let le = more p shape.cells s.room (part_of shape r.at) in omega (arith, enough, le));
    checkpoint_here = λ two first. (let enough = cells.checkpoint_here two first in let le = more p shape.cells s.room (part_of shape r.at) in omega (arith, enough, le));
    checkpoint_elsewhere = λ two other. (let enough = cells.checkpoint_elsewhere two other in let le = more p shape.cells s.room 0 in omega (arith, enough, le));
  }

  its_roomier : (r : Record) (n : ℕ) → HasItsCells shape s r n → HasItsCells shape roomier r n
  its_roomier r n (inl some) = inl some
  its_roomier r n (inr cells) = inr (cells_roomier r n cells)

  comes_roomier : (r : Record) (added : Added) → ComesNext shape s h x r added → ComesNext shape roomier h x r added
  comes_roomier r (an_update u) n = record { no_root = n.no_root; of_write = n.of_write; point_is = n.point_is; unrolled = n.unrolled; cells = cells_roomier r _ n.cells }
  comes_roomier r (a_deletion g) n = record { plain = n.plain; unrolled = n.unrolled; cells = cells_roomier r _ n.cells }
  comes_roomier r (a_rollback t) n = (n.0, its_roomier r 2 n.1)
  comes_roomier r (a_compensation u cell) n = n
  comes_roomier r (an_undone_end t) n = (n.0, record { commits_is = n.1.commits_is; fenced_is = n.1.fenced_is; stored_is = n.1.stored_is; cells = its_roomier r 1 n.1.cells })
  comes_roomier r (a_commit_end t) n = (n.0, record { commits_is = n.1.commits_is; fenced_is = n.1.fenced_is; stored_is = n.1.stored_is; cells = its_roomier r 1 n.1.cells })

  fits_roomier : (q : ℕ) (u : UnderWay) → Fits shape s h q x u → Fits shape roomier h q x u
  fits_roomier q nothing fits = tt
  fits_roomier q (appends adding made) fits = record {
    number = fits.number;
    of = fits.of;
    here = fits.here;
    runs = fits.runs;
    passes = fits.passes;
    own = fits.own;
    next = comes_roomier (record_of_adding adding) adding.added fits.next;
    ended_is = fits.ended_is;
  }
  fits_roomier q (closes gates ends made) fits = fits
  fits_roomier q (takes_back gates made) fits = fits
  fits_roomier q (drops r made) fits = tt

module _ (shape : Shape) (base : Words) (s : State) (chains : ℕ → List ℕ) (start : Words) (z : RedoWorld) (region : Region) (p : ℕ) (e : Event) (r : Remove)
    (last : IsLastEvent shape z.world.keeping p e (takes_out r)) (world : IsRedoWorldAt shape base s chains start z region) where
  abbrev h : Words
  h = fold start z.world.history

  abbrev behind : Words
  behind = words_behind shape p (takes_out r) base

  abbrev later : Region
  later = region_made z.world.keeping p e region

  abbrev state : State
  state = with_room s (more_room p shape.cells s.room) (heap_words shape (words_behind shape p (takes_out r) base))

  part_in : p < shape.partitions
  part_in = last.event.inside

  made : HasDropped shape behind state chains (made_part shape p z.world.keeping) later p
  made = removals_are_made shape base s chains z.world.keeping region p e r last world.log.logged

  outside : (a : ℕ) → IsHeader a → behind a ≡ base a
  outside a m = words_outside shape p base (takes_out r)
      (part_on shape p base s (chains p) (takes_out r) world.log.logged.allowed part_in world.log.logged.has (subst (CanRun shape p base s (chains p)) last.under_way (world.log.logged.can p part_in))) a
      (λ k. header_is_none's shape p a (few_parts shape p world.log.logged.allowed part_in) m k)

  leaves : LeavesHeap shape region later
  leaves = leaves_heap shape region (z.world.keeping.holder p) e (next_is_log shape base s chains z.world.keeping region p e last.event world.log.logged)

  told_there : AreTold shape z.dirty region → AreTold shape z.dirty later
  told_there told = told_beside shape z.dirty region (z.world.keeping.holder p) e
      (λ a m. log_stores_none shape a e m (next_is_log shape base s chains z.world.keeping region p e last.event world.log.logged)) told

  runs_there : (q : ℕ) → (made_part shape p z.world.keeping).runs q ≡ (if q == p then resting else z.world.keeping.runs q)
  runs_there q = ap (λ (k : Keeping). k.runs q) (last_events_end shape z.world.keeping p last.last).kept
      ∙ by_part (λ n t. (if t then resting else (if t then one_more (z.world.keeping.runs p) else z.world.keeping.runs n)) ≡ (if t then resting else z.world.keeping.runs n)) p q refl (λ ne. refl)

  holder_there : (q : ℕ) → (made_part shape p z.world.keeping).holder q ≡ z.world.keeping.holder q
  holder_there q = ap (λ (k : Keeping). k.holder q) (last_events_end shape z.world.keeping p last.last).kept

  module _ (parts : (q : ℕ) → q < shape.partitions → IsPartIn shape s h z.world.keeping z.world.lanes q (z.world.under q)) where
    part_there : (q : ℕ) → q < shape.partitions → IsPartIn shape state h (made_part shape p z.world.keeping) z.world.lanes q (with_under p nothing z.world.under q)
    part_there q lt = record {
      run = runs_there q ∙ by_part (λ n t. n < shape.partitions → (if t then resting else z.world.keeping.runs n) ≡ run_of (if t then nothing else z.world.under n)) p q (λ lt. refl) (λ ne lt. (parts q lt).run) lt;
      fits = subst (λ j. Fits shape state h q (txn_at z.world.lanes j) (with_under p nothing z.world.under q)) (sym (holder_there q))
          (by_part (λ n t. n < shape.partitions → Fits shape state h n (txn_at z.world.lanes (z.world.keeping.holder n)) (if t then nothing else z.world.under n)) p q (λ lt. tt)
          (λ ne lt. fits_roomier shape p s (heap_words shape behind) h (txn_at z.world.lanes (z.world.keeping.holder q)) q (z.world.under q) (parts q lt).fits) lt);
    }

  no_rest : z.world.keeping.runs p ≡ resting → ⊥
  no_rest e = let k : rests ≡ takes_out r = sym (ap (λ (x : Running). x.part) e) ∙ last.under_way in cc

  stage_there : (c : Checkpoint) → IsAtStage shape s h z.world z.dirty c region → IsAtStage shape state h (dropped shape p z.world) z.dirty c later
  stage_there none k = record {
    told = told_there k.told;
    unmarked = k.unmarked;
    parts = part_there k.parts;
    no_closing = λ q lt. by_part (λ n t. n < shape.partitions → IsNoClosing (if t then nothing else z.world.under n)) p q (λ lt. tt) (λ ne lt. k.no_closing q lt) lt;
  }
  stage_there (sweeps l place) k = absurd (no_rest (k.at_rest.run p part_in))
  stage_there (swept l) k = absurd (no_rest (k.at_rest.run p part_in))
  stage_there (notes l place number done) k = elim (eqb_tells p 0) [
    | inl e ↦ (let f = sym (ap (λ (x : Running). x.part) k.run) ∙ subst (λ n. (z.world.keeping.runs n).part ≡ takes_out r) e.1 last.under_way in absurd (not_appends f))
    | inr ne ↦ absurd (no_rest (k.others p part_in ne.1))
  ]
    where
      not_appends : {place : _} {q : Record} → adds place q ≡ takes_out r → ⊥
      not_appends e = cc
  stage_there (noted l words) k = absurd (no_rest (k.at_rest.run p part_in))
  stage_there (zeroed l) k = record {
    told = told_there k.told;
    skipped = k.skipped;
    zero = λ a u d is. k.zero a u d (leaves.fewer a u (deleted_inside shape s world.log.sound a d) is);
    held = record { holder = λ q lt. holder_there q ∙ k.held.holder q lt; landed = k.held.landed };
    parts = part_there k.parts;
    idle = λ q lt. by_part (λ n t. n < shape.partitions → IsIdle (if t then nothing else z.world.under n)) p q (λ lt. tt) (λ ne lt. k.idle q lt) lt;
  }
  stage_there (shuts l g) k = (let f = sym (ap (λ (x : Running). x.part) (k.run p part_in)) ∙ last.under_way in absurd (not_closes f))
    where
      not_closes : {gates ends checkpoints : List ℕ} → shuts_part gates ends checkpoints ≡ takes_out r → ⊥
      not_closes e = cc

  drops_there : IsRedoWorldAt shape behind state (with_chain p made.chain chains) start (with_world (dropped shape p z.world) z) later
  drops_there = record {
    no_force = world.no_force;
    log = record {
      of_shape = same_shape region.size base behind world.log.header outside ∙ world.log.of_shape;
      header = subst (λ n. IsShape n behind) (sym (size_after region (z.world.keeping.holder p) e)) (is_shape region.size base behind world.log.header outside);
      logged = made.logged;
      sound = (room_keeps shape s (more_room p shape.cells s.room) (heap_words shape behind) world.log.sound (more p shape.cells s.room)).0;
      ordered = orders_keep.made shape p z.world.next z.world.keeping world.log.ordered;
      fits = runs_keep.made shape p z.world.keeping part_in world.log.ordered.newest_first (subst (λ (part : LogPart). Spares part z.world.keeping.ledger) (sym last.under_way) tt) world.log.fits;
      numbers = world.log.numbers;
    };
    spare = (let enough = world.spare in let le = more p shape.cells s.room 0 in omega (arith, enough, le));
    owners = world.owners;
    transactions = world.transactions;
    heap = record { full = λ a m. leaves.full a m (world.heap.full a m); now = λ a m free. leaves.newest_is a m ∙ world.heap.now a m free };
    stands = λ a u m is. world.stands a u m (leaves.fewer a u m is);
    stage = stage_there z.checkpoint world.stage;
  }

pub removals_settle : RemovalsSettle
removals_settle shape base s chains start z region p e r last world =
    ((made shape base s chains start z region p e r last world).chain, drops_there shape base s chains start z region p e r last world)

-- ---- the end

idle_open : (u : UnderWay) → IsIdle u → IsNoClosing u
idle_open nothing k = tt
idle_open (appends adding _) k = tt
idle_open (closes gates ends _) k = k
idle_open (takes_back gates _) k = tt
idle_open (drops r _) k = tt

pub checkpoints_end : CheckpointsEnd
checkpoints_end shape base s chains start z region l is unmarked run world =
    let stage = stage_is shape s (fold start z.world.history) z.world z.dirty region z.checkpoint (zeroed l) is world.stage in
    beside shape base s chains start z region region (all_latched NOBODY shape.partitions z.world.keeping) z.world.next z.dirty none
    (latched_log shape base s chains z.world.keeping z.world.next region NOBODY run world.log) (leaves_itself shape region) (record {
      told = stage.told;
      unmarked = unmarked;
      parts = λ p lt. record { run = (stage.parts p lt).run; fits = idle_fits shape s (fold start z.world.history) p _ (z.world.under p) (stage.idle p lt) };
      no_closing = λ p lt. idle_open (z.world.under p) (stage.idle p lt);
    }) world
