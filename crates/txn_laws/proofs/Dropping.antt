-- The last event of a removal.
use Rattle.std.proofs.Common.{◌≡◌, ◌≢◌, inl, inr, ℕ, ◌+◌, ◌<◌, ◌≤◌, ◌==◌, Bool, true, false, if◌then◌else◌, List, refl, sym, ap, ◌∙◌, subst, arith}
use Rattle.persist_model.specs.declared.event.Event.{Event}
use Rattle.persist_model.specs.Region.{Words, Region}
use Rattle.persist_model.specs.Records.{Record}
use Rattle.persist_model.specs.Shape.{Shape, part_of, heap_words, IsShape}
use Rattle.persist_model.specs.State.{State}
use Rattle.log_laws.specs.MoveRoom.{HasCells, HasItsCells}
use Rattle.atomic_list.specs.declared.plans.Remove.{Remove}
use Rattle.bucket_log.proofs.Partitions.{few_parts}
use Rattle.log_clearing.specs.Removals.{with_room, more_room}
use Rattle.log_clearing.proofs.RemovalStates.{room_keeps}
use Rattle.log_keeper.specs.Parts.{drops as takes_out, LogPart, CanRun, words_behind}
use Rattle.log_keeper.specs.Laws.{HasDropped}
use Rattle.log_keeper.specs.Making.{made_part}
use Rattle.log_keeper.specs.Logged.{Keeping, resting, one_more, with_chain}
use Rattle.log_keeper.specs.Ordered.{Spares}
use Rattle.log_keeper.specs.Events.{IsLastEvent, region_made}
use Rattle.log_keeper.proofs.Progressing.{by_part, size_after, part_on, words_outside}
use Rattle.log_keeper.proofs.Made.{removals_are_made}
use Rattle.log_keeper.proofs.Steps.{last_events_end}
use Rattle.log_keeper.proofs.Orders.{orders_keep}
use Rattle.log_keeper.proofs.Runs.{runs_keep}
use Rattle.history_laws.specs.Histories.{fold}
use Rattle.history_laws.specs.Stands.{IsHeader}
use Rattle.history_laws.specs.UnderWay.{Added, an_update, a_deletion, a_rollback, a_compensation, an_undone_end, a_commit_end, record_of_adding, UnderWay, nothing, appends, closes, takes_back, drops, run_of}
use Rattle.history_laws.proofs.Headers.{header_is_none's, same_shape, is_shape}
use Rattle.txn_laws.specs.Txns.{Txn, txn_at}
use Rattle.txn_laws.specs.NextRecords.{ComesNext}
use Rattle.txn_laws.specs.PartsOf.{Fits, IsPartIn}
use Rattle.txn_laws.specs.Going.{with_under}
use Rattle.txn_laws.specs.Worlds.{World, IsWorldAt}
use Rattle.txn_laws.specs.Dropped.{dropped, RemovalsSettle}
use Rattle.txn_laws.proofs.Storing.{among_taken}
use Rattle.txn_laws.proofs.LogEvents.{LeavesHeap, next_is_log, leaves_heap, kept_beside}

more : (p cells : ℕ) (room : ℕ → ℕ) (q : ℕ) → room q ≤ more_room p cells room q
more p cells room q = by (q == p)
  where
    by : (b : Bool) → room q ≤ (if b then room q + cells else room q)
    by true = omega arith
    by false = omega arith

-- ---- no partition has less room

module _ (shape : Shape) (p : ℕ) (s : State) (words h : Words) (force : shape.policy ≢ 2) (x : Txn) where
  abbrev roomier : State
  roomier = with_room s (more_room p shape.cells s.room) words

  cells_roomier : (r : Record) (n : ℕ) → HasCells shape s r n → HasCells shape roomier r n
  cells_roomier r n cells = record {
    here = (let enough = cells.here in let le = more p shape.cells s.room (part_of shape r.at) in omega (arith, enough, le));
    checkpoint_here = λ two. absurd (force two);
    checkpoint_elsewhere = λ two. absurd (force two);
  }

  its_roomier : (r : Record) (n : ℕ) → HasItsCells shape s r n → HasItsCells shape roomier r n
  its_roomier r n (inl some) = inl some
  its_roomier r n (inr cells) = inr (cells_roomier r n cells)

  comes_roomier : (r : Record) (added : Added) → ComesNext shape s h x r added → ComesNext shape roomier h x r added
  comes_roomier r (an_update u) n = record { no_root = n.no_root; of_write = n.of_write; point_is = n.point_is; unrolled = n.unrolled; cells = cells_roomier r _ n.cells }
  comes_roomier r (a_deletion g) n = record { plain = n.plain; unrolled = n.unrolled; cells = cells_roomier r _ n.cells }
  comes_roomier r (a_rollback t) n = (n.0, its_roomier r 2 n.1)
  comes_roomier r (a_compensation u cell) n = n
  comes_roomier r (an_undone_end t) n = (n.0, record { commits_is = n.1.commits_is; fenced_is = n.1.fenced_is; stored_is = n.1.stored_is; cells = its_roomier r 1 n.1.cells })
  comes_roomier r (a_commit_end t) n = (n.0, record { commits_is = n.1.commits_is; fenced_is = n.1.fenced_is; stored_is = n.1.stored_is; cells = its_roomier r 1 n.1.cells })

  fits_roomier : (q : ℕ) (u : UnderWay) → Fits shape s h q x u → Fits shape roomier h q x u
  fits_roomier q nothing fits = tt
  fits_roomier q (appends adding made) fits = record {
    number = fits.number;
    of = fits.of;
    here = fits.here;
    runs = fits.runs;
    passes = fits.passes;
    own = fits.own;
    next = comes_roomier (record_of_adding adding) adding.added fits.next;
    ended_is = fits.ended_is;
  }
  fits_roomier q (closes gates ends made) fits = fits
  fits_roomier q (takes_back gates made) fits = fits
  fits_roomier q (drops r made) fits = tt

module _ (shape : Shape) (base : Words) (s : State) (chains : ℕ → List ℕ) (start_heap : Words) (w : World) (region : Region) (p : ℕ) (e : Event) (r : Remove)
    (last : IsLastEvent shape w.keeping p e (takes_out r)) (world : IsWorldAt shape base s chains start_heap w region) where
  abbrev h : Words
  h = fold start_heap w.history

  abbrev behind : Words
  behind = words_behind shape p (takes_out r) base

  abbrev later : Region
  later = region_made w.keeping p e region

  abbrev state : State
  state = with_room s (more_room p shape.cells s.room) (heap_words shape (words_behind shape p (takes_out r) base))

  part_in : p < shape.partitions
  part_in = last.event.inside

  made : HasDropped shape behind state chains (made_part shape p w.keeping) later p
  made = removals_are_made shape base s chains w.keeping region p e r last world.log.logged

  outside : (a : ℕ) → IsHeader a → behind a ≡ base a
  outside a m = words_outside shape p base (takes_out r)
      (part_on shape p base s (chains p) (takes_out r) world.log.logged.allowed part_in world.log.logged.has (subst (CanRun shape p base s (chains p)) last.under_way (world.log.logged.can p part_in))) a
      (λ k. header_is_none's shape p a (few_parts shape p world.log.logged.allowed part_in) m k)

  leaves : LeavesHeap shape region later
  leaves = leaves_heap shape region (w.keeping.holder p) e (next_is_log shape base s chains w.keeping region p e last.event world.log.logged)

  runs_there : (q : ℕ) → (made_part shape p w.keeping).runs q ≡ (if q == p then resting else w.keeping.runs q)
  runs_there q = ap (λ (k : Keeping). k.runs q) (last_events_end shape w.keeping p last.last).kept
      ∙ by_part (λ n t. (if t then resting else (if t then one_more (w.keeping.runs p) else w.keeping.runs n)) ≡ (if t then resting else w.keeping.runs n)) p q refl (λ ne. refl)

  holder_there : (q : ℕ) → (made_part shape p w.keeping).holder q ≡ w.keeping.holder q
  holder_there q = ap (λ (k : Keeping). k.holder q) (last_events_end shape w.keeping p last.last).kept

  part_there : (q : ℕ) → q < shape.partitions → IsPartIn shape state h (made_part shape p w.keeping) w.lanes q (with_under p nothing w.under q)
  part_there q lt = record {
    run = runs_there q ∙ by_part (λ n t. n < shape.partitions → (if t then resting else w.keeping.runs n) ≡ run_of (if t then nothing else w.under n)) p q (λ lt. refl) (λ ne lt. (world.parts q lt).run) lt;
    fits = subst (λ j. Fits shape state h q (txn_at w.lanes j) (with_under p nothing w.under q)) (sym (holder_there q))
        (by_part (λ n t. n < shape.partitions → Fits shape state h n (txn_at w.lanes (w.keeping.holder n)) (if t then nothing else w.under n)) p q (λ lt. tt)
        (λ ne lt. fits_roomier shape p s (heap_words shape behind) h world.force (txn_at w.lanes (w.keeping.holder q)) q (w.under q) (world.parts q lt).fits) lt);
  }

  drops_there : IsWorldAt shape behind state (with_chain p made.chain chains) start_heap (dropped shape p w) later
  drops_there = record {
    force = world.force;
    log = record {
      of_shape = same_shape region.size base behind world.log.header outside ∙ world.log.of_shape;
      header = subst (λ n. IsShape n behind) (sym (size_after region (w.keeping.holder p) e)) (is_shape region.size base behind world.log.header outside);
      logged = made.logged;
      sound = (room_keeps shape s (more_room p shape.cells s.room) (heap_words shape behind) world.log.sound (more p shape.cells s.room)).0;
      ordered = orders_keep.made shape p w.next w.keeping world.log.ordered;
      fits = runs_keep.made shape p w.keeping part_in world.log.ordered.newest_first (subst (λ (part : LogPart). Spares part w.keeping.ledger) (sym last.under_way) tt) world.log.fits;
      numbers = world.log.numbers;
    };
    owners = world.owners;
    transactions = world.transactions;
    heap = record {
      full = λ a m. leaves.full a m (world.heap.full a m);
      now = λ a m none. leaves.newest_is a m ∙ world.heap.now a m none;
      found = λ j g over m. leaves.newest_is g.word (world.owners.heap_words j g.word ((world.transactions.each j).gifts_own g (among_taken (txn_at w.lanes j).gifts (txn_at w.lanes j).zeroed g m)))
          ∙ world.heap.found j g over m;
    };
    kept = λ j. kept_beside shape j (txn_at w.lanes j) region (w.keeping.holder p) e (λ a m. world.owners.heap_words j a m) (next_is_log shape base s chains w.keeping region p e last.event world.log.logged) (world.kept j);
    stands = λ a u m is. world.stands a u m (leaves.fewer a u m is);
    parts = part_there;
  }

pub removals_settle : RemovalsSettle
removals_settle shape base s chains start_heap w region p e r last world =
    ((made shape base s chains start_heap w region p e r last world).chain, drops_there shape base s chains start_heap w region p e r last world)
