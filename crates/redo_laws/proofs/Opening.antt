-- What begins in a partition, where there is no checkpoint.
use Rattle.std.proofs.Common.{◌≡◌, ℕ, ◌+◌, ◌<◌, ◌==◌, false, if◌then◌else◌, List, [], ◌∷◌, ◌++◌, length, refl, sym, ap, ◌∙◌, subst, arith, length-append}
use Rattle.std.proofs.lemmas.List.{length-map}
use Rattle.persist_model.specs.Region.{Words, Region}
use Rattle.persist_model.specs.Shape.{Shape}
use Rattle.persist_model.specs.Chain.{out_event}
use Rattle.persist_model.specs.State.{State}
use Rattle.atomic_list.specs.Plans.{insertion}
use Rattle.bucket_log.specs.declared.append.Place.{Place}
use Rattle.bucket_log.specs.Plans.{closing, cell_plan, insertion_of, append_plan}
use Rattle.bucket_log.specs.Appends.{region_append}
use Rattle.plan_records.proofs.Passing.{passes_above}
use Rattle.log_keeper.specs.Parts.{rests, appends as adds, Running}
use Rattle.log_keeper.specs.Ledger.{Drawn}
use Rattle.log_keeper.specs.Making.{is_over}
use Rattle.log_keeper.specs.Keeper.{begun_in, appending}
use Rattle.log_keeper.specs.Logged.{Keeping, begun, latched}
use Rattle.log_keeper.proofs.Progressing.{by_part}
use Rattle.log_keeper.proofs.EventsPass.{parts_begin as parts_begin_logged}
use Rattle.log_keeper.proofs.Made.{over_not}
use Rattle.log_keeper.proofs.Orders.{orders_keep}
use Rattle.log_keeper.proofs.Runs.{runs_keep}
use Rattle.log_keeper.proofs.Steps.{latches_pass}
use Rattle.history_laws.specs.Histories.{fold}
use Rattle.history_laws.specs.UnderWay.{Added, an_update, a_deletion, a_rollback, a_compensation, an_undone_end, a_commit_end, Adding, record_of_adding, UnderWay, appends, run_of}
use Rattle.txn_laws.specs.Txns.{txn_at}
use Rattle.txn_laws.specs.NextRecords.{is_end, ended_by}
use Rattle.txn_laws.specs.PartsOf.{Fits, IsPartIn}
use Rattle.txn_laws.specs.Going.{with_under}
use Rattle.txn_laws.specs.Worlds.{World}
use Rattle.redo_laws.specs.Stages.{IsNoClosing}
use Rattle.redo_laws.proofs.Plain.{IsPlainAt}
use Rattle.txn_laws.specs.Asks.{coming, drawn, MayDraw, begun_part, MayBeginPart}
use Rattle.redo_laws.proofs.Moments.{below_next}
use Rattle.txn_laws.proofs.Lanes.{rests_fits}

module _ (shape : Shape) (base : Words) (s : State) (chains : ℕ → List ℕ) (start_heap : Words) (w : World) (region : Region) (world : IsPlainAt shape base s chains start_heap w region) where
  abbrev h : Words
  h = fold start_heap w.history

  holder_same : (p n : ℕ) → (if n == p then w.keeping.holder p else w.keeping.holder n) ≡ w.keeping.holder n
  holder_same p n = by_part (λ k t. (if t then w.keeping.holder p else w.keeping.holder k) ≡ w.keeping.holder k) p n refl (λ ne. refl)

  closing_with : (p : ℕ) (u : UnderWay) → IsNoClosing u → (q : ℕ) → q < shape.partitions → IsNoClosing (with_under p u w.under q)
  closing_with p u open_part q lt = by_part (λ n t. n < shape.partitions → IsNoClosing (if t then u else w.under n)) p q (λ lt. open_part) (λ ne lt. world.no_closing q lt) lt

  -- a part begins in p, and others are as they were
  module _ (p : ℕ) (u : UnderWay) (k : Keeping) (runs_is : (n : ℕ) → k.runs n ≡ (if n == p then run_of u else w.keeping.runs n)) (holder_is : (n : ℕ) → k.holder n ≡ w.keeping.holder n)
      (fits : Fits shape s h p (txn_at w.lanes (w.keeping.holder p)) u) where
    parts_with : (q : ℕ) → q < shape.partitions → IsPartIn shape s h k w.lanes q (with_under p u w.under q)
    parts_with q lt = record {
      run = runs_is q ∙ by_part (λ n t. n < shape.partitions → (if t then run_of u else w.keeping.runs n) ≡ run_of (if t then u else w.under n)) p q (λ lt. refl) (λ ne lt. (world.parts q lt).run) lt;
      fits = subst (λ j. Fits shape s h q (txn_at w.lanes j) (with_under p u w.under q)) (sym (holder_is q))
          (by_part (λ n t. n < shape.partitions → Fits shape s h n (txn_at w.lanes (w.keeping.holder n)) (if t then u else w.under n)) p q (λ lt. fits) (λ ne lt. (world.parts q lt).fits) lt);
    }

  -- ---- an append

  module _ (p : ℕ) (place : Place) (added : Added) (may : MayDraw shape base s chains h w p (txn_at w.lanes (w.keeping.holder p)) (coming w place added)) where
    abbrev adding : Adding
    adding = coming w place added

    two_events : 1 < length (region_append shape p place (record_of_adding adding))
    two_events =
        let e = length-map (append_plan shape.cells place (record_of_adding adding)) (out_event p) in
        let f = length-append (if place.fresh then closing place.bucket shape.cells ++ insertion (insertion_of place) else []) (cell_plan (record_of_adding adding)) in
        omega (arith, e, f)

    unended : ended_by shape p adding 0 ≡ false
    unended = by added
      where
        off : is_over (region_append shape p place (record_of_adding adding)) (0 + 1) ≡ false
        off = over_not (region_append shape p place (record_of_adding adding)) (0 + 1) two_events

        by : (kind : Added) → (if is_end kind then is_over (region_append shape p place (record_of_adding adding)) (0 + 1) else false) ≡ false
        by (an_update u) = refl
        by (a_deletion g) = refl
        by (a_rollback t) = refl
        by (a_compensation u cell) = refl
        by (an_undone_end t) = off
        by (a_commit_end t) = off

    pub draws_there : IsPlainAt shape base s chains start_heap (drawn p place added w) region
    draws_there = record {
      no_force = world.no_force;
      log = record {
        of_shape = world.log.of_shape;
        header = world.log.header;
        logged = parts_begin_logged shape base s chains w.keeping region p (w.keeping.holder p) (adds place (record_of_adding adding))
            (record { lane = w.keeping.holder p; entry = record_of_adding adding; stage = Drawn } ∷ w.keeping.ledger) may.inside may.free may.can refl world.log.logged;
        sound = world.log.sound;
        ordered = orders_keep.appends p w.next place (record_of_adding adding) w.keeping refl world.log.ordered;
        fits = runs_keep.appends shape p w.next place (record_of_adding adding) w.keeping may.inside may.free refl world.log.ordered world.log.fits;
        numbers = may.numbers;
      };
      spare = world.spare;
      owners = world.owners;
      unmarked = world.unmarked;
      transactions = world.transactions;
      heap = world.heap;
      stands = world.stands;
      parts = parts_with p (appends adding 0) (appending p place (record_of_adding adding) w.keeping) (λ n. refl) (holder_same p) (record {
        number = may.number;
        of = may.of;
        here = may.here;
        runs = may.runs;
        passes = passes_above (record_of_adding adding) s.log (λ q m. below_next shape base s chains start_heap w region world q m);
        own = may.own;
        next = may.comes;
        ended_is = may.unended ∙ sym unended;
      });
      no_closing = closing_with p (appends adding 0) tt;
    }

  -- ---- another part

  module _ (p : ℕ) (u : UnderWay) (may : MayBeginPart shape base s chains h w p u) (open_part : IsNoClosing u) where
    run_is : begun (run_of u).part ≡ run_of u
    run_is = λ i. record { part = (run_of u).part; made = sym may.none_made i }

    pub begins_part : IsPlainAt shape base s chains start_heap (begun_part p u w) region
    begins_part = record {
      no_force = world.no_force;
      log = record {
        of_shape = world.log.of_shape;
        header = world.log.header;
        logged = parts_begin_logged shape base s chains w.keeping region p (w.keeping.holder p) (run_of u).part w.keeping.ledger may.inside may.free may.can refl world.log.logged;
        sound = world.log.sound;
        ordered = orders_keep.stays w.next w.keeping (begun_in p (run_of u).part w.keeping.ledger w.keeping) refl world.log.ordered;
        fits = runs_keep.begins shape p (run_of u).part w.keeping may.inside may.free may.no_append world.log.fits;
        numbers = world.log.numbers;
      };
      spare = world.spare;
      owners = world.owners;
      unmarked = world.unmarked;
      transactions = world.transactions;
      heap = world.heap;
      stands = world.stands;
      parts = parts_with p u (begun_in p (run_of u).part w.keeping.ledger w.keeping)
          (λ n. ap (λ (run : Running). if n == p then run else w.keeping.runs n) run_is) (holder_same p) may.fits;
      no_closing = closing_with p u open_part;
    }

  -- ---- a latch

  module _ (p lane : ℕ) (inside : p < shape.partitions) (free : (w.keeping.runs p).part ≡ rests) where
    pub latches_there : IsPlainAt shape base s chains start_heap (record w { keeping = latched p lane w.keeping }) region
    latches_there = record {
      no_force = world.no_force;
      log = record {
        of_shape = world.log.of_shape;
        header = world.log.header;
        logged = latches_pass shape base s chains w.keeping region p lane free world.log.logged;
        sound = world.log.sound;
        ordered = orders_keep.stays w.next w.keeping (latched p lane w.keeping) refl world.log.ordered;
        fits = runs_keep.stays shape w.keeping (latched p lane w.keeping) refl refl world.log.fits;
        numbers = world.log.numbers;
      };
      spare = world.spare;
      owners = world.owners;
      unmarked = world.unmarked;
      transactions = world.transactions;
      heap = world.heap;
      stands = world.stands;
      parts = λ q lt. record {
        run = (world.parts q lt).run;
        fits = by_part (λ n t. (w.keeping.runs n).part ≡ (w.keeping.runs n).part → n < shape.partitions → Fits shape s h n (txn_at w.lanes (if t then lane else w.keeping.holder n)) (w.under n)) p q
            (λ e lt. rests_fits shape s h p (txn_at w.lanes lane) (w.under p) (sym (ap (λ (run : Running). run.part) (world.parts p inside).run) ∙ free))
            (λ ne e lt. (world.parts q lt).fits) refl lt;
      };
      no_closing = world.no_closing;
    }
