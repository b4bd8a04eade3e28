-- What a lane plans, and what begins in a partition.
use Rattle.std.proofs.Common.{◌≡◌, inl, inr, ℕ, zero, suc, ◌+◌, ◌<◌, ◌≤◌, ◌==◌, Bool, true, false, Some, if◌then◌else◌, List, [], ◌∷◌, ◌++◌, length, take, refl, sym, ap, ◌∙◌, subst, arith, length-append}
use Rattle.std.specs.Prelude.{slice_get}
use Rattle.std.proofs.lemmas.List.{length-map}
use Rattle.std.proofs.lemmas.Option.{slice_get_within}
use Rattle.persist_model.specs.Region.{Words, Region, newest}
use Rattle.persist_model.specs.Progress.{Write, write, latest}
use Rattle.persist_model.specs.Records.{Record, IsAmong, HasNo}
use Rattle.persist_model.specs.Standing.{IsToDelete}
use Rattle.persist_model.specs.Shape.{Shape}
use Rattle.persist_model.specs.Chain.{out_event}
use Rattle.persist_model.specs.State.{State}
use Rattle.atomic_list.specs.Plans.{insertion}
use Rattle.bucket_log.specs.declared.append.Place.{Place}
use Rattle.bucket_log.specs.Plans.{closing, cell_plan, insertion_of, append_plan}
use Rattle.bucket_log.specs.Appends.{region_append}
use Rattle.plan_records.proofs.Passing.{passes_above}
use Rattle.log_keeper.specs.Parts.{rests, appends as adds, Running}
use Rattle.log_keeper.specs.Ledger.{Drawn}
use Rattle.log_keeper.specs.Making.{is_over}
use Rattle.log_keeper.specs.Keeper.{begun_in, appending}
use Rattle.log_keeper.specs.Logged.{Keeping, begun, latched}
use Rattle.log_keeper.proofs.Progressing.{by_part}
use Rattle.log_keeper.proofs.EventsPass.{parts_begin as parts_begin_logged}
use Rattle.log_keeper.proofs.Made.{over_not}
use Rattle.log_keeper.proofs.Orders.{orders_keep}
use Rattle.log_keeper.proofs.Runs.{runs_keep}
use Rattle.log_keeper.proofs.Steps.{latches_pass}
use Rattle.history_laws.specs.Histories.{fold}
use Rattle.history_laws.specs.UnderWay.{Added, an_update, a_deletion, a_rollback, a_compensation, an_undone_end, a_commit_end, Adding, record_of_adding, UnderWay, appends, run_of}
use Rattle.txn_laws.specs.Txns.{Txn, txn_at, with_txn, written}
use Rattle.txn_laws.specs.Owners.{IsMine, AreOwners}
use Rattle.txn_laws.specs.Heaps.{IsKept}
use Rattle.txn_laws.specs.AreTransactions.{AreUpdatesOf, recorded, IsGoing, IsTransaction}
use Rattle.txn_laws.specs.NextRecords.{is_end, ended_by}
use Rattle.txn_laws.specs.PartsOf.{Fits, IsPartIn}
use Rattle.txn_laws.specs.Going.{with_under}
use Rattle.txn_laws.specs.Worlds.{World, with_lane, IsWorldAt}
use Rattle.txn_laws.specs.Asks.{asked, MayAsk, AsksKeep, coming, drawn, MayDraw, AppendsBegin, begun_part, MayBeginPart, PartsBegin, LatchesKeep}
use Rattle.txn_laws.proofs.Moments.{below_next}
use Rattle.txn_laws.proofs.Lanes.{by_lane, IsFound, now_found, owners_same, nobodys_same, numbers_same, numbers_changed, known_same, rests_fits, parts_rest}
use Rattle.txn_laws.proofs.Beginning.{found_here}

-- ---- more writes to come

got_more : {A : Type 0} (xs ys : List A) (k : ℕ) (x : A) → slice_get xs k ≡ Some x → slice_get (xs ++ ys) k ≡ Some x
got_more [] ys k x e = cc
got_more (z ∷ xs) ys zero x e = e
got_more (z ∷ xs) ys (suc k) x e = got_more xs ys k x e

taken_more : {A : Type 0} (xs ys : List A) (n : ℕ) → n ≤ length xs → take n (xs ++ ys) ≡ take n xs
taken_more xs ys zero le = refl
taken_more [] ys (suc n) le = absurd (omega (arith, le))
taken_more (x ∷ xs) ys (suc n) le = ap (λ zs. x ∷ zs) (taken_more xs ys n (omega (arith, le)))

-- each update has its write
updates_within : (h : Words) (writes : List Write) (updates : List Record) → AreUpdatesOf h writes updates → length updates ≤ length writes
updates_within h writes [] each = omega arith
updates_within h writes (u ∷ updates) each = let lt = slice_get_within writes (length updates) (write u.word u.after) each.0.of_write in omega (arith, lt)

updates_more : (h : Words) (writes more : List Write) (updates : List Record) → AreUpdatesOf h writes updates → AreUpdatesOf h (writes ++ more) updates
updates_more h writes more [] each = tt
updates_more h writes more (u ∷ updates) each = (
  record {
    of_write = got_more writes more (length updates) (write u.word u.after) each.0.of_write;
    before = each.0.before ∙ sym (ap (λ ws. latest ws u.word (h u.word)) (taken_more writes more (length updates)
        (let lt = slice_get_within writes (length updates) (write u.word u.after) each.0.of_write in omega (arith, lt))));
  },
  updates_more h writes more updates each.1,
)

either_write : (xs ys : List Write) (v : Write) → IsAmong (xs ++ ys) v → (P : Type 0) → (IsAmong xs v → P) → (IsAmong ys v → P) → P
either_write [] ys v m P left right = right m
either_write (x ∷ xs) ys v (inl e) P left right = left (inl e)
either_write (x ∷ xs) ys v (inr m) P left right = either_write xs ys v m P (λ k. left (inr k)) right

module _ (shape : Shape) (base : Words) (s : State) (chains : ℕ → List ℕ) (start_heap : Words) (w : World) (region : Region) (world : IsWorldAt shape base s chains start_heap w region) where
  abbrev h : Words
  h = fold start_heap w.history

  module _ (l : ℕ) (more : List Write) (commits : Bool) (may : MayAsk shape w l more) where
    abbrev x : Txn
    x = txn_at w.lanes l

    abbrev y : Txn
    y = asked more commits (txn_at w.lanes l)

    going : IsGoing s.log h x
    going = (world.transactions.each l).going may.runs

    recorded_is : recorded y ≡ recorded x
    recorded_is = taken_more x.writes more (length x.updates) (updates_within h x.writes x.updates going.updates_are)

    stored_is : take x.stored (x.writes ++ more) ≡ take x.stored x.writes
    stored_is = taken_more x.writes more x.stored may.stored

    written_is : written y ≡ written x
    written_is = ap (λ ws. if x.over then [] else ws) stored_is

    told_asked : IsTransaction shape s.log h y
    told_asked = let t = world.transactions.each l in record {
      in_part = t.in_part;
      going = λ on. record {
        running = going.running;
        to_undo_is = going.to_undo_is;
        point_is = going.point_is;
        rolled_is = going.rolled_is;
        rolled_has = going.rolled_has;
        updates_are = updates_more h x.writes more x.updates going.updates_are;
        changed = λ a r last. going.changed a r last ∙ sym (ap (λ ws. latest ws a (h a)) recorded_is);
        unchanged = λ a none u. ap (λ ws. latest ws a u) recorded_is ∙ going.unchanged a none u;
        covered = λ v m. going.covered v (subst (λ ws. IsAmong ws v) stored_is m);
        unzeroed = going.unzeroed;
        writes_own = λ v m. either_write x.writes more v m (IsMine x v.address) (λ k. going.writes_own v k) (λ k. may.own v k);
      };
      ended = λ over. (let e = sym may.runs ∙ over in cc);
      deletions = t.deletions;
      given = t.given;
      gifts_own = t.gifts_own;
      names = t.names;
    }

    owners_asked : AreOwners shape (with_txn l y w.lanes)
    owners_asked = owners_same shape l y w.lanes may.lane refl world.owners

    found_asked : IsFound shape s.log h (with_txn l y w.lanes) region
    found_asked = record {
      own = λ k a. by_lane (λ j z. IsMine z a → HasNo (IsToDelete s.log a) s.log → newest (region.at a) ≡ latest (written z) a (h a)) l y w.lanes may.lane
          (λ m none. (found_here shape base s chains start_heap w region world).own l a m none ∙ sym (ap (λ ws. latest ws a (h a)) written_is))
          (λ j ne. (found_here shape base s chains start_heap w region world).own j a) k;
      others = λ a m nobodys none. (found_here shape base s chains start_heap w region world).others a m (nobodys_same l y w.lanes a may.lane refl nobodys) none;
    }

    asks_there : IsWorldAt shape base s chains start_heap (with_lane l y w) region
    asks_there = record {
      force = world.force;
      log = world.log;
      owners = owners_asked;
      transactions = record {
        each = by_lane (λ j z. IsTransaction shape s.log h z) l y w.lanes may.lane told_asked (λ j ne. world.transactions.each j);
        known = λ r m. known_same l y w.lanes r may.lane refl (world.transactions.known r m);
        apart = numbers_changed l y w.lanes may.lane (numbers_same l y w.lanes refl world.transactions.apart) world.transactions.apart;
      };
      heap = record {
        full = world.heap.full;
        now = now_found shape s.log h (with_txn l y w.lanes) region owners_asked found_asked;
        found = λ k g. by_lane (λ j z. z.over ≡ true → IsAmong (take z.zeroed z.gifts) g → newest (region.at g.word) ≡ 0) l y w.lanes may.lane (world.heap.found l g) (λ j ne. world.heap.found j g) k;
      };
      kept = by_lane (λ j z. IsKept j z region) l y w.lanes may.lane
          (record { progress = (world.kept l).progress; tracks = (world.kept l).tracks; own = (world.kept l).own; fenced = (world.kept l).fenced }) (λ j ne. world.kept j);
      stands = world.stands;
      parts = λ p lt. parts_rest shape s h w.keeping l y w.lanes p (w.under p) may.lane lt may.resting (world.parts p lt);
    }

  -- ---- parts

  holder_same : (p n : ℕ) → (if n == p then w.keeping.holder p else w.keeping.holder n) ≡ w.keeping.holder n
  holder_same p n = by_part (λ k t. (if t then w.keeping.holder p else w.keeping.holder k) ≡ w.keeping.holder k) p n refl (λ ne. refl)

  -- a part begins in p, and others are as they were
  module _ (p : ℕ) (u : UnderWay) (k : Keeping) (runs_is : (n : ℕ) → k.runs n ≡ (if n == p then run_of u else w.keeping.runs n)) (holder_is : (n : ℕ) → k.holder n ≡ w.keeping.holder n)
      (fits : Fits shape s h p (txn_at w.lanes (w.keeping.holder p)) u) where
    parts_with : (q : ℕ) → q < shape.partitions → IsPartIn shape s h k w.lanes q (with_under p u w.under q)
    parts_with q lt = record {
      run = runs_is q ∙ by_part (λ n t. n < shape.partitions → (if t then run_of u else w.keeping.runs n) ≡ run_of (if t then u else w.under n)) p q (λ lt. refl) (λ ne lt. (world.parts q lt).run) lt;
      fits = subst (λ j. Fits shape s h q (txn_at w.lanes j) (with_under p u w.under q)) (sym (holder_is q))
          (by_part (λ n t. n < shape.partitions → Fits shape s h n (txn_at w.lanes (w.keeping.holder n)) (if t then u else w.under n)) p q (λ lt. fits) (λ ne lt. (world.parts q lt).fits) lt);
    }

  -- ---- an append

  module _ (p : ℕ) (place : Place) (added : Added) (may : MayDraw shape base s chains h w p (txn_at w.lanes (w.keeping.holder p)) (coming w place added)) where
    abbrev adding : Adding
    adding = coming w place added

    two_events : 1 < length (region_append shape p place (record_of_adding adding))
    two_events =
        let e = length-map (append_plan shape.cells place (record_of_adding adding)) (out_event p) in
        let f = length-append (if place.fresh then closing place.bucket shape.cells ++ insertion (insertion_of place) else []) (cell_plan (record_of_adding adding)) in
        omega (arith, e, f)

    unended : ended_by shape p adding 0 ≡ false
    unended = by added
      where
        off : is_over (region_append shape p place (record_of_adding adding)) (0 + 1) ≡ false
        off = over_not (region_append shape p place (record_of_adding adding)) (0 + 1) two_events

        by : (kind : Added) → (if is_end kind then is_over (region_append shape p place (record_of_adding adding)) (0 + 1) else false) ≡ false
        by (an_update u) = refl
        by (a_deletion g) = refl
        by (a_rollback t) = refl
        by (a_compensation u cell) = refl
        by (an_undone_end t) = off
        by (a_commit_end t) = off

    draws_there : IsWorldAt shape base s chains start_heap (drawn p place added w) region
    draws_there = record {
      force = world.force;
      log = record {
        of_shape = world.log.of_shape;
        header = world.log.header;
        logged = parts_begin_logged shape base s chains w.keeping region p (w.keeping.holder p) (adds place (record_of_adding adding))
            (record { lane = w.keeping.holder p; entry = record_of_adding adding; stage = Drawn } ∷ w.keeping.ledger) may.inside may.free may.can refl world.log.logged;
        sound = world.log.sound;
        ordered = orders_keep.appends p w.next place (record_of_adding adding) w.keeping refl world.log.ordered;
        fits = runs_keep.appends shape p w.next place (record_of_adding adding) w.keeping may.inside may.free refl world.log.ordered world.log.fits;
        numbers = may.numbers;
      };
      owners = world.owners;
      transactions = world.transactions;
      heap = world.heap;
      kept = world.kept;
      stands = world.stands;
      parts = parts_with p (appends adding 0) (appending p place (record_of_adding adding) w.keeping) (λ n. refl) (holder_same p) (record {
        number = may.number;
        of = may.of;
        here = may.here;
        runs = may.runs;
        passes = passes_above (record_of_adding adding) s.log (λ q m. below_next shape base s chains start_heap w region world q m);
        own = may.own;
        next = may.comes;
        ended_is = may.unended ∙ sym unended;
      });
    }

  -- ---- another part

  module _ (p : ℕ) (u : UnderWay) (may : MayBeginPart shape base s chains h w p u) where
    run_is : begun (run_of u).part ≡ run_of u
    run_is = λ i. record { part = (run_of u).part; made = sym may.none_made i }

    begins_part : IsWorldAt shape base s chains start_heap (begun_part p u w) region
    begins_part = record {
      force = world.force;
      log = record {
        of_shape = world.log.of_shape;
        header = world.log.header;
        logged = parts_begin_logged shape base s chains w.keeping region p (w.keeping.holder p) (run_of u).part w.keeping.ledger may.inside may.free may.can refl world.log.logged;
        sound = world.log.sound;
        ordered = orders_keep.stays w.next w.keeping (begun_in p (run_of u).part w.keeping.ledger w.keeping) refl world.log.ordered;
        fits = runs_keep.begins shape p (run_of u).part w.keeping may.inside may.free may.no_append world.log.fits;
        numbers = world.log.numbers;
      };
      owners = world.owners;
      transactions = world.transactions;
      heap = world.heap;
      kept = world.kept;
      stands = world.stands;
      parts = parts_with p u (begun_in p (run_of u).part w.keeping.ledger w.keeping)
          (λ n. ap (λ (run : Running). if n == p then run else w.keeping.runs n) run_is) (holder_same p) may.fits;
    }

  -- ---- a latch

  module _ (p lane : ℕ) (inside : p < shape.partitions) (free : (w.keeping.runs p).part ≡ rests) where
    latches_there : IsWorldAt shape base s chains start_heap (record w { keeping = latched p lane w.keeping }) region
    latches_there = record {
      force = world.force;
      log = record {
        of_shape = world.log.of_shape;
        header = world.log.header;
        logged = latches_pass shape base s chains w.keeping region p lane free world.log.logged;
        sound = world.log.sound;
        ordered = orders_keep.stays w.next w.keeping (latched p lane w.keeping) refl world.log.ordered;
        fits = runs_keep.stays shape w.keeping (latched p lane w.keeping) refl refl world.log.fits;
        numbers = world.log.numbers;
      };
      owners = world.owners;
      transactions = world.transactions;
      heap = world.heap;
      kept = world.kept;
      stands = world.stands;
      parts = λ q lt. record {
        run = (world.parts q lt).run;
        fits = by_part (λ n t. (w.keeping.runs n).part ≡ (w.keeping.runs n).part → n < shape.partitions → Fits shape s h n (txn_at w.lanes (if t then lane else w.keeping.holder n)) (w.under n)) p q
            (λ e lt. rests_fits shape s h p (txn_at w.lanes lane) (w.under p) (sym (ap (λ (run : Running). run.part) (world.parts p inside).run) ∙ free))
            (λ ne e lt. (world.parts q lt).fits) refl lt;
      };
    }

pub asks_keep : AsksKeep
asks_keep shape base s chains start_heap w region l more commits may world = asks_there shape base s chains start_heap w region world l more commits may

pub appends_begin : AppendsBegin
appends_begin shape base s chains start_heap w region p place added may world = draws_there shape base s chains start_heap w region world p place added may

pub parts_begin : PartsBegin
parts_begin shape base s chains start_heap w region p u may world = begins_part shape base s chains start_heap w region world p u may

pub latches_keep : LatchesKeep
latches_keep shape base s chains start_heap w region p lane inside free world = latches_there shape base s chains start_heap w region world p lane inside free
