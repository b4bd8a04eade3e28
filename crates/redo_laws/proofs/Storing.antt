-- Stores to a lane's own words between the parts of the log.
use Rattle.std.proofs.Common.{◌≡◌, ◌≢◌, inl, inr, ℕ, zero, suc, ◌+◌, ◌<◌, Bool, true, false, Option, Some, None, List, [], ◌∷◌, ◌++◌, length, take, refl, sym, ap, ◌∙◌, subst, arith}
use Rattle.std.specs.Prelude.{slice_get}
use Rattle.std.proofs.lemmas.Bool.Decides.{eqb_tells}
use Rattle.std.proofs.lemmas.Option.{slice_get_within}
use Rattle.persist_model.specs.declared.event.Event.TheVariants.{Store}
use Rattle.persist_model.specs.declared.event.Candidate.{Candidate}
use Rattle.persist_model.specs.Region.{Words, Region, candidate, IsCandidate, newest, after}
use Rattle.persist_model.specs.Progress.{Write, write, latest}
use Rattle.persist_model.specs.Records.{IsAmong, Has, HasNo, IsUpdate, IsRunning}
use Rattle.persist_model.specs.Standing.{IsToUndo, IsToDelete, Stands}
use Rattle.persist_model.specs.Shape.{Shape, IsHeapWord}
use Rattle.persist_model.specs.State.{State}
use Rattle.persist_model.proofs.Candidates.{newest-push, IsCandidate_newest}
use Rattle.persist_model.proofs.Images.{at-with_word, at-with_word_other}
use Rattle.persist_model.proofs.Tracking.{latest-pushed, latest-push_other}
use Rattle.log_laws.proofs.Standings.{stands_stored}
use Rattle.plan_records.proofs.OwnRecords.{to_undo_among}
use Rattle.log_keeper.proofs.EventsPass.{events_pass, heap_events_pass}
use Rattle.history_laws.specs.Histories.{fold}
use Rattle.txn_laws.specs.Txns.{Txn, txn_at, with_txn, written}
use Rattle.txn_laws.specs.Owners.{IsMine, AreOwners}
use Rattle.txn_laws.specs.AreTransactions.{recorded, IsGoing, IsTransaction}
use Rattle.txn_laws.specs.Worlds.{World, IsLogOf}
use Rattle.txn_laws.specs.Stores.{IsBetween}
use Rattle.txn_laws.proofs.Lanes.{by_lane, IsFound, now_found, owners_same, nobodys_same, parts_rest}
use Rattle.txn_laws.proofs.Storing.{among_push, got_of_take, among_got, taken_less, some_taken, update_of}
use Rattle.redo_laws.specs.Worlds.{RedoWorld, IsRedoWorldAt}
use Rattle.txn_laws.specs.Flights.{is_flying}
use Rattle.redo_laws.specs.Stores.{dirty_with, with_plain_stored, stored_by, WritesAreStored, WritesAreTakenBack}
use Rattle.redo_laws.proofs.Owned.{not_deleted}
use Rattle.redo_laws.proofs.Reading.{found_here}
use Rattle.redo_laws.proofs.LaneStages.{lane_stays, store_stays}
use Rattle.redo_laws.proofs.LaneTxns.{transactions_with}

abbrev address_at : Option Write → ℕ
address_at None = 0
address_at (Some e) = e.address

module _ (shape : Shape) (base : Words) (s : State) (chains : ℕ → List ℕ) (start_heap : Words) (z : RedoWorld) (region : Region) (world : IsRedoWorldAt shape base s chains start_heap z region)
    (l : ℕ) (between : IsBetween shape z.world l) where
  abbrev w : World
  w = z.world

  abbrev h : Words
  h = fold start_heap w.history

  abbrev x : Txn
  x = txn_at w.lanes l

  module _ (a v : ℕ) (y : Txn) (words_is : y.words ≡ x.words) (number_is : y.number ≡ x.number) (flies : is_flying y ≡ is_flying x) (mine : IsMine x a) (undone : Has (IsToUndo s.log a) s.log)
      (told : IsTransaction shape s.log h y) (runs : x.over ≡ false) (here : v ≡ latest (written y) a (h a))
      (there : (b : ℕ) → a ≢ b → latest (written y) b (h b) ≡ latest (written x) b (h b)) where
    abbrev later : Region
    later = after region l (Store a v)

    at_here : (b : ℕ) → b ≡ a → later.at b ≡ region.at b ++ candidate v 0 ∷ []
    at_here b e = subst (λ c. later.at c ≡ region.at c ++ candidate v 0 ∷ []) (sym e) (at-with_word a (λ cs. cs ++ candidate v 0 ∷ []) region)

    at_other : (b : ℕ) → b ≢ a → later.at b ≡ region.at b
    at_other b ne = at-with_word_other a (λ cs. cs ++ candidate v 0 ∷ []) region b ne

    newest_here : (b : ℕ) → b ≡ a → newest (later.at b) ≡ v
    newest_here b e = ap newest (at_here b e) ∙ newest-push (region.at b) (candidate v 0)

    owners_there : AreOwners shape (with_txn l y w.lanes)
    owners_there = owners_same shape l y w.lanes between.lane words_is world.owners

    was_mine : (b : ℕ) → IsMine y b → IsMine x b
    was_mine b m = subst (λ (f : ℕ → Bool). f b ≡ true) words_is m

    not_theirs : (k b : ℕ) → k ≢ l → IsMine (txn_at w.lanes k) b → b ≢ a
    not_theirs k b ne m e = ne (world.owners.apart k l a (subst (IsMine (txn_at w.lanes k)) e m) mine)

    found_there : IsFound shape s.log h (with_txn l y w.lanes) later
    found_there = record {
      own = λ k b. by_lane (λ j z. IsMine z b → HasNo (IsToDelete s.log b) s.log → newest (later.at b) ≡ latest (written z) b (h b)) l y w.lanes between.lane
          (λ m none. elim (eqb_tells b a) [
            | inl e ↦ newest_here b e.1 ∙ here ∙ sym (ap (λ c. latest (written y) c (h c)) e.1)
            | inr ne ↦ ap newest (at_other b ne.1) ∙ (found_here shape base s chains start_heap z region world).own l b (was_mine b m) none ∙ sym (there b (λ e. ne.1 (sym e)))
          ])
          (λ j ne m none. ap newest (at_other b (not_theirs j b ne m)) ∙ (found_here shape base s chains start_heap z region world).own j b m none) k;
      others = λ b m nobodys none. (
          let was = nobodys_same l y w.lanes b between.lane words_is nobodys in
          ap newest (at_other b (λ e. was l (subst (IsMine x) (sym e) mine))) ∙ (found_here shape base s chains start_heap z region world).others b m was none);
    }

    full_there : (b : ℕ) → IsHeapWord shape b → 0 < length (later.at b)
    full_there b m = elim (eqb_tells b a) [
      | inl e ↦ subst (λ (cs : List Candidate). 0 < length cs) (sym (at_here b e.1)) (pushed (region.at b))
      | inr ne ↦ subst (λ (cs : List Candidate). 0 < length cs) (sym (at_other b ne.1)) (world.heap.full b m)
    ]
      where
        pushed : (cs : List Candidate) → 0 < length (cs ++ candidate v 0 ∷ [])
        pushed [] = omega arith
        pushed (c ∷ cs) = omega arith

    stands_there : (b u : ℕ) → IsHeapWord shape b → IsCandidate (later.at b) u → Stands shape.policy s.log (λ c. u) b (h b)
    stands_there b u m is = elim (eqb_tells b a) [
      | inl e ↦ stands_stored shape.policy s.log (λ c. newest (region.at b)) (λ c. u) b (h b) (inr (inl (subst (λ c. Has (IsToUndo s.log c) s.log) (sym e.1) undone)))
          (world.stands b (newest (region.at b)) m (IsCandidate_newest (region.at b) (world.heap.full b m)))
      | inr ne ↦ world.stands b u m (subst (λ (cs : List Candidate). IsCandidate cs u) (at_other b ne.1) is)
    ]

    log_there : IsLogOf shape base s chains w.keeping w.next later
    log_there = record {
      of_shape = world.log.of_shape;
      header = world.log.header;
      logged = events_pass shape base s chains w.keeping region l (Store a v)
          (heap_events_pass shape w.keeping l (Store a v) world.log.logged.allowed (world.owners.heap_words l a mine).0) world.log.logged;
      sound = world.log.sound;
      ordered = world.log.ordered;
      fits = world.log.fits;
      numbers = world.log.numbers;
    }

    free : HasNo (IsToDelete s.log a) s.log
    free = not_deleted shape s.log h w.lanes world.owners world.transactions l a mine ((world.transactions.each l).going runs).running

    pub stored_there : IsRedoWorldAt shape base s chains start_heap (stored_by l a y z) later
    stored_there = record {
      no_force = world.no_force;
      log = log_there;
      spare = world.spare;
      owners = owners_there;
      transactions = transactions_with shape s.log h w.lanes l y between.lane words_is number_is told world.transactions;
      heap = record { full = full_there; now = now_found shape s.log h (with_txn l y w.lanes) later owners_there found_there };
      stands = stands_there;
      stage = lane_stays shape s h w (dirty_with a z.dirty) later l y between.lane (λ off. flies ∙ off)
          (λ p lt part. parts_rest shape s h w.keeping l y w.lanes p (w.under p) between.lane lt between.resting part)
          z.checkpoint (store_stays shape s h w z.dirty region l a v undone free z.checkpoint world.stage);
    }

  -- ---- the writes

  module _ (runs : x.over ≡ false) where
    going : IsGoing s.log h x
    going = (world.transactions.each l).going runs

    -- another number of stored writes, all covered
    told_stored : (n : ℕ) → ((e : Write) → IsAmong (take n x.writes) e → Has (λ r. IsUpdate r × (r.word ≡ e.address) × (r.transaction ≡ x.number)) s.log) →
        IsTransaction shape s.log h (with_plain_stored n x)
    told_stored n all = record {
      in_part = (world.transactions.each l).in_part;
      going = λ on. record {
        running = going.running;
        to_undo_is = going.to_undo_is;
        point_is = going.point_is;
        rolled_is = going.rolled_is;
        rolled_has = going.rolled_has;
        updates_are = going.updates_are;
        changed = going.changed;
        unchanged = going.unchanged;
        covered = all;
        unzeroed = going.unzeroed;
        writes_own = going.writes_own;
      };
      ended = λ over. (let e = sym runs ∙ over in cc);
      deletions = (world.transactions.each l).deletions;
      given = (world.transactions.each l).given;
      gifts_own = (world.transactions.each l).gifts_own;
      names = (world.transactions.each l).names;
    }

    undone_of : (a : ℕ) → Has (λ r. IsUpdate r × (r.word ≡ a) × (r.transaction ≡ x.number)) s.log → Has (IsToUndo s.log a) s.log
    undone_of a u = (u.0, u.1, (u.2.0, u.2.1, subst (IsRunning s.log) (sym u.2.2) going.running))

    written_is : (n : ℕ) → written (with_plain_stored n x) ≡ take n x.writes
    written_is n = rw runs refl

    written_was : written x ≡ take x.stored x.writes
    written_was = rw runs refl

    module _ (a v : ℕ) (next : slice_get (recorded x) x.stored ≡ Some (write a v)) where
      next_write : slice_get x.writes x.stored ≡ Some (write a v)
      next_write = got_of_take x.writes (length x.updates) x.stored (write a v) next

      below : x.stored < length x.updates
      below = short x.writes (length x.updates) x.stored (slice_get_within (recorded x) x.stored (write a v) next)
        where
          short : (writes : List Write) (m k : ℕ) → k < length (take m writes) → k < m
          short writes zero k lt = lt
          short [] (suc m) k lt = absurd (omega (arith, lt))
          short (e ∷ writes) (suc m) zero lt = omega arith
          short (e ∷ writes) (suc m) (suc k) lt = let less = short writes m k (omega (arith, lt)) in omega (arith, less)

      own_update : Has (λ r. IsUpdate r × (r.word ≡ a) × (r.transaction ≡ x.number)) s.log
      own_update =
          let u = update_of h x.writes x.updates x.stored below going.updates_are in
          let k = to_undo_among x.number s.log u.0 (subst (λ us. IsAmong us u.0) (sym going.to_undo_is) u.1) in
          (u.0, k.0, (k.1, sym (ap address_at (sym next_write ∙ u.2)), k.2))

      more : take (x.stored + 1) x.writes ≡ take x.stored x.writes ++ write a v ∷ []
      more = some_taken x.writes x.stored (write a v) next_write

      pub written_there : IsRedoWorldAt shape base s chains start_heap (stored_by l a (with_plain_stored (x.stored + 1) x) z) (after region l (Store a v))
      written_there = stored_there a v (with_plain_stored (x.stored + 1) x) refl refl refl (going.writes_own (write a v) (among_got x.writes x.stored (write a v) next_write)) (undone_of a own_update)
          (told_stored (x.stored + 1) (λ e m. elim (among_push (take x.stored x.writes) (write a v) e (subst (λ ws. IsAmong ws e) more m)) [
            | inl k ↦ going.covered e k
            | inr same ↦ subst (λ (z : Write). Has (λ r. IsUpdate r × (r.word ≡ z.address) × (r.transaction ≡ x.number)) s.log) (sym same) own_update
          ]))
          runs
          (sym (ap (λ ws. latest ws a (h a)) (written_is (x.stored + 1) ∙ more) ∙ latest-pushed (take x.stored x.writes) a v (h a)))
          (λ b ne. ap (λ ws. latest ws b (h b)) (written_is (x.stored + 1) ∙ more) ∙ latest-push_other (take x.stored x.writes) a v b (h b) ne ∙ sym (ap (λ ws. latest ws b (h b)) written_was))

    module _ (a v u : ℕ) (one_more : x.stored ≡ length x.updates + 1) (last : slice_get x.writes (length x.updates) ≡ Some (write a u)) (value : v ≡ latest (recorded x) a (h a)) where
      whole : take x.stored x.writes ≡ recorded x ++ write a u ∷ []
      whole = ap (λ n. take n x.writes) one_more ∙ some_taken x.writes (length x.updates) (write a u) last

      covered_was : Has (λ r. IsUpdate r × (r.word ≡ a) × (r.transaction ≡ x.number)) s.log
      covered_was = going.covered (write a u) (subst (λ ws. IsAmong ws (write a u)) (sym whole) (ends (recorded x)))
        where
          ends : (ws : List Write) → IsAmong (ws ++ write a u ∷ []) (write a u)
          ends [] = inl refl
          ends (e ∷ ws) = inr (ends ws)

      pub taken_there : IsRedoWorldAt shape base s chains start_heap (stored_by l a (with_plain_stored (length x.updates) x) z) (after region l (Store a v))
      taken_there = stored_there a v (with_plain_stored (length x.updates) x) refl refl refl (going.writes_own (write a u) (among_got x.writes (length x.updates) (write a u) last)) (undone_of a covered_was)
          (told_stored (length x.updates) (λ e m. going.covered e (taken_less x.writes (length x.updates) x.stored e (omega (arith, one_more)) m)))
          runs
          (value ∙ sym (ap (λ ws. latest ws a (h a)) (written_is (length x.updates))))
          (λ b ne. ap (λ ws. latest ws b (h b)) (written_is (length x.updates)) ∙ sym (ap (λ ws. latest ws b (h b)) (written_was ∙ whole) ∙ latest-push_other (recorded x) a u b (h b) ne))

pub writes_are_stored : WritesAreStored
writes_are_stored shape base s chains start_heap z region l a v runs next between world = written_there shape base s chains start_heap z region world l between runs a v next

pub writes_are_taken_back : WritesAreTakenBack
writes_are_taken_back shape base s chains start_heap z region l a v u runs one_more last value between world =
    taken_there shape base s chains start_heap z region world l between runs a v u one_more last value
