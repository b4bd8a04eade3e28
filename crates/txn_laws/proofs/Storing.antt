-- Stores to a lane's own words, and fences, between the parts of the log.
use Rattle.std.proofs.Common.{◌≡◌, ◌≢◌, ◌⊎◌, inl, inr, ℕ, zero, suc, ◌+◌, ◌<◌, ◌≤◌, Bool, true, false, Option, Some, None, List, [], ◌∷◌, ◌++◌, length, take, map, refl, sym, ap, ◌∙◌, subst, arith}
use Rattle.std.specs.Prelude.{slice_get}
use Rattle.std.proofs.lemmas.Bool.Decides.{eqb_tells}
use Rattle.std.proofs.lemmas.Option.{slice_get_within}
use Rattle.persist_model.specs.declared.event.Event.TheVariants.{PStore, Fence}
use Rattle.persist_model.specs.declared.event.Candidate.{Candidate}
use Rattle.persist_model.specs.Region.{Words, Region, candidate, IsCandidate, newest, after, fenced, has_mark, unmarked, from_last}
use Rattle.persist_model.specs.Progress.{Write, write, latest, advance, Tracks}
use Rattle.persist_model.specs.Records.{Record, IsAmong, Has, HasNo, IsUpdate, IsRunning, IsCommitted}
use Rattle.persist_model.specs.Standing.{IsToDelete, Stands}
use Rattle.persist_model.specs.Shape.{Shape, IsHeapWord}
use Rattle.persist_model.specs.State.{State}
use Rattle.persist_model.proofs.Candidates.{newest-push, IsCandidate_newest, IsCandidate-fenced, newest-fenced, some-from_last}
use Rattle.persist_model.proofs.Images.{at-with_word, at-with_word_other}
use Rattle.persist_model.proofs.Running.{take_one_more}
use Rattle.persist_model.proofs.Tracking.{Wrote-push_other, latest-pushed, latest-push_other, Tracks-event, Tracks-aside}
use Rattle.log_laws.specs.Recovery.{HasDecidingRecord}
use Rattle.log_laws.proofs.Standings.{stands_stored}
use Rattle.plan_records.proofs.OwnRecords.{to_undo_among}
use Rattle.log_keeper.specs.Parts.{LogPart, rests, appends as adds, closes as shuts, takes_back as drops_deletions, drops as takes_out, waits_for}
use Rattle.log_keeper.specs.Logged.{Keeping, waiting}
use Rattle.log_keeper.proofs.EventsPass.{events_pass, heap_events_pass, fences_pass}
use Rattle.history_laws.specs.Histories.{fold}
use Rattle.history_laws.proofs.Owning.{deletion_of}
use Rattle.txn_laws.specs.Txns.{Gift, Txn, txn_at, with_txn, written}
use Rattle.txn_laws.specs.Owners.{IsMine, AreOwners}
use Rattle.txn_laws.specs.Heaps.{IsKept}
use Rattle.txn_laws.specs.AreTransactions.{AreUpdatesOf, recorded, IsGoing, IsTransaction}
use Rattle.txn_laws.specs.PartsOf.{IsResting}
use Rattle.txn_laws.specs.Worlds.{World, with_lane, IsLogOf, IsWorldAt}
use Rattle.txn_laws.specs.Stores.{IsBetween, with_stored, with_zeroed, with_fence, WritesAreStored, WritesAreTakenBack, GiftsAreZeroed, FencesKeep}
use Rattle.txn_laws.proofs.Lanes.{by_lane, IsFound, now_found, owners_same, nobodys_same, numbers_same, numbers_changed, known_same, parts_rest}
use Rattle.txn_laws.proofs.Beginning.{found_here}

-- ---- lists of writes

pub among_push : {A : Type 0} (xs : List A) (y x : A) → IsAmong (xs ++ y ∷ []) x → IsAmong xs x ⊎ (x ≡ y)
among_push [] y x (inl e) = inr e
among_push [] y x (inr m) = absurd m
among_push (z ∷ xs) y x (inl e) = inl (inl e)
among_push (z ∷ xs) y x (inr m) = elim (among_push xs y x m) [ inl k ↦ inl (inr k) | inr e ↦ inr e ]

pub got_of_take : {A : Type 0} (xs : List A) (m k : ℕ) (x : A) → slice_get (take m xs) k ≡ Some x → slice_get xs k ≡ Some x
got_of_take xs zero k x e = cc
got_of_take [] (suc m) k x e = cc
got_of_take (y ∷ xs) (suc m) zero x e = e
got_of_take (y ∷ xs) (suc m) (suc k) x e = got_of_take xs m k x e

pub among_got : {A : Type 0} (xs : List A) (k : ℕ) (x : A) → slice_get xs k ≡ Some x → IsAmong xs x
among_got [] k x e = cc
among_got (y ∷ xs) zero x e = let same : y ≡ x = cc in inl (sym same)
among_got (y ∷ xs) (suc k) x e = inr (among_got xs k x e)

pub among_taken : {A : Type 0} (xs : List A) (m : ℕ) (x : A) → IsAmong (take m xs) x → IsAmong xs x
among_taken xs zero x m = absurd m
among_taken [] (suc n) x m = absurd m
among_taken (y ∷ xs) (suc n) x (inl e) = inl e
among_taken (y ∷ xs) (suc n) x (inr m) = inr (among_taken xs n x m)

pub taken_less : {A : Type 0} (xs : List A) (m n : ℕ) (x : A) → m ≤ n → IsAmong (take m xs) x → IsAmong (take n xs) x
taken_less xs zero n x le k = absurd k
taken_less xs (suc m) zero x le k = absurd (omega (arith, le))
taken_less [] (suc m) (suc n) x le k = absurd k
taken_less (y ∷ xs) (suc m) (suc n) x le (inl e) = inl e
taken_less (y ∷ xs) (suc m) (suc n) x le (inr k) = inr (taken_less xs m n x (omega (arith, le)) k)

pub some_taken : {A : Type 0} (xs : List A) (n : ℕ) (y : A) → slice_get xs n ≡ Some y → take (n + 1) xs ≡ take n xs ++ y ∷ []
some_taken xs n y e = let next : n + 1 ≡ suc n = omega arith in rw next (take_one_more xs n y e)

-- the update of a recorded write
pub update_of : (h : Words) (writes : List Write) (updates : List Record) (n : ℕ) → n < length updates → AreUpdatesOf h writes updates →
    (u : Record) × IsAmong updates u × (slice_get writes n ≡ Some (write u.word u.after))
update_of h writes [] n lt each = absurd (omega (arith, lt))
update_of h writes (u ∷ updates) n lt each = elim (eqb_tells n (length updates)) [
  | inl e ↦ (u, inl refl, ap (slice_get writes) e.1 ∙ each.0.of_write)
  | inr ne ↦ (let other = ne.1 in let k = update_of h writes updates n (omega (arith, lt, other)) each.1 in (k.0, inr k.1, k.2))
]

abbrev address_of : Option Write → ℕ
address_of None = 0
address_of (Some e) = e.address

same_address : (a b v u : ℕ) → Some (write a v) ≡ Some (write b u) → a ≡ b
same_address a b v u e = ap address_of e

pub fenced_some : (mark : ℕ) (cs : List Candidate) → 0 < length cs → 0 < length (fenced mark cs)
fenced_some mark cs some = mapped (from_last (has_mark mark) cs) (some-from_last (has_mark mark) cs some)
  where
    mapped : (ds : List Candidate) → 0 < length ds → 0 < length (map (unmarked mark) ds)
    mapped [] lt = lt
    mapped (d ∷ ds) lt = omega arith

-- no partition waits for a lane between its parts
not_waited : (shape : Shape) (k : Keeping) (l p : ℕ) → l < 17 → IsResting shape k l → p < shape.partitions → waiting k p ≢ l
not_waited shape k l p few resting lt e = by (k.runs p).part refl e
  where
    held : (part : LogPart) → (k.runs p).part ≡ part → k.holder p ≡ l → part ≡ rests
    held part is at = sym is ∙ resting p lt at

    by : (part : LogPart) → (k.runs p).part ≡ part → waits_for part (k.holder p) ≡ l → ⊥
    by rests is e = omega (arith, e, few)
    by (adds place r) is e = let f = held (adds place r) is e in cc
    by (shuts gates ends checkpoints) is e = let f = held (shuts gates ends checkpoints) is e in cc
    by (drops_deletions gates) is e = let f = held (drops_deletions gates) is e in cc
    by (takes_out r) is e = let f = held (takes_out r) is e in cc

module _ (shape : Shape) (base : Words) (s : State) (chains : ℕ → List ℕ) (start_heap : Words) (w : World) (region : Region) (world : IsWorldAt shape base s chains start_heap w region)
    (l : ℕ) (between : IsBetween shape w l) where
  abbrev h : Words
  h = fold start_heap w.history

  abbrev x : Txn
  x = txn_at w.lanes l

  -- ---- a store

  module _ (a v : ℕ) (y : Txn) (words_is : y.words ≡ x.words) (number_is : y.number ≡ x.number) (mine : IsMine x a) (covered : HasDecidingRecord shape.policy s.log a)
      (told : IsTransaction shape s.log h y) (unfenced : y.fenced ≡ false) (here : HasNo (IsToDelete s.log a) s.log → v ≡ latest (written y) a (h a))
      (there : (b : ℕ) → a ≢ b → latest (written y) b (h b) ≡ latest (written x) b (h b))
      (zeros : (g : Gift) → y.over ≡ true → IsAmong (take y.zeroed y.gifts) g → (g.word ≡ a → v ≡ 0) × (g.word ≢ a → newest (region.at g.word) ≡ 0)) where
    abbrev later : Region
    later = after region l (PStore a v)

    at_here : (b : ℕ) → b ≡ a → later.at b ≡ region.at b ++ candidate v (l + 1) ∷ []
    at_here b e = subst (λ c. later.at c ≡ region.at c ++ candidate v (l + 1) ∷ []) (sym e) (at-with_word a (λ cs. cs ++ candidate v (l + 1) ∷ []) region)

    at_other : (b : ℕ) → b ≢ a → later.at b ≡ region.at b
    at_other b ne = at-with_word_other a (λ cs. cs ++ candidate v (l + 1) ∷ []) region b ne

    newest_here : (b : ℕ) → b ≡ a → newest (later.at b) ≡ v
    newest_here b e = ap newest (at_here b e) ∙ newest-push (region.at b) (candidate v (l + 1))

    owners_there : AreOwners shape (with_txn l y w.lanes)
    owners_there = owners_same shape l y w.lanes between.lane words_is world.owners

    was_mine : (b : ℕ) → IsMine y b → IsMine x b
    was_mine b m = subst (λ (f : ℕ → Bool). f b ≡ true) words_is m

    not_theirs : (k b : ℕ) → k ≢ l → IsMine (txn_at w.lanes k) b → b ≢ a
    not_theirs k b ne m e = ne (world.owners.apart k l a (subst (IsMine (txn_at w.lanes k)) e m) mine)

    found_there : IsFound shape s.log h (with_txn l y w.lanes) later
    found_there = record {
      own = λ k b. by_lane (λ j z. IsMine z b → HasNo (IsToDelete s.log b) s.log → newest (later.at b) ≡ latest (written z) b (h b)) l y w.lanes between.lane
          (λ m none. elim (eqb_tells b a) [
            | inl e ↦ newest_here b e.1 ∙ here (subst (λ c. HasNo (IsToDelete s.log c) s.log) e.1 none) ∙ sym (ap (λ c. latest (written y) c (h c)) e.1)
            | inr ne ↦ ap newest (at_other b ne.1) ∙ (found_here shape base s chains start_heap w region world).own l b (was_mine b m) none ∙ sym (there b (λ e. ne.1 (sym e)))
          ])
          (λ j ne m none. ap newest (at_other b (not_theirs j b ne m)) ∙ (found_here shape base s chains start_heap w region world).own j b m none) k;
      others = λ b m nobodys none. (
          let was = nobodys_same l y w.lanes b between.lane words_is nobodys in
          ap newest (at_other b (λ e. was l (subst (IsMine x) (sym e) mine))) ∙ (found_here shape base s chains start_heap w region world).others b m was none);
    }

    full_there : (b : ℕ) → IsHeapWord shape b → 0 < length (later.at b)
    full_there b m = elim (eqb_tells b a) [
      | inl e ↦ subst (λ (cs : List Candidate). 0 < length cs) (sym (at_here b e.1)) (pushed (region.at b))
      | inr ne ↦ subst (λ (cs : List Candidate). 0 < length cs) (sym (at_other b ne.1)) (world.heap.full b m)
    ]
      where
        pushed : (cs : List Candidate) → 0 < length (cs ++ candidate v (l + 1) ∷ [])
        pushed [] = omega arith
        pushed (c ∷ cs) = omega arith

    stands_there : (b u : ℕ) → IsHeapWord shape b → IsCandidate (later.at b) u → Stands shape.policy s.log (λ c. u) b (h b)
    stands_there b u m is = elim (eqb_tells b a) [
      | inl e ↦ stands_stored shape.policy s.log (λ c. newest (region.at b)) (λ c. u) b (h b) (inr (subst (HasDecidingRecord shape.policy s.log) (sym e.1) covered))
          (world.stands b (newest (region.at b)) m (IsCandidate_newest (region.at b) (world.heap.full b m)))
      | inr ne ↦ world.stands b u m (subst (λ (cs : List Candidate). IsCandidate cs u) (at_other b ne.1) is)
    ]

    kept_there : IsKept l y later
    kept_there = record {
      progress = advance (world.kept l).progress (PStore a v);
      tracks = subst (λ (f : ℕ → Bool). Tracks (λ b. f b ≡ true) l (advance (world.kept l).progress (PStore a v)) later) (sym words_is)
          (Tracks-event (IsMine x) l (world.kept l).progress region (PStore a v) tt (world.kept l).tracks);
      own = λ b u k. elim (eqb_tells a b) [
        | inl e ↦ subst (λ (f : ℕ → Bool). f b ≡ true) (sym words_is) (subst (IsMine x) e.1 mine)
        | inr ne ↦ subst (λ (f : ℕ → Bool). f b ≡ true) (sym words_is) ((world.kept l).own b u (Wrote-push_other (world.kept l).progress.pending a v b u ne.1 k))
      ];
      fenced = λ on b u k. (let e = sym unfenced ∙ on in cc);
    }

    log_there : IsLogOf shape base s chains w.keeping w.next later
    log_there = record {
      of_shape = world.log.of_shape;
      header = world.log.header;
      logged = events_pass shape base s chains w.keeping region l (PStore a v)
          (heap_events_pass shape w.keeping l (PStore a v) world.log.logged.allowed (world.owners.heap_words l a mine).0) world.log.logged;
      sound = world.log.sound;
      ordered = world.log.ordered;
      fits = world.log.fits;
      numbers = world.log.numbers;
    }

    pub stored_there : IsWorldAt shape base s chains start_heap (with_lane l y w) later
    stored_there = record {
      force = world.force;
      log = log_there;
      owners = owners_there;
      transactions = record {
        each = by_lane (λ j z. IsTransaction shape s.log h z) l y w.lanes between.lane told (λ j ne. world.transactions.each j);
        known = λ r m. known_same l y w.lanes r between.lane number_is (world.transactions.known r m);
        apart = numbers_changed l y w.lanes between.lane (numbers_same l y w.lanes number_is world.transactions.apart) world.transactions.apart;
      };
      heap = record {
        full = full_there;
        now = now_found shape s.log h (with_txn l y w.lanes) later owners_there found_there;
        found = λ k g. by_lane (λ j z. z.over ≡ true → IsAmong (take z.zeroed z.gifts) g → newest (later.at g.word) ≡ 0) l y w.lanes between.lane
            (λ over m. (
            let z = zeros g over m in
            elim (eqb_tells g.word a) [ inl e ↦ newest_here g.word e.1 ∙ z.0 e.1 | inr ne ↦ ap newest (at_other g.word ne.1) ∙ z.1 ne.1 ]))
            (λ j ne over m. ap newest (at_other g.word (not_theirs j g.word ne ((world.transactions.each j).gifts_own g (among_taken (txn_at w.lanes j).gifts (txn_at w.lanes j).zeroed g m)))) ∙ world.heap.found j g over m) k;
      };
      kept = by_lane (λ j z. IsKept j z later) l y w.lanes between.lane kept_there (λ j ne. record {
        progress = (world.kept j).progress;
        tracks = Tracks-aside (IsMine (txn_at w.lanes j)) j l (world.kept j).progress region (PStore a v) (λ m. not_theirs j a ne m refl) (world.kept j).tracks;
        own = (world.kept j).own;
        fenced = (world.kept j).fenced;
      });
      stands = stands_there;
      parts = λ p lt. parts_rest shape s h w.keeping l y w.lanes p (w.under p) between.lane lt between.resting (world.parts p lt);
    }

  -- ---- the writes

  module _ (runs : x.over ≡ false) where
    going : IsGoing s.log h x
    going = (world.transactions.each l).going runs

    -- another number of stored writes, all covered
    told_stored : (n : ℕ) → ((e : Write) → IsAmong (take n x.writes) e → Has (λ r. IsUpdate r × (r.word ≡ e.address) × (r.transaction ≡ x.number)) s.log) →
        IsTransaction shape s.log h (with_stored n x)
    told_stored n all = record {
      in_part = (world.transactions.each l).in_part;
      going = λ on. record {
        running = going.running;
        to_undo_is = going.to_undo_is;
        point_is = going.point_is;
        rolled_is = going.rolled_is;
        rolled_has = going.rolled_has;
        updates_are = going.updates_are;
        changed = going.changed;
        unchanged = going.unchanged;
        covered = all;
        unzeroed = going.unzeroed;
        writes_own = going.writes_own;
      };
      ended = λ over. (let e = sym runs ∙ over in cc);
      deletions = (world.transactions.each l).deletions;
      given = (world.transactions.each l).given;
      gifts_own = (world.transactions.each l).gifts_own;
      names = (world.transactions.each l).names;
    }

    decided_of : (a : ℕ) → Has (λ r. IsUpdate r × (r.word ≡ a) × (r.transaction ≡ x.number)) s.log → HasDecidingRecord shape.policy s.log a
    decided_of a u = inl (u.0, u.1, (u.2.0, u.2.1, subst (IsRunning s.log) (sym u.2.2) going.running))

    no_zeros : (a v n : ℕ) (g : Gift) → (with_stored n x).over ≡ true → IsAmong (take x.zeroed x.gifts) g → (g.word ≡ a → v ≡ 0) × (g.word ≢ a → newest (region.at g.word) ≡ 0)
    no_zeros a v n g over m = let e = sym runs ∙ over in cc

    written_is : (n : ℕ) → written (with_stored n x) ≡ take n x.writes
    written_is n = rw runs refl

    written_was : written x ≡ take x.stored x.writes
    written_was = rw runs refl

    module _ (a v : ℕ) (next : slice_get (recorded x) x.stored ≡ Some (write a v)) where
      next_write : slice_get x.writes x.stored ≡ Some (write a v)
      next_write = got_of_take x.writes (length x.updates) x.stored (write a v) next

      below : x.stored < length x.updates
      below = short x.writes (length x.updates) x.stored (slice_get_within (recorded x) x.stored (write a v) next)
        where
          short : (writes : List Write) (m k : ℕ) → k < length (take m writes) → k < m
          short writes zero k lt = lt
          short [] (suc m) k lt = absurd (omega (arith, lt))
          short (e ∷ writes) (suc m) zero lt = omega arith
          short (e ∷ writes) (suc m) (suc k) lt = let less = short writes m k (omega (arith, lt)) in omega (arith, less)

      own_update : Has (λ r. IsUpdate r × (r.word ≡ a) × (r.transaction ≡ x.number)) s.log
      own_update =
          let u = update_of h x.writes x.updates x.stored below going.updates_are in
          let k = to_undo_among x.number s.log u.0 (subst (λ us. IsAmong us u.0) (sym going.to_undo_is) u.1) in
          (u.0, k.0, (k.1, sym (same_address a u.0.word v u.0.after (sym next_write ∙ u.2)), k.2))

      more : take (x.stored + 1) x.writes ≡ take x.stored x.writes ++ write a v ∷ []
      more = some_taken x.writes x.stored (write a v) next_write

      pub written_there : IsWorldAt shape base s chains start_heap (with_lane l (with_stored (x.stored + 1) x) w) (after region l (PStore a v))
      written_there = stored_there a v (with_stored (x.stored + 1) x) refl refl (going.writes_own (write a v) (among_got x.writes x.stored (write a v) next_write)) (decided_of a own_update)
          (told_stored (x.stored + 1) (λ e m. elim (among_push (take x.stored x.writes) (write a v) e (subst (λ ws. IsAmong ws e) more m)) [
            | inl k ↦ going.covered e k
            | inr same ↦ subst (λ (z : Write). Has (λ r. IsUpdate r × (r.word ≡ z.address) × (r.transaction ≡ x.number)) s.log) (sym same) own_update
          ]))
          refl
          (λ none. sym (ap (λ ws. latest ws a (h a)) (written_is (x.stored + 1) ∙ more) ∙ latest-pushed (take x.stored x.writes) a v (h a)))
          (λ b ne. ap (λ ws. latest ws b (h b)) (written_is (x.stored + 1) ∙ more) ∙ latest-push_other (take x.stored x.writes) a v b (h b) ne ∙ sym (ap (λ ws. latest ws b (h b)) written_was))
          (no_zeros a v (x.stored + 1))

    module _ (a v u : ℕ) (one_more : x.stored ≡ length x.updates + 1) (last : slice_get x.writes (length x.updates) ≡ Some (write a u)) (value : v ≡ latest (recorded x) a (h a)) where
      whole : take x.stored x.writes ≡ recorded x ++ write a u ∷ []
      whole = ap (λ n. take n x.writes) one_more ∙ some_taken x.writes (length x.updates) (write a u) last

      covered_was : Has (λ r. IsUpdate r × (r.word ≡ a) × (r.transaction ≡ x.number)) s.log
      covered_was = going.covered (write a u) (subst (λ ws. IsAmong ws (write a u)) (sym whole) (ends (recorded x)))
        where
          ends : (ws : List Write) → IsAmong (ws ++ write a u ∷ []) (write a u)
          ends [] = inl refl
          ends (e ∷ ws) = inr (ends ws)

      pub taken_there : IsWorldAt shape base s chains start_heap (with_lane l (with_stored (length x.updates) x) w) (after region l (PStore a v))
      taken_there = stored_there a v (with_stored (length x.updates) x) refl refl (going.writes_own (write a u) (among_got x.writes (length x.updates) (write a u) last)) (decided_of a covered_was)
          (told_stored (length x.updates) (λ e m. going.covered e (taken_less x.writes (length x.updates) x.stored e (omega (arith, one_more)) m)))
          refl
          (λ none. value ∙ sym (ap (λ ws. latest ws a (h a)) (written_is (length x.updates))))
          (λ b ne. ap (λ ws. latest ws b (h b)) (written_is (length x.updates)) ∙ sym (ap (λ ws. latest ws b (h b)) (written_was ∙ whole) ∙ latest-push_other (recorded x) a u b (h b) ne))
          (no_zeros a v (length x.updates))

  -- ---- the gifts

  module _ (over : x.over ≡ true) (commits : x.commits ≡ true) (g : Gift) (next : slice_get x.gifts x.zeroed ≡ Some g) where
    t : IsTransaction shape s.log h x
    t = world.transactions.each l

    among : IsAmong x.gifts g
    among = among_got x.gifts x.zeroed g next

    deleted_is : Has (IsToDelete s.log g.word) s.log
    deleted_is = let d = t.given g among in
        (d.0, d.1, (d.2.0.0, d.2.0.1, subst (IsCommitted s.log) (sym d.2.0.2) ((t.ended over).committed commits (d.0, d.1, deletion_of x.number g.word d.0 d.2.0))))

    written_none : written x ≡ []
    written_none = rw over refl

    pub zeroed_there : IsWorldAt shape base s chains start_heap (with_lane l (with_zeroed (x.zeroed + 1) x) w) (after region l (PStore g.word 0))
    zeroed_there = stored_there g.word 0 (with_zeroed (x.zeroed + 1) x) refl refl (t.gifts_own g among) (inr (inl deleted_is))
        (record {
          in_part = t.in_part;
          going = λ runs. (let e = sym over ∙ runs in cc);
          ended = λ on. record { has_end = (t.ended over).has_end; committed = (t.ended over).committed; commits_is = (t.ended over).commits_is };
          deletions = t.deletions;
          given = t.given;
          gifts_own = t.gifts_own;
          names = t.names;
        })
        refl
        (λ none. absurd (none deleted_is.0 deleted_is.1 deleted_is.2))
        (λ b ne. rw over refl)
        (λ f on m. (
          (λ e. refl),
          λ ne. elim (among_push (take x.zeroed x.gifts) g f (subst (λ gs. IsAmong gs f) (some_taken x.gifts x.zeroed g next) m)) [
            | inl k ↦ world.heap.found l f over k
            | inr same ↦ absurd (ne (ap (λ (z : Gift). z.word) same))
          ],
        ))

  -- ---- a fence

  abbrev behind : Region
  behind = after region l Fence

  abbrev fenced_txn : Txn
  fenced_txn = with_fence x

  owners_fenced : AreOwners shape (with_txn l fenced_txn w.lanes)
  owners_fenced = owners_same shape l fenced_txn w.lanes between.lane refl world.owners

  newest_fenced : (a : ℕ) → newest (behind.at a) ≡ newest (region.at a)
  newest_fenced a = newest-fenced (l + 1) (region.at a)

  told_fenced : IsTransaction shape s.log h fenced_txn
  told_fenced = let t = world.transactions.each l in record {
    in_part = t.in_part;
    going = λ runs. (let g = t.going runs in record {
      running = g.running;
      to_undo_is = g.to_undo_is;
      point_is = g.point_is;
      rolled_is = g.rolled_is;
      rolled_has = g.rolled_has;
      updates_are = g.updates_are;
      changed = g.changed;
      unchanged = g.unchanged;
      covered = g.covered;
      unzeroed = g.unzeroed;
      writes_own = g.writes_own;
    });
    ended = λ over. record { has_end = (t.ended over).has_end; committed = (t.ended over).committed; commits_is = (t.ended over).commits_is };
    deletions = t.deletions;
    given = t.given;
    gifts_own = t.gifts_own;
    names = t.names;
  }

  found_fenced : IsFound shape s.log h (with_txn l fenced_txn w.lanes) behind
  found_fenced = record {
    own = λ k a. by_lane (λ j z. IsMine z a → HasNo (IsToDelete s.log a) s.log → newest (behind.at a) ≡ latest (written z) a (h a)) l fenced_txn w.lanes between.lane
        (λ m none. newest_fenced a ∙ (found_here shape base s chains start_heap w region world).own l a m none)
        (λ j ne m none. newest_fenced a ∙ (found_here shape base s chains start_heap w region world).own j a m none) k;
    others = λ a m nobodys none. newest_fenced a ∙ (found_here shape base s chains start_heap w region world).others a m (nobodys_same l fenced_txn w.lanes a between.lane refl nobodys) none;
  }

  pub fenced_there : IsWorldAt shape base s chains start_heap (with_lane l fenced_txn w) behind
  fenced_there = record {
    force = world.force;
    log = record {
      of_shape = world.log.of_shape;
      header = world.log.header;
      logged = events_pass shape base s chains w.keeping region l Fence
          (fences_pass shape w.keeping l between.few (λ p lt. not_waited shape w.keeping l p between.few between.resting lt)) world.log.logged;
      sound = world.log.sound;
      ordered = world.log.ordered;
      fits = world.log.fits;
      numbers = world.log.numbers;
    };
    owners = owners_fenced;
    transactions = record {
      each = by_lane (λ j z. IsTransaction shape s.log h z) l fenced_txn w.lanes between.lane told_fenced (λ j ne. world.transactions.each j);
      known = λ r m. known_same l fenced_txn w.lanes r between.lane refl (world.transactions.known r m);
      apart = numbers_changed l fenced_txn w.lanes between.lane (numbers_same l fenced_txn w.lanes refl world.transactions.apart) world.transactions.apart;
    };
    heap = record {
      full = λ a m. fenced_some (l + 1) (region.at a) (world.heap.full a m);
      now = now_found shape s.log h (with_txn l fenced_txn w.lanes) behind owners_fenced found_fenced;
      found = λ k g. by_lane (λ j z. z.over ≡ true → IsAmong (take z.zeroed z.gifts) g → newest (behind.at g.word) ≡ 0) l fenced_txn w.lanes between.lane
          (λ over m. newest_fenced g.word ∙ world.heap.found l g over m) (λ j ne over m. newest_fenced g.word ∙ world.heap.found j g over m) k;
    };
    kept = by_lane (λ j z. IsKept j z behind) l fenced_txn w.lanes between.lane
        (record {
          progress = advance (world.kept l).progress Fence;
          tracks = Tracks-event (IsMine x) l (world.kept l).progress region Fence tt (world.kept l).tracks;
          own = λ a v k. absurd k;
          fenced = λ on a v k. absurd k;
        })
        (λ j ne. record {
          progress = (world.kept j).progress;
          tracks = Tracks-aside (IsMine (txn_at w.lanes j)) j l (world.kept j).progress region Fence (λ e. ne (sym e)) (world.kept j).tracks;
          own = (world.kept j).own;
          fenced = (world.kept j).fenced;
        });
    stands = λ a u m is. world.stands a u m (IsCandidate-fenced (l + 1) (region.at a) u is);
    parts = λ p lt. parts_rest shape s h w.keeping l fenced_txn w.lanes p (w.under p) between.lane lt between.resting (world.parts p lt);
  }

pub writes_are_stored : WritesAreStored
writes_are_stored shape base s chains start_heap w region l a v runs next between world = written_there shape base s chains start_heap w region world l between runs a v next

pub writes_are_taken_back : WritesAreTakenBack
writes_are_taken_back shape base s chains start_heap w region l a v u runs one_more last value between world =
    taken_there shape base s chains start_heap w region world l between runs a v u one_more last value

pub gifts_are_zeroed : GiftsAreZeroed
gifts_are_zeroed shape base s chains start_heap w region l g over commits next between world = zeroed_there shape base s chains start_heap w region world l between over commits g next

pub fences_keep : FencesKeep
fences_keep shape base s chains start_heap w region l between world = fenced_there shape base s chains start_heap w region world l between
