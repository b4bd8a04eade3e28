-- Words come to a transaction.
use Rattle.std.proofs.Common.{◌≡◌, ◌⊎◌, inl, inr, ℕ, ◌+◌, ◌||◌, Bool, true, false, if◌then◌else◌, List, [], take, refl, sym, ◌∙◌, subst}
use Rattle.std.proofs.lemmas.Bool.Decides.{eqb_tells}
use Rattle.persist_model.specs.Region.{Words, Region, newest}
use Rattle.persist_model.specs.Progress.{Progress, latest, IsWordOf}
use Rattle.persist_model.specs.Records.{IsAmong, HasNo}
use Rattle.persist_model.specs.Standing.{IsToDelete}
use Rattle.persist_model.specs.Shape.{Shape}
use Rattle.persist_model.specs.State.{State}
use Rattle.history_laws.specs.Histories.{fold}
use Rattle.txn_laws.specs.Txns.{Txn, txn_at, with_txn, written}
use Rattle.txn_laws.specs.Owners.{IsMine, IsNobodys, AreOwners}
use Rattle.txn_laws.specs.Heaps.{IsKept}
use Rattle.txn_laws.specs.AreTransactions.{IsTransaction}
use Rattle.txn_laws.specs.Worlds.{World, with_lane, IsWorldAt}
use Rattle.txn_laws.specs.Takes.{with_words, MayTake, TakesKeep}
use Rattle.txn_laws.proofs.Written.{latest_elsewhere}
use Rattle.txn_laws.proofs.Storing.{among_taken}
use Rattle.txn_laws.proofs.Lanes.{with_here, with_other, by_lane, IsFound, now_found, owners_changed, numbers_same, numbers_changed, known_same, parts_rest}
use Rattle.txn_laws.proofs.Beginning.{nobodys_settled, found_here}

either_is : (b c : Bool) → (b || c) ≡ true → (b ≡ true) ⊎ ((b ≡ false) × (c ≡ true))
either_is true c e = inl refl
either_is false c e = inr (refl, e)

left_is : (b c : Bool) → b ≡ true → (b || c) ≡ true
left_is b c e = rw e refl

module _ (shape : Shape) (base : Words) (s : State) (chains : ℕ → List ℕ) (start_heap : Words) (w : World) (region : Region) (l : ℕ) (words : ℕ → Bool)
    (runs : (txn_at w.lanes l).over ≡ false) (may : MayTake shape w l words) (world : IsWorldAt shape base s chains start_heap w region) where
  abbrev h : Words
  h = fold start_heap w.history

  abbrev x : Txn
  x = txn_at w.lanes l

  abbrev y : Txn
  y = with_words words (txn_at w.lanes l)

  -- a word of its own is one that it had, or one that nobody had
  cases : (a : ℕ) → IsMine y a → IsMine x a ⊎ ((x.words a ≡ false) × (words a ≡ true))
  cases a m = either_is (x.words a) (words a) m

  still : (a : ℕ) → IsMine x a → IsMine y a
  still a m = left_is (x.words a) (words a) m

  owners_there : AreOwners shape (with_txn l y w.lanes)
  owners_there = owners_changed shape l y w.lanes may.lane
      (λ a m. elim (cases a m) [ inl k ↦ world.owners.heap_words l a k | inr k ↦ may.in_heap a k.1 ])
      (λ k a ne m n. elim (cases a m) [ inl mine ↦ ne (world.owners.apart k l a n mine) | inr new ↦ may.nobodys a new.1 k n ]) world.owners

  nobodys_was : (a : ℕ) → IsNobodys (with_txn l y w.lanes) a → IsNobodys w.lanes a
  nobodys_was a none k m = elim (eqb_tells k l) [
    | inl e ↦ none l (subst (λ z. IsMine z a) (sym (with_here l y w.lanes may.lane)) (still a (subst (λ j. IsMine (txn_at w.lanes j) a) e.1 m)))
    | inr ne ↦ none k (subst (λ z. IsMine z a) (sym (with_other l k y w.lanes ne.1)) m)
  ]

  -- nothing is written to a word that nobody had
  written_else : (a u : ℕ) → (IsMine x a → ⊥) → latest (written y) a u ≡ u
  written_else a u off = by x.over refl
    where
      by : (b : Bool) → x.over ≡ b → latest (if b then [] else take x.stored x.writes) a u ≡ u
      by true e = refl
      by false e = latest_elsewhere (take x.stored x.writes) a u (λ v m at_a. off (subst (IsMine x) at_a (((world.transactions.each l).going runs).writes_own v (among_taken x.writes x.stored v m))))

  found_there : IsFound shape s.log h (with_txn l y w.lanes) region
  found_there = record {
    own = λ k a. by_lane (λ j z. IsMine z a → HasNo (IsToDelete s.log a) s.log → newest (region.at a) ≡ latest (written z) a (h a)) l y w.lanes may.lane
        (λ m none. elim (cases a m) [
          | inl mine ↦ (found_here shape base s chains start_heap w region world).own l a mine none
          | inr k ↦ (found_here shape base s chains start_heap w region world).others a (may.in_heap a k.1) (may.nobodys a k.1) none ∙ sym (written_else a (h a) (may.nobodys a k.1 l))
        ])
        (λ j ne. (found_here shape base s chains start_heap w region world).own j a) k;
    others = λ a m nobodys none. (found_here shape base s chains start_heap w region world).others a m (nobodys_was a nobodys) none;
  }

  told_there : IsTransaction shape s.log h y
  told_there = let t = world.transactions.each l in record {
    in_part = t.in_part;
    going = λ on. (let g = t.going on in record {
      running = g.running;
      to_undo_is = g.to_undo_is;
      point_is = g.point_is;
      rolled_is = g.rolled_is;
      rolled_has = g.rolled_has;
      updates_are = g.updates_are;
      changed = g.changed;
      unchanged = g.unchanged;
      covered = g.covered;
      unzeroed = g.unzeroed;
      writes_own = λ v m. still v.address (g.writes_own v m);
    });
    ended = λ over. record { has_end = (t.ended over).has_end; committed = (t.ended over).committed; commits_is = (t.ended over).commits_is };
    deletions = t.deletions;
    given = t.given;
    gifts_own = λ g m. still g.word (t.gifts_own g m);
    names = λ r m of bars. still r.word (t.names r m of bars);
  }

  -- the new words are durable as the history has them
  abbrev progress : Progress
  progress = record { durable = λ a. if x.words a then (world.kept l).progress.durable a else h a; pending = (world.kept l).progress.pending }

  kept_there : IsKept l y region
  kept_there = record {
    progress = progress;
    tracks = λ a m. elim (cases a m) [
      | inl mine ↦ subst (λ d. IsWordOf (l + 1) d (world.kept l).progress.pending a (region.at a)) (sym (here a mine)) ((world.kept l).tracks a mine)
      | inr k ↦ record {
        values = λ v is. inl (nobodys_settled shape base s chains start_heap w region world a (may.in_heap a k.1) (may.nobodys a k.1) v is ∙ sym (there a k.0));
        last = λ v wrote. absurd (may.nobodys a k.1 l ((world.kept l).own a v wrote));
      }
    ];
    own = λ a v wrote. still a ((world.kept l).own a v wrote);
    fenced = λ on. (world.kept l).fenced on;
  }
    where
      here : (a : ℕ) → IsMine x a → (if x.words a then (world.kept l).progress.durable a else h a) ≡ (world.kept l).progress.durable a
      here a m = rw m refl

      there : (a : ℕ) → x.words a ≡ false → (if x.words a then (world.kept l).progress.durable a else h a) ≡ h a
      there a off = rw off refl

  takes_there : IsWorldAt shape base s chains start_heap (with_lane l y w) region
  takes_there = record {
    force = world.force;
    log = world.log;
    owners = owners_there;
    transactions = record {
      each = by_lane (λ j z. IsTransaction shape s.log h z) l y w.lanes may.lane told_there (λ j ne. world.transactions.each j);
      known = λ r m. known_same l y w.lanes r may.lane refl (world.transactions.known r m);
      apart = numbers_changed l y w.lanes may.lane (numbers_same l y w.lanes refl world.transactions.apart) world.transactions.apart;
    };
    heap = record {
      full = world.heap.full;
      now = now_found shape s.log h (with_txn l y w.lanes) region owners_there found_there;
      found = λ k g. by_lane (λ j z. z.over ≡ true → IsAmong (take z.zeroed z.gifts) g → newest (region.at g.word) ≡ 0) l y w.lanes may.lane (world.heap.found l g) (λ j ne. world.heap.found j g) k;
    };
    kept = by_lane (λ j z. IsKept j z region) l y w.lanes may.lane kept_there (λ j ne. world.kept j);
    stands = world.stands;
    parts = λ p lt. parts_rest shape s h w.keeping l y w.lanes p (w.under p) may.lane lt may.resting (world.parts p lt);
  }

pub takes_keep : TakesKeep
takes_keep shape base s chains start_heap w region l words runs may world = takes_there shape base s chains start_heap w region l words runs may world
