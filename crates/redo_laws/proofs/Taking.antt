-- Words that nobody has come to a transaction that runs.
use Rattle.std.proofs.Common.{◌≡◌, ◌⊎◌, inl, inr, ℕ, Bool, true, false, ◌||◌, if◌then◌else◌, List, [], take, refl, sym, ◌∙◌, subst}
use Rattle.std.proofs.lemmas.Bool.Decides.{eqb_tells}
use Rattle.persist_model.specs.Region.{Words, Region, newest}
use Rattle.persist_model.specs.Progress.{latest}
use Rattle.persist_model.specs.Records.{HasNo, IsOf}
use Rattle.persist_model.specs.Standing.{IsToDelete}
use Rattle.persist_model.specs.Shape.{Shape}
use Rattle.persist_model.specs.State.{State}
use Rattle.history_laws.specs.Histories.{fold}
use Rattle.txn_laws.specs.Txns.{Txn, txn_at, with_txn, written}
use Rattle.txn_laws.specs.Owners.{IsMine, IsNobodys, AreOwners}
use Rattle.txn_laws.specs.AreTransactions.{IsTransaction}
use Rattle.txn_laws.specs.Takes.{with_words, MayTake}
use Rattle.txn_laws.specs.Worlds.{World}
use Rattle.txn_laws.proofs.Lanes.{with_here, with_other, by_lane, IsFound, now_found, owners_changed, numbers_same, numbers_changed, parts_rest}
use Rattle.txn_laws.proofs.Storing.{among_taken}
use Rattle.txn_laws.proofs.Written.{latest_elsewhere}
use Rattle.redo_laws.specs.Worlds.{RedoWorld, IsRedoWorldAt}
use Rattle.redo_laws.specs.Beginnings.{with_redo_lane, AreFree, TakesKeep}
use Rattle.redo_laws.proofs.Reading.{found_here}
use Rattle.redo_laws.proofs.LaneTxns.{known_with}
use Rattle.redo_laws.proofs.LaneStages.{lane_stays}

either_is : (b c : Bool) → (b || c) ≡ true → (b ≡ true) ⊎ ((b ≡ false) × (c ≡ true))
either_is true c e = inl refl
either_is false c e = inr (refl, e)

left_is : (b c : Bool) → b ≡ true → (b || c) ≡ true
left_is b c e = rw e refl

module _ (shape : Shape) (base : Words) (s : State) (chains : ℕ → List ℕ) (start_heap : Words) (z : RedoWorld) (region : Region) (l : ℕ) (words : ℕ → Bool)
    (runs : (txn_at z.world.lanes l).over ≡ false) (may : MayTake shape z.world l words) (free : AreFree s words) (world : IsRedoWorldAt shape base s chains start_heap z region) where
  abbrev w : World
  w = z.world

  abbrev h : Words
  h = fold start_heap w.history

  abbrev x : Txn
  x = txn_at w.lanes l

  abbrev y : Txn
  y = with_words words (txn_at w.lanes l)

  -- a word of its own is one that it had, or one that nobody had
  cases : (a : ℕ) → IsMine y a → IsMine x a ⊎ ((x.words a ≡ false) × (words a ≡ true))
  cases a m = either_is (x.words a) (words a) m

  still : (a : ℕ) → IsMine x a → IsMine y a
  still a m = left_is (x.words a) (words a) m

  owners_there : AreOwners shape (with_txn l y w.lanes)
  owners_there = owners_changed shape l y w.lanes may.lane
      (λ a m. elim (cases a m) [ inl k ↦ world.owners.heap_words l a k | inr k ↦ may.in_heap a k.1 ])
      (λ k a ne m n. elim (cases a m) [ inl mine ↦ ne (world.owners.apart k l a n mine) | inr new ↦ may.nobodys a new.1 k n ]) world.owners

  nobodys_was : (a : ℕ) → IsNobodys (with_txn l y w.lanes) a → IsNobodys w.lanes a
  nobodys_was a none k m = elim (eqb_tells k l) [
    | inl e ↦ none l (subst (λ t. IsMine t a) (sym (with_here l y w.lanes may.lane)) (still a (subst (λ j. IsMine (txn_at w.lanes j) a) e.1 m)))
    | inr ne ↦ none k (subst (λ t. IsMine t a) (sym (with_other l k y w.lanes ne.1)) m)
  ]

  -- nothing is written to a word that nobody had
  written_else : (a u : ℕ) → (IsMine x a → ⊥) → latest (written y) a u ≡ u
  written_else a u off = by x.over refl
    where
      by : (b : Bool) → x.over ≡ b → latest (if b then [] else take x.stored x.writes) a u ≡ u
      by true e = refl
      by false e = latest_elsewhere (take x.stored x.writes) a u (λ v m at_a. off (subst (IsMine x) at_a (((world.transactions.each l).going runs).writes_own v (among_taken x.writes x.stored v m))))

  found_there : IsFound shape s.log h (with_txn l y w.lanes) region
  found_there = record {
    own = λ k a. by_lane (λ j t. IsMine t a → HasNo (IsToDelete s.log a) s.log → newest (region.at a) ≡ latest (written t) a (h a)) l y w.lanes may.lane
        (λ m none. elim (cases a m) [
          | inl mine ↦ (found_here shape base s chains start_heap z region world).own l a mine none
          | inr k ↦ (found_here shape base s chains start_heap z region world).others a (may.in_heap a k.1) (may.nobodys a k.1) none ∙ sym (written_else a (h a) (may.nobodys a k.1 l))
        ])
        (λ j ne. (found_here shape base s chains start_heap z region world).own j a) k;
    others = λ a m nobodys none. (found_here shape base s chains start_heap z region world).others a m (nobodys_was a nobodys) none;
  }

  told_there : IsTransaction shape s.log h y
  told_there = let t = world.transactions.each l in record {
    in_part = t.in_part;
    going = λ on. (let g = t.going on in record {
      running = g.running;
      to_undo_is = g.to_undo_is;
      point_is = g.point_is;
      rolled_is = g.rolled_is;
      rolled_has = g.rolled_has;
      updates_are = g.updates_are;
      changed = g.changed;
      unchanged = g.unchanged;
      covered = g.covered;
      unzeroed = g.unzeroed;
      writes_own = λ v m. still v.address (g.writes_own v m);
    });
    ended = λ over. record { has_end = (t.ended over).has_end; committed = (t.ended over).committed; commits_is = (t.ended over).commits_is };
    deletions = t.deletions;
    given = t.given;
    gifts_own = λ g m. still g.word (t.gifts_own g m);
    names = λ r m of bars. still r.word (t.names r m of bars);
  }

  takes_there : IsRedoWorldAt shape base s chains start_heap (with_redo_lane l y z) region
  takes_there = record {
    no_force = world.no_force;
    log = world.log;
    spare = world.spare;
    owners = owners_there;
    transactions = record {
      each = by_lane (λ j t. IsTransaction shape s.log h t) l y w.lanes may.lane told_there (λ j ne. world.transactions.each j);
      known = λ r m plain. known_with s.log w.lanes l y r may.lane refl (world.transactions.known r m plain);
      apart = numbers_changed l y w.lanes may.lane (numbers_same l y w.lanes refl world.transactions.apart) world.transactions.apart;
      barred = λ r k a m d. by_lane (λ j t. IsMine t a → IsOf t.number r) l y w.lanes may.lane
          (λ mine. elim (cases a mine) [ inl was ↦ world.transactions.barred r l a m d was | inr new ↦ absurd (free a new.1 r m d) ])
          (λ j ne. world.transactions.barred r j a m d) k;
    };
    heap = record { full = world.heap.full; now = now_found shape s.log h (with_txn l y w.lanes) region owners_there found_there };
    stands = world.stands;
    stage = lane_stays shape s h w z.dirty region l y may.lane (λ off. off) (λ p lt part. parts_rest shape s h w.keeping l y w.lanes p (w.under p) may.lane lt may.resting part) z.checkpoint world.stage;
  }

pub takes_keep : TakesKeep
takes_keep shape base s chains start_heap z region l words runs may free world = takes_there shape base s chains start_heap z region l words runs may free world
