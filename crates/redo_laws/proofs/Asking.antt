-- What a lane means to write.
use Rattle.std.proofs.Common.{◌≡◌, inl, inr, ℕ, zero, suc, ◌≤◌, ◌&&◌, not, Bool, true, false, Some, if◌then◌else◌, List, [], ◌∷◌, ◌++◌, length, take, refl, sym, ap, ◌∙◌, subst, arith}
use Rattle.std.specs.Prelude.{slice_get}
use Rattle.std.proofs.lemmas.Option.{slice_get_within}
use Rattle.persist_model.specs.Region.{Words, Region, newest}
use Rattle.persist_model.specs.Progress.{Write, write, latest}
use Rattle.persist_model.specs.Records.{Record, IsAmong, HasNo}
use Rattle.persist_model.specs.Standing.{IsToDelete}
use Rattle.persist_model.specs.Shape.{Shape}
use Rattle.persist_model.specs.State.{State}
use Rattle.history_laws.specs.Histories.{fold}
use Rattle.txn_laws.specs.Txns.{Txn, txn_at, with_txn, written}
use Rattle.txn_laws.specs.Flights.{is_flying}
use Rattle.txn_laws.specs.Owners.{IsMine, AreOwners}
use Rattle.txn_laws.specs.AreTransactions.{AreUpdatesOf, recorded, IsGoing, IsTransaction}
use Rattle.txn_laws.specs.Worlds.{World}
use Rattle.txn_laws.specs.Asks.{asked, MayAsk}
use Rattle.txn_laws.proofs.Lanes.{by_lane, IsFound, now_found, owners_same, nobodys_same, parts_rest}
use Rattle.redo_laws.specs.Worlds.{RedoWorld, IsRedoWorldAt}
use Rattle.redo_laws.specs.Beginnings.{with_redo_lane, AsksKeep}
use Rattle.redo_laws.proofs.Reading.{found_here}
use Rattle.redo_laws.proofs.LaneTxns.{transactions_with}
use Rattle.redo_laws.proofs.LaneStages.{lane_stays}

-- ---- more writes to come

got_more : {A : Type 0} (xs ys : List A) (k : ℕ) (x : A) → slice_get xs k ≡ Some x → slice_get (xs ++ ys) k ≡ Some x
got_more [] ys k x e = cc
got_more (z ∷ xs) ys zero x e = e
got_more (z ∷ xs) ys (suc k) x e = got_more xs ys k x e

taken_more : {A : Type 0} (xs ys : List A) (n : ℕ) → n ≤ length xs → take n (xs ++ ys) ≡ take n xs
taken_more xs ys zero le = refl
taken_more [] ys (suc n) le = absurd (omega (arith, le))
taken_more (x ∷ xs) ys (suc n) le = ap (λ zs. x ∷ zs) (taken_more xs ys n (omega (arith, le)))

-- each update has its write
updates_within : (h : Words) (writes : List Write) (updates : List Record) → AreUpdatesOf h writes updates → length updates ≤ length writes
updates_within h writes [] each = omega arith
updates_within h writes (u ∷ updates) each = let lt = slice_get_within writes (length updates) (write u.word u.after) each.0.of_write in omega (arith, lt)

updates_more : (h : Words) (writes more : List Write) (updates : List Record) → AreUpdatesOf h writes updates → AreUpdatesOf h (writes ++ more) updates
updates_more h writes more [] each = tt
updates_more h writes more (u ∷ updates) each = (
  record {
    of_write = got_more writes more (length updates) (write u.word u.after) each.0.of_write;
    before = each.0.before ∙ sym (ap (λ ws. latest ws u.word (h u.word)) (taken_more writes more (length updates)
        (let lt = slice_get_within writes (length updates) (write u.word u.after) each.0.of_write in omega (arith, lt))));
  },
  updates_more h writes more updates each.1,
)

either_write : (xs ys : List Write) (v : Write) → IsAmong (xs ++ ys) v → (P : Type 0) → (IsAmong xs v → P) → (IsAmong ys v → P) → P
either_write [] ys v m P left right = right m
either_write (x ∷ xs) ys v (inl e) P left right = left (inl e)
either_write (x ∷ xs) ys v (inr m) P left right = either_write xs ys v m P (λ k. left (inr k)) right

module _ (shape : Shape) (base : Words) (s : State) (chains : ℕ → List ℕ) (start_heap : Words) (z : RedoWorld) (region : Region) (world : IsRedoWorldAt shape base s chains start_heap z region) where
  abbrev w : World
  w = z.world

  abbrev h : Words
  h = fold start_heap w.history

  module _ (l : ℕ) (more : List Write) (commits : Bool) (may : MayAsk shape z.world l more) (unended : (txn_at z.world.lanes l).ended ≡ false) where
    abbrev x : Txn
    x = txn_at w.lanes l

    abbrev y : Txn
    y = asked more commits (txn_at w.lanes l)

    going : IsGoing s.log h x
    going = (world.transactions.each l).going may.runs

    recorded_is : recorded y ≡ recorded x
    recorded_is = taken_more x.writes more (length x.updates) (updates_within h x.writes x.updates going.updates_are)

    stored_is : take x.stored (x.writes ++ more) ≡ take x.stored x.writes
    stored_is = taken_more x.writes more x.stored may.stored

    written_is : written y ≡ written x
    written_is = ap (λ ws. if x.over then [] else ws) stored_is

    told_asked : IsTransaction shape s.log h y
    told_asked = let t = world.transactions.each l in record {
      in_part = t.in_part;
      going = λ on. record {
        running = going.running;
        to_undo_is = going.to_undo_is;
        point_is = going.point_is;
        rolled_is = going.rolled_is;
        rolled_has = going.rolled_has;
        updates_are = updates_more h x.writes more x.updates going.updates_are;
        changed = λ a r last. going.changed a r last ∙ sym (ap (λ ws. latest ws a (h a)) recorded_is);
        unchanged = λ a none u. ap (λ ws. latest ws a u) recorded_is ∙ going.unchanged a none u;
        covered = λ v m. going.covered v (subst (λ ws. IsAmong ws v) stored_is m);
        unzeroed = going.unzeroed;
        writes_own = λ v m. either_write x.writes more v m (IsMine x v.address) (λ k. going.writes_own v k) (λ k. may.own v k);
      };
      ended = λ over. (let e = sym may.runs ∙ over in cc);
      deletions = t.deletions;
      given = t.given;
      gifts_own = t.gifts_own;
      names = t.names;
    }

    owners_asked : AreOwners shape (with_txn l y w.lanes)
    owners_asked = owners_same shape l y w.lanes may.lane refl world.owners

    found_asked : IsFound shape s.log h (with_txn l y w.lanes) region
    found_asked = record {
      own = λ k a. by_lane (λ j t. IsMine t a → HasNo (IsToDelete s.log a) s.log → newest (region.at a) ≡ latest (written t) a (h a)) l y w.lanes may.lane
          (λ m none. (found_here shape base s chains start_heap z region world).own l a m none ∙ sym (ap (λ ws. latest ws a (h a)) written_is))
          (λ j ne. (found_here shape base s chains start_heap z region world).own j a) k;
      others = λ a m nobodys none. (found_here shape base s chains start_heap z region world).others a m (nobodys_same l y w.lanes a may.lane refl nobodys) none;
    }

    landed : is_flying y ≡ false
    landed = by commits unended
      where
        by : (b : Bool) → x.ended ≡ false → (b && (x.ended && not x.over)) ≡ false
        by true off = rw off refl
        by false off = refl

    asks_there : IsRedoWorldAt shape base s chains start_heap (with_redo_lane l y z) region
    asks_there = record {
      no_force = world.no_force;
      log = world.log;
      spare = world.spare;
      owners = owners_asked;
      transactions = transactions_with shape s.log h w.lanes l y may.lane refl refl told_asked world.transactions;
      heap = record { full = world.heap.full; now = now_found shape s.log h (with_txn l y w.lanes) region owners_asked found_asked };
      stands = world.stands;
      stage = lane_stays shape s h w z.dirty region l y may.lane (λ off. landed) (λ p lt part. parts_rest shape s h w.keeping l y w.lanes p (w.under p) may.lane lt may.resting part) z.checkpoint world.stage;
    }

pub asks_keep : AsksKeep
asks_keep shape base s chains start_heap z region l more commits may unended world = asks_there shape base s chains start_heap z region world l more commits may unended
