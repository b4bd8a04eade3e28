-- A transaction begins, and is over.
use Rattle.std.proofs.Common.{◌≡◌, ◌≢◌, inl, inr, ℕ, ◌<◌, ◌≤◌, Bool, true, false, List, [], ◌∷◌, ◌++◌, length, take, refl, sym, ap, ◌∙◌, subst, arith}
use Rattle.std.proofs.lemmas.Bool.Decides.{eqb_tells}
use Rattle.persist_model.specs.Region.{Words, Region, IsCandidate, newest}
use Rattle.persist_model.specs.Progress.{Write, start, latest}
use Rattle.persist_model.specs.Records.{Record, Log, IsAmong, HasNo, IsOf}
use Rattle.persist_model.specs.Standing.{IsToDelete, Stands, undone, deleted, redone, kept}
use Rattle.persist_model.specs.Shape.{Shape, IsHeapWord}
use Rattle.persist_model.specs.State.{State}
use Rattle.persist_model.proofs.Tracking.{Tracks-settled}
use Rattle.log_laws.specs.Recovery.{HasDecidingRecord}
use Rattle.history_laws.specs.Histories.{Entry, value_behind, fold}
use Rattle.history_laws.specs.UnderWay.{UnderWay, nothing, appends, closes, takes_back, drops}
use Rattle.txn_laws.specs.Txns.{Txn, idle, txn_at, with_txn, written}
use Rattle.txn_laws.specs.Owners.{IsMine, IsNobodys, AreOwners}
use Rattle.txn_laws.specs.Heaps.{StandsForHeap, IsHeapOf, IsKept}
use Rattle.txn_laws.specs.AreTransactions.{IsTransaction, AreTransactions}
use Rattle.txn_laws.specs.PartsOf.{Fits, IsResting, IsPartIn}
use Rattle.txn_laws.specs.Worlds.{World, with_lane, IsWorldAt}
use Rattle.txn_laws.specs.Beginnings.{begun, MayBegin, BeginsKeep, LeavesKeep, UnrecordedLeave, UnrecordedCommit}
use Rattle.txn_laws.proofs.Finding.{idle_none}
use Rattle.txn_laws.proofs.Lanes.{with_other, by_lane, whose, IsFound, found_of, now_found, owners_changed, numbers_changed, parts_changed, parts_rest}
use Rattle.txn_laws.proofs.SameRecords.{transaction_same, own_none}

-- a word that no record decides stands at itself
pub stands_itself : (policy : ℕ) (log : Log) (w : Words) (a v : ℕ) → (HasDecidingRecord policy log a → ⊥) → Stands policy log w a v → v ≡ w a
stands_itself policy log w a v off (undone u first is) = absurd (off (inl (u, first.among, first.has)))
stands_itself policy log w a v off (deleted none d is) = absurd (off (inr (inl d)))
stands_itself policy log w a v off (redone none nd r last is) = absurd (off (inr (inr (r, last.among, last.has))))
stands_itself policy log w a v off (kept none nd nr is) = is

-- behind its end, and before its first store, a transaction has written nothing that isn't in the history
over_unwritten : (x : Txn) → x.over ≡ true → written x ≡ []
over_unwritten x over = rw over refl

unstored_unwritten : (x : Txn) → x.over ≡ false → x.stored ≡ 0 → written x ≡ []
unstored_unwritten x runs none = rw (runs, none) refl

-- an entry that writes nothing leaves the heap
pub value_unwritten : (history : List Entry) (e : Entry) (a u : ℕ) → e.writes ≡ [] → value_behind (history ++ e ∷ []) a u ≡ value_behind history a u
value_unwritten [] e a u none = ap (λ (ws : List Write). latest ws a u) none
value_unwritten (f ∷ history) e a u none = value_unwritten history e a (latest f.writes a u) none

pub fold_unwritten : (heap : Words) (history : List Entry) (e : Entry) → e.writes ≡ [] → fold heap (history ++ e ∷ []) ≡ fold heap history
fold_unwritten heap history e none = λ i a. value_unwritten history e a (heap a) none i

-- a history with the same heap does as well
with_history : (shape : Shape) (base : Words) (s : State) (chains : ℕ → List ℕ) (start_heap : Words) (w : World) (region : Region) (history : List Entry) →
    fold start_heap history ≡ fold start_heap w.history → IsWorldAt shape base s chains start_heap w region → IsWorldAt shape base s chains start_heap (record w { history = history }) region
with_history shape base s chains start_heap w region history same world = record {
  force = world.force;
  log = world.log;
  owners = world.owners;
  transactions = subst (λ h. AreTransactions shape s.log h w.lanes) (sym same) world.transactions;
  heap = subst (λ h. IsHeapOf shape s.log h w.lanes region) (sym same) world.heap;
  kept = world.kept;
  stands = subst (λ h. StandsForHeap shape s.log h region) (sym same) world.stands;
  parts = λ p lt. subst (λ h. IsPartIn shape s h w.keeping w.lanes p (w.under p)) (sym same) (world.parts p lt);
}

-- without a record, without a write
pub begun_plain : (shape : Shape) (h : Words) (number part : ℕ) (words : ℕ → Bool) → IsTransaction shape [] h (begun number part words)
begun_plain shape h number part words = record {
  in_part = λ r m. absurd m;
  going = λ runs. record {
    running = λ r m. absurd m;
    to_undo_is = refl;
    point_is = refl;
    rolled_is = λ unrolled r m. absurd m;
    rolled_has = λ rolled. (let f : false ≡ true = rolled in cc);
    updates_are = tt;
    changed = λ a r last. absurd last.among;
    unchanged = λ a none u. refl;
    covered = λ v m. absurd m;
    unzeroed = refl;
    writes_own = λ v m. absurd m;
  };
  ended = λ over. record { has_end = λ some. absurd some.1; committed = λ commits some. absurd some.1; commits_is = λ c. absurd c.1 };
  deletions = λ a r m. absurd m;
  given = λ g m. absurd m;
  gifts_own = λ g m. absurd m;
  names = λ r m. absurd m;
}

module _ (shape : Shape) (base : Words) (s : State) (chains : ℕ → List ℕ) (start_heap : Words) (w : World) (region : Region) (world : IsWorldAt shape base s chains start_heap w region) where
  abbrev h : Words
  h = fold start_heap w.history

  -- no record decides a word that nobody has
  pub nobodys_undecided : (a : ℕ) → IsNobodys w.lanes a → HasDecidingRecord shape.policy s.log a → ⊥
  nobodys_undecided a none (inl u) =
      let r = u.0 in let k = world.transactions.known r u.1 in
      none k.0 (subst (IsMine (txn_at w.lanes k.0)) u.2.1 ((world.transactions.each k.0).names r u.1 k.2 (inl (inl (inl u.2.0), u.2.2))))
  nobodys_undecided a none (inr (inl d)) =
      let r = d.0 in let k = world.transactions.known r d.1 in
      none k.0 (subst (IsMine (txn_at w.lanes k.0)) d.2.1 ((world.transactions.each k.0).names r d.1 k.2 (inr (d.2.0, d.2.2))))
  nobodys_undecided a none (inr (inr k)) = world.force k.2.0

  -- so it has its value in the history's heap, whatever a stop leaves
  pub nobodys_settled : (a : ℕ) → IsHeapWord shape a → IsNobodys w.lanes a → (u : ℕ) → IsCandidate (region.at a) u → u ≡ h a
  nobodys_settled a m none u is = sym (stands_itself shape.policy s.log (λ b. u) a (h a) (nobodys_undecided a none) (world.stands a u m is))

  pub found_here : IsFound shape s.log h w.lanes region
  found_here = found_of shape s.log h w.lanes region world.owners world.heap.now

  -- ---- a begin

  module _ (l number part : ℕ) (words : ℕ → Bool) (may : MayBegin shape w l number words) where
    abbrev y : Txn
    y = begun number part words

    none_of : HasNo (IsOf number) s.log
    none_of r m of = let k = world.transactions.known r m in may.fresh k.0 (sym k.2.0 ∙ of.0)

    idle_was : (k : ℕ) → k ≡ l → (txn_at w.lanes k).number ≡ 0
    idle_was k e = ap (λ j. (txn_at w.lanes j).number) e ∙ ap (λ (x : Txn). x.number) may.free

    owners_begun : AreOwners shape (with_txn l y w.lanes)
    owners_begun = owners_changed shape l y w.lanes may.lane may.in_heap (λ k a ne m n. may.nobodys a m k n) world.owners

    -- what nobody has now nobody had
    nobodys_was : (a : ℕ) → IsNobodys (with_txn l y w.lanes) a → IsNobodys w.lanes a
    nobodys_was a none k m = elim (eqb_tells k l) [
      | inl e ↦ idle_none a (subst (λ x. IsMine x a) (ap (txn_at w.lanes) e.1 ∙ may.free) m)
      | inr ne ↦ none k (subst (λ x. IsMine x a) (sym (with_other l k y w.lanes ne.1)) m)
    ]

    found_begun : IsFound shape s.log h (with_txn l y w.lanes) region
    found_begun = record {
      own = λ k a. by_lane (λ j x. IsMine x a → HasNo (IsToDelete s.log a) s.log → newest (region.at a) ≡ latest (written x) a (h a)) l y w.lanes may.lane
          (λ m none. found_here.others a (may.in_heap a m) (may.nobodys a m) none) (λ j ne. found_here.own j a) k;
      others = λ a m nobodys none. found_here.others a m (nobodys_was a nobodys) none;
    }

    fits_not : (p : ℕ) (u : UnderWay) → Fits shape s h p idle u → Fits shape s h p y u
    fits_not p nothing fits = tt
    fits_not p (appends adding made) fits = let one = fits.number in absurd (omega (arith, one))
    fits_not p (closes gates ends made) fits = let one = fits.number in absurd (omega (arith, one))
    fits_not p (takes_back gates made) fits = let one = fits.number in absurd (omega (arith, one))
    fits_not p (drops r made) fits = tt

    known_begun : (r : Record) → IsAmong s.log r → (k : ℕ) × (1 ≤ (txn_at (with_txn l y w.lanes) k).number) × IsOf (txn_at (with_txn l y w.lanes) k).number r
    known_begun r m =
        let k = world.transactions.known r m in
        let ne : k.0 ≢ l = (λ e. (let none = idle_was k.0 e in let one = k.1 in omega (arith, none, one))) in
        let same = with_other l k.0 y w.lanes ne in
        (k.0, subst (λ (x : Txn). 1 ≤ x.number) (sym same) k.1, subst (λ (x : Txn). IsOf x.number r) (sym same) k.2)

    begins_there : IsWorldAt shape base s chains start_heap (with_lane l y w) region
    begins_there = record {
      force = world.force;
      log = world.log;
      owners = owners_begun;
      transactions = record {
        each = by_lane (λ j x. IsTransaction shape s.log h x) l y w.lanes may.lane (transaction_same shape [] s.log h y (own_none number s.log none_of) (begun_plain shape h number part words)) (λ j ne. world.transactions.each j);
        known = known_begun;
        apart = numbers_changed l y w.lanes may.lane (λ k ne one e. may.fresh k (sym e)) world.transactions.apart;
      };
      heap = record {
        full = world.heap.full;
        now = now_found shape s.log h (with_txn l y w.lanes) region owners_begun found_begun;
        found = λ k g. by_lane (λ j x. x.over ≡ true → IsAmong (take x.zeroed x.gifts) g → newest (region.at g.word) ≡ 0) l y w.lanes may.lane (λ over m. absurd m) (λ j ne. world.heap.found j g) k;
      };
      kept = by_lane (λ j x. IsKept j x region) l y w.lanes may.lane
          (record {
            progress = start h;
            tracks = Tracks-settled (IsMine y) l h region (λ a m v is. nobodys_settled a (may.in_heap a m) (may.nobodys a m) v is);
            own = λ a v k. absurd k;
            fenced = λ fenced a v k. absurd k;
          })
          (λ j ne. world.kept j);
      stands = world.stands;
      parts = λ p lt. parts_changed shape s h w.keeping l y w.lanes p (w.under p) may.lane
          (λ e. fits_not p (w.under p) (subst (λ x. Fits shape s h p x (w.under p)) (ap (txn_at w.lanes) e ∙ may.free) (world.parts p lt).fits)) (world.parts p lt);
    }

  -- ---- its end

  -- nothing of the lane is under way, no record of its transaction is left, and it has written nothing beyond the history
  module _ (l : ℕ) (lane : l < length w.lanes) (resting : IsResting shape w.keeping l) (no_record : HasNo (IsOf (txn_at w.lanes l).number) s.log)
      (unwritten : written (txn_at w.lanes l) ≡ []) where
    none_of_zero : HasNo (IsOf 0) s.log
    none_of_zero r m of = let k = world.transactions.known r m in let one = k.1 in let e = k.2.0 in let z = of.0 in omega (arith, one, e, z)

    owners_left : AreOwners shape (with_txn l idle w.lanes)
    owners_left = owners_changed shape l idle w.lanes lane (λ a m. absurd (idle_none a m)) (λ k a ne m. absurd (idle_none a m)) world.owners

    -- what nobody has now the lane had, with nothing written beyond the history, or nobody
    others_left : (a : ℕ) → IsHeapWord shape a → IsNobodys (with_txn l idle w.lanes) a → HasNo (IsToDelete s.log a) s.log → newest (region.at a) ≡ h a
    others_left a m nobodys none = elim (whose w.lanes a) [
      | inl k ↦ (elim (eqb_tells k.0 l) [
        | inl e ↦ found_here.own k.0 a k.1 none ∙ ap (λ (x : List Write). latest x a (h a)) (ap (λ j. written (txn_at w.lanes j)) e.1 ∙ unwritten)
        | inr ne ↦ absurd (nobodys k.0 (subst (λ x. IsMine x a) (sym (with_other l k.0 idle w.lanes ne.1)) k.1))
      ])
      | inr was ↦ found_here.others a m was none
    ]

    found_left : IsFound shape s.log h (with_txn l idle w.lanes) region
    found_left = record {
      own = λ k a. by_lane (λ j x. IsMine x a → HasNo (IsToDelete s.log a) s.log → newest (region.at a) ≡ latest (written x) a (h a)) l idle w.lanes lane
          (λ m. absurd (idle_none a m)) (λ j ne. found_here.own j a) k;
      others = others_left;
    }

    known_left : (r : Record) → IsAmong s.log r → (k : ℕ) × (1 ≤ (txn_at (with_txn l idle w.lanes) k).number) × IsOf (txn_at (with_txn l idle w.lanes) k).number r
    known_left r m =
        let k = world.transactions.known r m in
        let ne : k.0 ≢ l = (λ e. no_record r m (subst (λ j. IsOf (txn_at w.lanes j).number r) e k.2)) in
        let same = with_other l k.0 idle w.lanes ne in
        (k.0, subst (λ (x : Txn). 1 ≤ x.number) (sym same) k.1, subst (λ (x : Txn). IsOf x.number r) (sym same) k.2)

    leaves_there : IsWorldAt shape base s chains start_heap (with_lane l idle w) region
    leaves_there = record {
      force = world.force;
      log = world.log;
      owners = owners_left;
      transactions = record {
        each = by_lane (λ j x. IsTransaction shape s.log h x) l idle w.lanes lane (transaction_same shape [] s.log h idle (own_none 0 s.log none_of_zero) (begun_plain shape h 0 0 idle.words)) (λ j ne. world.transactions.each j);
        known = known_left;
        apart = numbers_changed l idle w.lanes lane (λ k ne one. absurd (omega (arith, one))) world.transactions.apart;
      };
      heap = record {
        full = world.heap.full;
        now = now_found shape s.log h (with_txn l idle w.lanes) region owners_left found_left;
        found = λ k g. by_lane (λ j x. x.over ≡ true → IsAmong (take x.zeroed x.gifts) g → newest (region.at g.word) ≡ 0) l idle w.lanes lane (λ over m. absurd m) (λ j ne. world.heap.found j g) k;
      };
      kept = by_lane (λ j x. IsKept j x region) l idle w.lanes lane
          (record { progress = start h; tracks = λ a m. absurd (idle_none a m); own = λ a v k. absurd k; fenced = λ fenced a v k. absurd k }) (λ j ne. world.kept j);
      stands = world.stands;
      parts = λ p lt. parts_rest shape s h w.keeping l idle w.lanes p (w.under p) lane lt resting (world.parts p lt);
    }

pub begins_keep : BeginsKeep
begins_keep shape base s chains start_heap w region l number part words may world = begins_there shape base s chains start_heap w region world l number part words may

pub leaves_keep : LeavesKeep
leaves_keep shape base s chains start_heap w region l may world =
    leaves_there shape base s chains start_heap w region world l may.lane may.resting may.no_record (over_unwritten (txn_at w.lanes l) may.is_over)

pub unrecorded_leave : UnrecordedLeave
unrecorded_leave shape base s chains start_heap w region l may world =
    leaves_there shape base s chains start_heap w region world l may.lane may.resting may.no_record (unstored_unwritten (txn_at w.lanes l) may.runs may.none_stored)

pub unrecorded_commit : UnrecordedCommit
unrecorded_commit shape base s chains start_heap w region l e none may world =
    with_history shape base s chains start_heap (with_lane l idle w) region (w.history ++ e ∷ []) (fold_unwritten start_heap w.history e none)
    (unrecorded_leave shape base s chains start_heap w region l may world)
