-- A transaction begins, departs behind its end, or leaves without a record.
use Rattle.std.proofs.Common.{◌≡◌, ◌≢◌, ◌⊎◌, inl, inr, ℕ, ◌<◌, ◌≤◌, Bool, true, false, List, [], ◌∷◌, ◌++◌, length, refl, sym, ap, ◌∙◌, subst, arith}
use Rattle.std.proofs.lemmas.Bool.Decides.{eqb_tells}
use Rattle.persist_model.specs.Region.{Words, Region, newest}
use Rattle.persist_model.specs.Kinds.{CHECKPOINT}
use Rattle.persist_model.specs.Progress.{Write, latest}
use Rattle.persist_model.specs.Records.{Record, IsAmong, HasNo, IsOf, IsEnded}
use Rattle.persist_model.specs.Standing.{IsToDelete}
use Rattle.persist_model.specs.Shape.{Shape, IsHeapWord}
use Rattle.persist_model.specs.State.{State}
use Rattle.history_laws.specs.Histories.{Entry, fold}
use Rattle.history_laws.specs.UnderWay.{UnderWay, nothing, appends, closes, takes_back, drops}
use Rattle.txn_laws.specs.Txns.{Txn, idle, txn_at, with_txn, written}
use Rattle.txn_laws.specs.Owners.{IsMine, IsNobodys, AreOwners}
use Rattle.txn_laws.specs.Heaps.{StandsForHeap}
use Rattle.txn_laws.specs.AreTransactions.{IsTransaction}
use Rattle.txn_laws.specs.PartsOf.{Fits, IsResting}
use Rattle.txn_laws.specs.Worlds.{World}
use Rattle.txn_laws.specs.Beginnings.{MayBegin}
use Rattle.txn_laws.proofs.Finding.{idle_none}
use Rattle.txn_laws.proofs.Lanes.{with_other, by_lane, whose, IsFound, now_found, owners_changed, numbers_changed, parts_changed, parts_rest}
use Rattle.txn_laws.proofs.SameRecords.{transaction_same, own_none}
use Rattle.txn_laws.proofs.Beginning.{fold_unwritten}
use Rattle.redo_laws.specs.Transactions.{IsLanes, IsGone, AreRedoTransactions}
use Rattle.redo_laws.specs.Stages.{IsAtStage}
use Rattle.redo_laws.specs.Worlds.{RedoWorld, with_world, IsRedoHeap, IsRedoWorldAt}
use Rattle.redo_laws.specs.Beginnings.{with_redo_lane, redo_begun, AreFree, BeginsKeep, DepartsKeep, UnrecordedLeave, UnrecordedCommit}
use Rattle.redo_laws.proofs.Reading.{found_here}
use Rattle.redo_laws.proofs.LaneStages.{lane_stays, history_stays}

-- behind its end, and before its first store, a transaction has written nothing that isn't in the history
over_unwritten : (x : Txn) → x.over ≡ true → written x ≡ []
over_unwritten x over = rw over refl

unstored_unwritten : (x : Txn) → x.over ≡ false → x.stored ≡ 0 → written x ≡ []
unstored_unwritten x runs none = rw (runs, none) refl

-- without a record, without a write
pub begun_plain : (shape : Shape) (h : Words) (number part : ℕ) (words : ℕ → Bool) → IsTransaction shape [] h (redo_begun number part words)
begun_plain shape h number part words = record {
  in_part = λ r m. absurd m;
  going = λ runs. record {
    running = λ r m. absurd m;
    to_undo_is = refl;
    point_is = refl;
    rolled_is = λ unrolled r m. absurd m;
    rolled_has = λ rolled. (let f : false ≡ true = rolled in cc);
    updates_are = tt;
    changed = λ a r last. absurd last.among;
    unchanged = λ a none u. refl;
    covered = λ v m. absurd m;
    unzeroed = refl;
    writes_own = λ v m. absurd m;
  };
  ended = λ over. record { has_end = λ some. absurd some.1; committed = λ commits some. absurd some.1; commits_is = λ c. absurd c.1 };
  deletions = λ a r m. absurd m;
  given = λ g m. absurd m;
  gifts_own = λ g m. absurd m;
  names = λ r m. absurd m;
}

pub idle_told : (shape : Shape) (h : Words) → IsTransaction shape [] h idle
idle_told shape h = record {
  in_part = λ r m. absurd m;
  going = λ runs. record {
    running = λ r m. absurd m;
    to_undo_is = refl;
    point_is = refl;
    rolled_is = λ unrolled r m. absurd m;
    rolled_has = λ rolled. (let f : false ≡ true = rolled in cc);
    updates_are = tt;
    changed = λ a r last. absurd last.among;
    unchanged = λ a none u. refl;
    covered = λ v m. absurd m;
    unzeroed = refl;
    writes_own = λ v m. absurd m;
  };
  ended = λ over. record { has_end = λ some. absurd some.1; committed = λ commits some. absurd some.1; commits_is = λ c. absurd c.1 };
  deletions = λ a r m. absurd m;
  given = λ g m. absurd m;
  gifts_own = λ g m. absurd m;
  names = λ r m. absurd m;
}

module _ (shape : Shape) (base : Words) (s : State) (chains : ℕ → List ℕ) (start_heap : Words) (z : RedoWorld) (region : Region) (world : IsRedoWorldAt shape base s chains start_heap z region) where
  abbrev w : World
  w = z.world

  abbrev h : Words
  h = fold start_heap w.history

  found_at : IsFound shape s.log h w.lanes region
  found_at = found_here shape base s chains start_heap z region world

  numbered_one : (r : Record) → IsAmong s.log r → r.kind ≢ CHECKPOINT → 1 ≤ r.transaction
  numbered_one r m plain = elim (world.log.sound.formed r m).transaction [ inl k ↦ absurd (plain k.0) | inr k ↦ k.1 ]

  -- ---- a begin

  module _ (l number part : ℕ) (words : ℕ → Bool) (may : MayBegin shape z.world l number words) (unused : HasNo (IsOf number) s.log) (free : AreFree s words) where
    abbrev y : Txn
    y = redo_begun number part words

    idle_was : (k : ℕ) → k ≡ l → (txn_at w.lanes k).number ≡ 0
    idle_was k e = ap (λ j. (txn_at w.lanes j).number) e ∙ ap (λ (x : Txn). x.number) may.free

    owners_begun : AreOwners shape (with_txn l y w.lanes)
    owners_begun = owners_changed shape l y w.lanes may.lane may.in_heap (λ k a ne m n. may.nobodys a m k n) world.owners

    -- what nobody has now nobody had
    nobodys_was : (a : ℕ) → IsNobodys (with_txn l y w.lanes) a → IsNobodys w.lanes a
    nobodys_was a none k m = elim (eqb_tells k l) [
      | inl e ↦ idle_none a (subst (λ x. IsMine x a) (ap (txn_at w.lanes) e.1 ∙ may.free) m)
      | inr ne ↦ none k (subst (λ x. IsMine x a) (sym (with_other l k y w.lanes ne.1)) m)
    ]

    found_begun : IsFound shape s.log h (with_txn l y w.lanes) region
    found_begun = record {
      own = λ k a. by_lane (λ j x. IsMine x a → HasNo (IsToDelete s.log a) s.log → newest (region.at a) ≡ latest (written x) a (h a)) l y w.lanes may.lane
          (λ m none. found_at.others a (may.in_heap a m) (may.nobodys a m) none) (λ j ne. found_at.own j a) k;
      others = λ a m nobodys none. found_at.others a m (nobodys_was a nobodys) none;
    }

    fits_not : (p : ℕ) (u : UnderWay) → Fits shape s h p idle u → Fits shape s h p y u
    fits_not p nothing fits = tt
    fits_not p (appends adding made) fits = let one = fits.number in absurd (omega (arith, one))
    fits_not p (closes gates ends made) fits = let one = fits.number in absurd (omega (arith, one))
    fits_not p (takes_back gates made) fits = let one = fits.number in absurd (omega (arith, one))
    fits_not p (drops r made) fits = tt

    known_begun : (r : Record) → IsAmong s.log r → r.kind ≢ CHECKPOINT → IsLanes (with_txn l y w.lanes) r ⊎ IsGone s.log (with_txn l y w.lanes) r
    known_begun r m plain = elim (world.transactions.known r m plain) [
      | inl k ↦ (
          let ne : k.0 ≢ l = (λ e. (let none = idle_was k.0 e in let one = k.1 in omega (arith, none, one))) in
          let same = with_other l k.0 y w.lanes ne in
          inl (k.0, subst (λ (x : Txn). 1 ≤ x.number) (sym same) k.1, subst (λ (x : Txn). IsOf x.number r) (sym same) k.2))
      | inr gone ↦ inr (gone.0, by_lane (λ j x. x.number ≢ r.transaction) l y w.lanes may.lane (λ e. unused r m (sym e, plain)) (λ j ne. gone.1 j))
    ]

    begins_there : IsRedoWorldAt shape base s chains start_heap (with_redo_lane l y z) region
    begins_there = record {
      no_force = world.no_force;
      log = world.log;
      spare = world.spare;
      owners = owners_begun;
      transactions = record {
        each = by_lane (λ j x. IsTransaction shape s.log h x) l y w.lanes may.lane (transaction_same shape [] s.log h y (own_none number s.log unused) (begun_plain shape h number part words)) (λ j ne. world.transactions.each j);
        known = known_begun;
        apart = numbers_changed l y w.lanes may.lane (λ k ne one e. may.fresh k (sym e)) world.transactions.apart;
        barred = λ r k a m d. by_lane (λ j x. IsMine x a → IsOf x.number r) l y w.lanes may.lane (λ mine. absurd (free a mine r m d)) (λ j ne. world.transactions.barred r j a m d) k;
      };
      heap = record { full = world.heap.full; now = now_found shape s.log h (with_txn l y w.lanes) region owners_begun found_begun };
      stands = world.stands;
      stage = lane_stays shape s h w z.dirty region l y may.lane (λ off. refl)
          (λ p lt part. parts_changed shape s h w.keeping l y w.lanes p (w.under p) may.lane
          (λ e. fits_not p (w.under p) (subst (λ x. Fits shape s h p x (w.under p)) (ap (txn_at w.lanes) e ∙ may.free) part.fits)) part)
          z.checkpoint world.stage;
    }

  -- ---- its end

  -- nothing of the lane is under way, its records are ended or none, and it has written nothing beyond the history
  module _ (l : ℕ) (lane : l < length z.world.lanes) (resting : IsResting shape z.world.keeping l)
      (ended : (r : Record) → IsAmong s.log r → IsOf (txn_at z.world.lanes l).number r → IsEnded s.log r.transaction) (unwritten : written (txn_at z.world.lanes l) ≡ []) where
    none_of_zero : HasNo (IsOf 0) s.log
    none_of_zero r m of = let one = numbered_one r m of.1 in let zero_is = of.0 in omega (arith, one, zero_is)

    owners_left : AreOwners shape (with_txn l idle w.lanes)
    owners_left = owners_changed shape l idle w.lanes lane (λ a m. absurd (idle_none a m)) (λ k a ne m. absurd (idle_none a m)) world.owners

    -- what nobody has now the lane had, with nothing written beyond the history, or nobody
    others_left : (a : ℕ) → IsHeapWord shape a → IsNobodys (with_txn l idle w.lanes) a → HasNo (IsToDelete s.log a) s.log → newest (region.at a) ≡ h a
    others_left a m nobodys none = elim (whose w.lanes a) [
      | inl k ↦ (elim (eqb_tells k.0 l) [
        | inl e ↦ found_at.own k.0 a k.1 none ∙ ap (λ (x : List Write). latest x a (h a)) (ap (λ j. written (txn_at w.lanes j)) e.1 ∙ unwritten)
        | inr ne ↦ absurd (nobodys k.0 (subst (λ x. IsMine x a) (sym (with_other l k.0 idle w.lanes ne.1)) k.1))
      ])
      | inr was ↦ found_at.others a m was none
    ]

    found_left : IsFound shape s.log h (with_txn l idle w.lanes) region
    found_left = record {
      own = λ k a. by_lane (λ j x. IsMine x a → HasNo (IsToDelete s.log a) s.log → newest (region.at a) ≡ latest (written x) a (h a)) l idle w.lanes lane
          (λ m. absurd (idle_none a m)) (λ j ne. found_at.own j a) k;
      others = others_left;
    }

    known_left : (r : Record) → IsAmong s.log r → r.kind ≢ CHECKPOINT → IsLanes (with_txn l idle w.lanes) r ⊎ IsGone s.log (with_txn l idle w.lanes) r
    known_left r m plain = elim (world.transactions.known r m plain) [
      | inl k ↦ elim (eqb_tells k.0 l) [
        | inl e ↦ (
            let of = subst (λ j. IsOf (txn_at w.lanes j).number r) e.1 k.2 in
            inr (
              ended r m of,
              by_lane (λ j x. x.number ≢ r.transaction) l idle w.lanes lane
                  (λ none. (let one = numbered_one r m plain in omega (arith, none, one)))
                  (λ j ne same. ne (sym (world.transactions.apart l j (subst (λ i. 1 ≤ (txn_at w.lanes i).number) e.1 k.1) (sym of.0 ∙ sym same)))),
            ))
        | inr ne ↦ (
            let same = with_other l k.0 idle w.lanes ne.1 in
            inl (k.0, subst (λ (x : Txn). 1 ≤ x.number) (sym same) k.1, subst (λ (x : Txn). IsOf x.number r) (sym same) k.2))
      ]
      | inr gone ↦ inr (gone.0, by_lane (λ j x. x.number ≢ r.transaction) l idle w.lanes lane (λ none. (let one = numbered_one r m plain in omega (arith, none, one))) (λ j ne. gone.1 j))
    ]

    leaves_there : IsRedoWorldAt shape base s chains start_heap (with_redo_lane l idle z) region
    leaves_there = record {
      no_force = world.no_force;
      log = world.log;
      spare = world.spare;
      owners = owners_left;
      transactions = record {
        each = by_lane (λ j x. IsTransaction shape s.log h x) l idle w.lanes lane (transaction_same shape [] s.log h idle (own_none 0 s.log none_of_zero) (idle_told shape h)) (λ j ne. world.transactions.each j);
        known = known_left;
        apart = numbers_changed l idle w.lanes lane (λ k ne one. absurd (omega (arith, one))) world.transactions.apart;
        barred = λ r k a m d. by_lane (λ j x. IsMine x a → IsOf x.number r) l idle w.lanes lane (λ mine. absurd (idle_none a mine)) (λ j ne. world.transactions.barred r j a m d) k;
      };
      heap = record { full = world.heap.full; now = now_found shape s.log h (with_txn l idle w.lanes) region owners_left found_left };
      stands = world.stands;
      stage = lane_stays shape s h w z.dirty region l idle lane (λ off. refl) (λ p lt part. parts_rest shape s h w.keeping l idle w.lanes p (w.under p) lane lt resting part) z.checkpoint world.stage;
    }

-- a history with the same heap does as well
with_history : (shape : Shape) (base : Words) (s : State) (chains : ℕ → List ℕ) (start_heap : Words) (z : RedoWorld) (region : Region) (history : List Entry) →
    fold start_heap history ≡ fold start_heap z.world.history → IsRedoWorldAt shape base s chains start_heap z region →
    IsRedoWorldAt shape base s chains start_heap (with_world (record z.world { history = history }) z) region
with_history shape base s chains start_heap z region history same world = record {
  no_force = world.no_force;
  log = world.log;
  spare = world.spare;
  owners = world.owners;
  transactions = subst (λ h. AreRedoTransactions shape s.log h z.world.lanes) (sym same) world.transactions;
  heap = subst (λ h. IsRedoHeap shape s.log h z.world.lanes region) (sym same) world.heap;
  stands = subst (λ h. StandsForHeap shape s.log h region) (sym same) world.stands;
  stage = history_stays shape s (fold start_heap history) z.world z.dirty region history z.checkpoint (subst (λ h. IsAtStage shape s h z.world z.dirty z.checkpoint region) (sym same) world.stage);
}

pub begins_keep : BeginsKeep
begins_keep shape base s chains start_heap z region l number part words may unused free world = begins_there shape base s chains start_heap z region world l number part words may unused free

pub departs_keep : DepartsKeep
departs_keep shape base s chains start_heap z region l may world =
    leaves_there shape base s chains start_heap z region world l may.lane may.resting
    (λ r m of. subst (IsEnded s.log) (sym of.0) (((world.transactions.each l).ended may.is_over).has_end (r, m, of))) (over_unwritten (txn_at z.world.lanes l) may.is_over)

pub unrecorded_leave : UnrecordedLeave
unrecorded_leave shape base s chains start_heap z region l may world =
    leaves_there shape base s chains start_heap z region world l may.lane may.resting (λ r m of. absurd (may.no_record r m of)) (unstored_unwritten (txn_at z.world.lanes l) may.runs may.none_stored)

pub unrecorded_commit : UnrecordedCommit
unrecorded_commit shape base s chains start_heap z region l e none may world =
    with_history shape base s chains start_heap (with_redo_lane l idle z) region (z.world.history ++ e ∷ []) (fold_unwritten start_heap z.world.history e none)
    (unrecorded_leave shape base s chains start_heap z region l may world)
