-- The last event of a taking back, where there is no checkpoint.
use Rattle.std.proofs.Common.{◌≡◌, ◌≢◌, ◌⊎◌, inl, inr, ℕ, ◌<◌, ◌≤◌, Bool, if◌then◌else◌, List, [], length, refl, sym, ap, ◌∙◌, subst, arith}
use Rattle.persist_model.specs.declared.event.Event.{Event}
use Rattle.persist_model.specs.Region.{Words, Region, IsCandidate, newest}
use Rattle.persist_model.specs.Progress.{latest}
use Rattle.persist_model.specs.Records.{Record, Log, IsAmong, HasNo, IsOf, IsDeletion, IsRunning, IsEnded}
use Rattle.persist_model.specs.Standing.{IsToDelete, Stands}
use Rattle.persist_model.specs.Need.{need_in}
use Rattle.persist_model.specs.Shape.{Shape, part_of, IsHeapWord}
use Rattle.persist_model.specs.State.{State, IsSoundState}
use Rattle.log_laws.specs.Closing.{IsSublog}
use Rattle.log_laws.specs.Moves.{IsDeferred}
use Rattle.log_laws.proofs.Deferring.{stands_left, needs_left}
use Rattle.plan_records.specs.Courses.{own_records}
use Rattle.log_clearing.specs.Clearing.{AreDeferred}
use Rattle.log_keeper.specs.Parts.{takes_back as drops_deletions, words_behind, waits_for, CanRun, Running}
use Rattle.log_keeper.specs.Ledger.{left_open}
use Rattle.log_keeper.specs.Laws.{HasClosed}
use Rattle.log_keeper.specs.Making.{made_part}
use Rattle.log_keeper.specs.Events.{IsLastEvent, region_made}
use Rattle.log_keeper.proofs.Progressing.{by_part, only_gates}
use Rattle.log_keeper.proofs.Made.{takings_back_are_made}
use Rattle.log_keeper.proofs.Sounding.{takings_back_stay_sound}
use Rattle.history_laws.specs.Histories.{fold}
use Rattle.history_laws.specs.UnderWay.{nothing, takes_back}
use Rattle.txn_laws.specs.Txns.{Txn, txn_at, with_txn, written}
use Rattle.txn_laws.specs.Owners.{IsMine, AreOwners}
use Rattle.txn_laws.specs.AreTransactions.{IsTransaction}
use Rattle.txn_laws.specs.PartsOf.{IsTakingBackOf, Fits}
use Rattle.txn_laws.specs.Worlds.{World}
use Rattle.txn_laws.specs.TakingsBack.{with_gifts_left, world_taken}
use Rattle.txn_laws.proofs.Lanes.{by_lane, IsFound, now_found, owners_same, nobodys_same, numbers_same, numbers_changed}
use Rattle.txn_laws.proofs.SameRecords.{transaction_same}
use Rattle.txn_laws.proofs.LogEvents.{LeavesHeap, next_is_log, leaves_heap}
use Rattle.txn_laws.proofs.LeftOpen.{left_back, left_stays, own_left}
use Rattle.txn_laws.proofs.TakenTxns.{one_record, plain_stays, taken_txn, deferred_part}
use Rattle.txn_laws.proofs.PartEnds.{log_settled, parts_settled}
use Rattle.txn_laws.proofs.StayFit.{KeepsFor, some_lane, others_fit}
use Rattle.redo_laws.specs.Stages.{IsNoClosing, AreTold}
use Rattle.redo_laws.specs.Transactions.{IsLanes, IsGone, AreRedoTransactions}
use Rattle.redo_laws.specs.Worlds.{with_world}
use Rattle.redo_laws.specs.Parts.{TakingsBackEnd}
use Rattle.redo_laws.proofs.LaneTxns.{known_with}
use Rattle.redo_laws.proofs.Plain.{IsPlainAt, at_none, plain_of, plain_found, with_told}
use Rattle.redo_laws.proofs.Telling.{log_stores_none, told_beside}

module _ (shape : Shape) (base : Words) (s : State) (chains : ℕ → List ℕ) (start : Words) (w : World) (region : Region) (p : ℕ) (e : Event) (gates : List ℕ) (made : ℕ)
    (under_is : w.under p ≡ takes_back gates made) (last : IsLastEvent shape w.keeping p e (drops_deletions gates)) (world : IsPlainAt shape base s chains start w region) where
  abbrev h : Words
  h = fold start w.history

  abbrev l : ℕ
  l = w.keeping.holder p

  abbrev x : Txn
  x = txn_at w.lanes (w.keeping.holder p)

  abbrev y : Txn
  y = with_gifts_left gates (txn_at w.lanes (w.keeping.holder p))

  abbrev lanes : List Txn
  lanes = with_txn (w.keeping.holder p) (with_gifts_left gates (txn_at w.lanes (w.keeping.holder p))) w.lanes

  abbrev log : Log
  log = left_open gates [] [] s.log

  abbrev later : Region
  later = region_made w.keeping p e region

  inside : p < shape.partitions
  inside = last.event.inside

  fits : IsTakingBackOf s.log p x gates
  fits = subst (λ u. Fits shape s h p x u) under_is (world.parts p inside).fits

  can : CanRun shape p base s (chains p) (drops_deletions gates)
  can = subst (CanRun shape p base s (chains p)) last.under_way (world.log.logged.can p inside)

  lane : l < length w.lanes
  lane = some_lane l w.lanes fits.number

  told : IsTransaction shape s.log h x
  told = world.transactions.each l

  running : IsRunning s.log x.number
  running = (told.going fits.runs).running

  leaves : LeavesHeap shape region later
  leaves = leaves_heap shape region l e (next_is_log shape base s chains w.keeping region p e last.event world.log.logged)

  closed : HasClosed shape (words_behind shape p (drops_deletions gates) base) s chains (made_part shape p w.keeping) later log
  closed = takings_back_are_made shape base s chains w.keeping region p e gates last world.log.logged

  -- ---- the deletions

  six : (d : Record) → IsAmong s.log d → IsAmong gates d.at → IsDeletion d
  six d m on = let k = can.0 d.at on in subst IsDeletion (one_record shape base s world.log.logged.has k.0 d k.1 m k.2.0) k.2.1

  -- each is the transaction's own, which runs
  its_own : (d : Record) → IsAmong s.log d → IsAmong gates d.at → IsRunning s.log d.transaction
  its_own d m on = subst (IsRunning s.log) (sym (fits.own d m on).0) running

  deferred : AreDeferred s.log gates
  deferred a m = let d = can.0 a m in (d.0, d.1, (d.2.0, (d.2.1, its_own d.0 d.1 (subst (IsAmong gates) (sym d.2.0) m))))

  part : IsSublog (IsDeferred s.log) log s.log
  part = deferred_part gates s.log (λ d m on. (six d m on, its_own d m on)) s.log (λ r m. m)

  sound : IsSoundState shape closed.state
  sound = takings_back_stay_sound shape p base s closed.state gates world.log.logged.allowed.partitions.1 world.log.logged.has world.log.sound deferred closed.logged.has

  needs : (q : ℕ) → need_in (part_of shape) q closed.state.log ≤ need_in (part_of shape) q s.log
  needs q = subst (λ g. need_in (part_of shape) q g ≤ need_in (part_of shape) q s.log) (sym closed.log_is) (needs_left s.log log part (part_of shape) q world.log.sound.order)

  back : (r : Record) → IsAmong log r → IsAmong s.log r
  back r m = (left_back gates [] [] s.log r m).0

  -- ends stay, and there are no others
  ended_left : (t : ℕ) → IsEnded s.log t → IsEnded log t
  ended_left t is = (is.0, plain_stays gates s.log six is.0 is.1 (λ six_too. (let four = is.2.0 in omega (arith, four, six_too))), is.2)

  delete_back : (a : ℕ) (r : Record) → IsToDelete log a r → IsToDelete s.log a r
  delete_back a r is = (is.0, is.1, (is.2.0, back is.2.0 is.2.1, is.2.2))

  -- ---- the transactions

  other_number : (j : ℕ) → j ≢ l → (txn_at w.lanes j).number ≢ x.number
  other_number j ne same = ne (sym (world.transactions.apart l j fits.number (sym same)))

  other_own : (j : ℕ) → j ≢ l → own_records (txn_at w.lanes j).number log ≡ own_records (txn_at w.lanes j).number s.log
  other_own j ne = own_left gates [] [] (txn_at w.lanes j).number s.log (λ r m on of. other_number j ne (sym of.0 ∙ (fits.own r m (only_gates gates r.at on)).0))

  known_left : (r : Record) → IsLanes lanes r ⊎ IsGone s.log lanes r → IsLanes lanes r ⊎ IsGone log lanes r
  known_left r (inl k) = inl k
  known_left r (inr gone) = inr (ended_left r.transaction gone.0, gone.1)

  transactions : AreRedoTransactions shape log h lanes
  transactions = record {
    each = by_lane (λ j z. IsTransaction shape log h z) l y w.lanes lane (taken_txn gates s.log six shape h p x fits told)
        (λ j ne. transaction_same shape s.log log h (txn_at w.lanes j) (other_own j ne) (world.transactions.each j));
    known = λ r m plain. known_left r (known_with s.log w.lanes l y r lane refl (world.transactions.known r (back r m) plain));
    apart = numbers_changed l y w.lanes lane (numbers_same l y w.lanes refl world.transactions.apart) world.transactions.apart;
    barred = λ r k a m d. by_lane (λ j z. IsMine z a → IsOf z.number r) l y w.lanes lane (world.transactions.barred r l a (back r m) (delete_back a r d))
        (λ j ne. world.transactions.barred r j a (back r m) (delete_back a r d)) k;
  }

  owners : AreOwners shape lanes
  owners = owners_same shape l y w.lanes lane refl world.owners

  -- ---- the heap

  was : IsFound shape s.log h w.lanes region
  was = plain_found shape base s chains start w region world

  -- no deletion that is taken back is of a committed transaction
  none_back : (a : ℕ) → HasNo (IsToDelete log a) log → HasNo (IsToDelete s.log a) s.log
  none_back a none d m is =
      let c = is.2 in
      none d (left_stays gates [] [] s.log d m (λ on. its_own d m (only_gates gates d.at on) c.0 c.1 c.2.0))
      (is.0, is.1, (c.0, plain_stays gates s.log six c.0 c.1 (λ six_too. (let four = c.2.0.0 in omega (arith, four, six_too))), c.2))

  is_found : IsFound shape log h lanes later
  is_found = record {
    own = λ j a. by_lane (λ j z. IsMine z a → HasNo (IsToDelete log a) log → newest (later.at a) ≡ latest (written z) a (h a)) l y w.lanes lane
        (λ m none. leaves.newest_is a (world.owners.heap_words l a m) ∙ was.own l a m (none_back a none))
        (λ j ne m none. leaves.newest_is a (world.owners.heap_words j a m) ∙ was.own j a m (none_back a none)) j;
    others = λ a inner nobodys none. leaves.newest_is a inner ∙ was.others a inner (nobodys_same l y w.lanes a lane refl nobodys) (none_back a none);
  }

  stands : (a u : ℕ) → IsHeapWord shape a → IsCandidate (later.at a) u → Stands shape.policy log (λ b. u) a (h a)
  stands a u inner is = stands_left s.log log part shape.policy (λ b. u) a (h a) (world.stands a u inner (leaves.fewer a u inner is))

  -- ---- what is under way elsewhere

  keeps : (j : ℕ) → j ≢ l → KeepsFor shape s closed.state (txn_at w.lanes j).number
  keeps j ne = record {
    own = ap (own_records (txn_at w.lanes j).number) closed.log_is ∙ other_own j ne;
    among = λ r m. back r (subst (λ g. IsAmong g r) closed.log_is m);
    need = needs;
    room = closed.no_less;
  }

  plain_taken : IsPlainAt shape (words_behind shape p (drops_deletions gates) base) closed.state chains start (world_taken shape p gates w) later
  plain_taken = record {
    no_force = world.no_force;
    log = log_settled shape base s chains w.keeping w.next region p e (drops_deletions gates) last world.log closed.state chains sound closed.logged;
    spare = (let enough = world.spare in let need = needs 0 in let room = closed.no_less 0 in omega (arith, enough, need, room));
    owners = owners;
    transactions = subst (λ g. AreRedoTransactions shape g h lanes) (sym closed.log_is) transactions;
    heap = record {
      full = λ a inner. leaves.full a inner (world.heap.full a inner);
      now = now_found shape closed.state.log h lanes later owners (subst (λ g. IsFound shape g h lanes later) (sym closed.log_is) is_found);
    };
    stands = λ a u inner is. subst (λ g. Stands shape.policy g (λ b. u) a (h a)) (sym closed.log_is) (stands a u inner is);
    unmarked = λ r m. world.unmarked r (back r (subst (λ g. IsAmong g r) closed.log_is m));
    parts = parts_settled shape s closed.state h w.keeping w.lanes lanes w.under p last.last world.parts
        (λ q lt ne. others_fit shape s closed.state h l y w.lanes keeps q (w.keeping.holder q) (w.under q)
        (subst (λ (run : Running). waits_for run.part (w.keeping.holder q) ≢ l) (world.parts q lt).run (last.event.alone q lt ne)) (world.parts q lt).fits);
    no_closing = λ q lt. by_part (λ n t. n < shape.partitions → IsNoClosing (if t then nothing else w.under n)) p q (λ inner. tt) (λ ne inner. world.no_closing q inner) lt;
  }

  told_later : (dirty : ℕ → Bool) → AreTold shape dirty region → AreTold shape dirty later
  told_later dirty = told_beside shape dirty region l e (λ a m. log_stores_none shape a e m (next_is_log shape base s chains w.keeping region p e last.event world.log.logged))

pub takings_back_end : TakingsBackEnd
takings_back_end shape base s chains start z region p e gates made free under_is last world =
    let plain = plain_of shape base s chains start z region free world in
    let left = closed shape base s chains start z.world region p e gates made under_is last plain in
    record {
      state = left.state;
      log_is = left.log_is;
      no_less = left.no_less;
      world = with_told shape _ _ _ start (with_world (world_taken shape p gates z.world) z) (region_made z.world.keeping p e region) free
          (told_later shape base s chains start z.world region p e gates made under_is last plain z.dirty
          (at_none shape s (fold start z.world.history) z.world z.dirty z.checkpoint region free world.stage).told)
          (plain_taken shape base s chains start z.world region p e gates made under_is last plain);
    }
