-- Where there is no checkpoint, a world's keeper, lanes and history make a moment at each image.
use Rattle.std.proofs.Common.{◌≡◌, ◌≢◌, inl, inr, ℕ, ◌+◌, ◌<◌, ◌≤◌, true, false, not, nat_lt, if◌then◌else◌, List, length, refl, sym, ap, ◌∙◌, subst, arith}
use Rattle.std.proofs.lemmas.Bool.Decides.{nat_tests}
use Rattle.persist_model.specs.Region.{Words, Region, IsCandidate}
use Rattle.persist_model.specs.Records.{Record, IsAmong, NamesWord, IsRunning}
use Rattle.persist_model.specs.Standing.{IsLatest}
use Rattle.persist_model.specs.Order.{undo_point}
use Rattle.persist_model.specs.Need.{to_undo}
use Rattle.persist_model.specs.Shape.{Shape, part_of, heap_words, IsHeapWord}
use Rattle.persist_model.specs.State.{State}
use Rattle.log_laws.specs.Moves.{IsOfRunning, MayName, IsChangeBy}
use Rattle.bucket_log.specs.declared.append.Place.{Place}
use Rattle.bucket_log.specs.Appends.{region_append}
use Rattle.plan_records.proofs.Changes.{heap_word_is}
use Rattle.log_keeper.specs.Parts.{appends as adds, Running, CanRun}
use Rattle.log_keeper.specs.Making.{is_over}
use Rattle.log_keeper.proofs.Ledgers.{in_ledger}
use Rattle.history_laws.specs.Histories.{Entry, LeavesWord, fold}
use Rattle.history_laws.specs.UnderWay.{Added, an_update, a_deletion, a_rollback, a_compensation, an_undone_end, a_commit_end, Adding, record_of_adding, UnderWay, nothing, appends, closes, takes_back, drops, run_of, IsStored, IsAddedIn}
use Rattle.history_laws.specs.Moments.{IsEntryOf, IsInFlight, CanAdd, Serves, IsRunningIn, AreTogether, IsMoment}
use Rattle.txn_laws.specs.Txns.{Txn, txn_at, entry_of}
use Rattle.txn_laws.specs.Flights.{flight_of}
use Rattle.txn_laws.specs.Owners.{IsMine}
use Rattle.txn_laws.specs.NextRecords.{ComesNext, is_end, IsAppendOf}
use Rattle.txn_laws.specs.PartsOf.{Fits}
use Rattle.redo_laws.specs.Stages.{IsNoClosing}
use Rattle.txn_laws.specs.Worlds.{World}
use Rattle.txn_laws.proofs.Flying.{IsFlying, IsEntryAt, flight_from, is_in_flight, split_at}
use Rattle.txn_laws.proofs.Finding.{stands_word}
use Rattle.txn_laws.proofs.Moments.{record_by, append_part}
use Rattle.txn_laws.proofs.Records.{changed_own, deleted_own, entry_leaves, entry_is}
use Rattle.redo_laws.proofs.Owned.{word_free}
use Rattle.redo_laws.proofs.Plain.{IsPlainAt}

over_when : (n made : ℕ) → n < made + 2 → not (nat_lt (made + 1) n) ≡ true
over_when n made lt = grind (arith, nat_tests, lt)

module _ (shape : Shape) (base : Words) (s : State) (chains : ℕ → List ℕ) (start : Words) (w : World) (region : Region) (world : IsPlainAt shape base s chains start w region) where
  abbrev h : Words
  h = fold start w.history

  abbrev lane : ℕ → Txn
  lane l = txn_at w.lanes l

  -- ---- an append under way

  module _ (l p : ℕ) (inside : p < shape.partitions) where
    running_of : (r : Record) → (lane l).part ≡ p → (lane l).over ≡ false → r.transaction ≡ (lane l).number → part_of shape r.at ≡ p → IsOfRunning shape s.log r
    running_of r here runs of there = record {
      running = subst (IsRunning s.log) (sym of) ((world.transactions.each l).going runs).running;
      one_part = λ x m o. (world.transactions.each l).in_part x m (o.0 ∙ of, o.1) ∙ here ∙ sym there;
    }

    may_name : (r : Record) → (lane l).over ≡ false → (lane l).rolled ≡ false → r.transaction ≡ (lane l).number → IsMine (lane l) r.word → MayName s.log r
    may_name r runs unrolled of mine = record {
      not_rolled = λ x m k. ((world.transactions.each l).going runs).rolled_is unrolled x m ((k.0.0 ∙ of, k.0.1), k.1);
      free = word_free shape s.log h w.lanes world.owners world.transactions l r of mine;
    }

    pub can_add : (adding : Adding) (made : ℕ) → IsAppendOf shape s h p (lane l) adding made → part_of shape (record_of_adding adding).at ≡ p → CanAdd shape s (record_of_adding adding) adding.added
    can_add adding made fits there = by adding.added fits.next fits.own fits.of there
      where
        some : (r : Record) → r.transaction ≡ (lane l).number → 1 ≤ r.transaction
        some r of = let one = fits.number in omega (arith, of, one)

        by : (added : Added) → let r = record_by adding added in ComesNext shape s h (lane l) r added → (NamesWord r → IsMine (lane l) r.word) →
            r.transaction ≡ (lane l).number → part_of shape r.at ≡ p → CanAdd shape s r added
        by (an_update u) next own of there =
            let mine = own (inl (inl refl)) in record {
              transaction = some (record_by adding (an_update u)) of;
              word = world.owners.heap_words l u.word mine;
              no_root = next.no_root;
              running = running_of (record_by adding (an_update u)) fits.here fits.runs of there;
              free = may_name (record_by adding (an_update u)) fits.runs next.unrolled of mine;
              cells = next.cells;
            }
        by (a_deletion g) next own of there = record {
          transaction = some (record_by adding (a_deletion g)) of;
          block = next.plain;
          running = running_of (record_by adding (a_deletion g)) fits.here fits.runs of there;
          free = may_name (record_by adding (a_deletion g)) fits.runs next.unrolled of (own (inr refl));
          cells = next.cells;
        }
        by (a_rollback t) next own of there = record {
          open_one = record { transaction = some (record_by adding (a_rollback t)) of; kept = next.1; running = running_of (record_by adding (a_rollback t)) fits.here fits.runs of there };
          first = λ x m k. ((world.transactions.each l).going fits.runs).rolled_is next.0 x m ((k.0.0 ∙ of, k.0.1), k.1);
        }
        by (a_compensation u cell) next own of there = (
          next.0,
          record {
            transaction = some (record_by adding (a_compensation u cell)) of;
            running = running_of (record_by adding (a_compensation u cell)) fits.here fits.runs of there;
            stack = next.1.others;
            newest = ap (λ t. to_undo t s.log) of ∙ ((world.transactions.each l).going fits.runs).to_undo_is ∙ next.1.newest_is;
          },
        )
        by (an_undone_end t) next own of there = record {
          open_one = record { transaction = some (record_by adding (an_undone_end t)) of; kept = next.1.cells; running = running_of (record_by adding (an_undone_end t)) fits.here fits.runs of there };
          nothing_left = ap (λ t. to_undo t s.log) of ∙ ((world.transactions.each l).going fits.runs).to_undo_is ∙ next.0;
        }
        by (a_commit_end t) next own of there = record { transaction = some (record_by adding (a_commit_end t)) of; kept = next.1.cells; running = running_of (record_by adding (a_commit_end t)) fits.here fits.runs of there }

  module _ (l : ℕ) where
    -- no commit in flight writes a word that is the lane's own
    flight_leaves : (e : Entry) (a k : ℕ) → IsEntryAt w.lanes k e → IsMine (lane l) a → k ≢ l → LeavesWord e a
    flight_leaves e a k entry mine other = subst (λ f. LeavesWord f a) (sym entry.entry)
        (entry_leaves shape s.log h (lane k) a (world.transactions.each k) ((world.transactions.each k).going entry.flying.over_is) (λ m. other (world.owners.apart k l a m mine)))

    in_flight_there : (t : ℕ) → t ≡ (lane l).number → 1 ≤ (lane l).number → IsFlying (lane l) → length (lane l).updates ≡ length (lane l).writes →
        IsInFlight s.log h (flight_of w.lanes) t
    in_flight_there t is one flying all =
        let split = split_at w.lanes l (is_in_flight (lane l) flying) in
        let of = world.transactions.each l in
        let going = of.going flying.over_is in
        record {
          front = split.front;
          entry = entry_of (lane l);
          rest = split.rest;
          split = split.split;
          own = sym is;
          writes = subst (λ n. IsEntryOf s.log h n (entry_of (lane l))) (sym is) (entry_is shape s.log h (lane l) of going all);
          apart = λ e m same. (let k = split.others e m in k.1 (sym (world.transactions.apart l k.0 one (sym is ∙ sym same ∙ ap (λ (f : Entry). f.transaction) k.2.entry))));
          alone = λ e m a named. (let k = split.others e m in flight_leaves e a k.0 k.2 (elim named [
            | inl d ↦ deleted_own shape s.log h (lane l) a d.0 of going.running d.1 (d.2.0, d.2.1, d.2.2 ∙ is)
            | inr c ↦ changed_own shape s.log h (lane l) a c.0 of going.running c.1 (c.2.0, c.2.1, c.2.2 ∙ is)
          ]) k.1);
        }

  -- what is known of a record that is under way
  record IsAddedBy (p : ℕ) (r : Record) : Type 0 where
    number : 1 ≤ (lane (w.keeping.holder p)).number
    of : r.transaction ≡ (lane (w.keeping.holder p)).number
    here : (lane (w.keeping.holder p)).part ≡ p
    own : NamesWord r → IsMine (lane (w.keeping.holder p)) r.word
    place : Place
    run : (w.keeping.runs p).part ≡ adds place r

  added_by : (p : ℕ) (r : Record) → p < shape.partitions → IsAddedIn shape p (w.under p) r → IsAddedBy p r
  added_by p r lt added = by (w.under p) (world.parts p lt).run (world.parts p lt).fits added
    where
      by : (u : UnderWay) → w.keeping.runs p ≡ run_of u → Fits shape s h p (lane (w.keeping.holder p)) u → IsAddedIn shape p u r → IsAddedBy p r
      by nothing is fits k = absurd k
      by (appends adding made) is fits k = record {
        number = fits.number;
        of = subst (λ x. x.transaction ≡ (lane (w.keeping.holder p)).number) (sym k.1) fits.of;
        here = fits.here;
        own = subst (λ x. NamesWord x → IsMine (lane (w.keeping.holder p)) x.word) (sym k.1) fits.own;
        place = adding.place;
        run = ap (λ (x : Running). x.part) is ∙ ap (adds adding.place) (sym k.1);
      }
      by (closes gates ends made) is fits k = absurd k
      by (takes_back gates made) is fits k = absurd k
      by (drops d made) is fits k = absurd k

  together : (p q : ℕ) (r x : Record) → p < shape.partitions → q < shape.partitions → q ≢ p → IsAddedIn shape p (w.under p) r → IsAddedIn shape q (w.under q) x → AreTogether r x
  together p q r x lp lq ne a b =
      let f = added_by p r lp a in
      let g = added_by q x lq b in
      record {
        transactions = λ e. other f g (world.transactions.apart (w.keeping.holder p) (w.keeping.holder q) f.number (sym f.of ∙ sym e ∙ g.of));
        numbers = world.log.fits.apart p q f.place g.place r x lp lq ne f.run g.run;
        words = λ n m e. other f g (world.owners.apart (w.keeping.holder p) (w.keeping.holder q) r.word (f.own n) (subst (IsMine (lane (w.keeping.holder q))) e (g.own m)));
      }
    where
      other : IsAddedBy p r → IsAddedBy q x → w.keeping.holder p ≡ w.keeping.holder q → ⊥
      other f g same = ne (sym g.here ∙ sym (ap (λ l. (lane l).part) same) ∙ f.here)

  drawn : (p : ℕ) (r : Record) → p < shape.partitions → IsAddedIn shape p (w.under p) r → r.lsn < w.next
  drawn p r lt added =
      let f = added_by p r lt added in
      let n = world.log.fits.noted p f.place r lt f.run in
      subst (λ x. x.lsn < w.next) n.2 (world.log.ordered.below n.0 n.1)

  pub below_next : (r : Record) → IsAmong s.log r → r.lsn < w.next
  below_next r m =
      let n = in_ledger w.keeping.ledger r (subst (λ log. IsAmong log r) world.log.logged.records m) in
      subst (λ x. x.lsn < w.next) n.2 (world.log.ordered.below n.0 n.1)

  -- ---- words of the heap that a stop may leave

  module _ (i : Words) (image : (a : ℕ) → IsHeapWord shape a → IsCandidate (region.at a) (i a)) where
    module _ (l p : ℕ) (inside : p < shape.partitions) where
      pub serves_there : (adding : Adding) (made : ℕ) → IsAppendOf shape s h p (lane l) adding made → IsStored shape p adding made →
          Serves shape s h (flight_of w.lanes) (heap_words shape i) (record_of_adding adding) adding.added
      serves_there adding made fits stored = by adding.added fits.next fits.own fits.of fits.ended_is stored
        where
          by : (added : Added) → let r = record_by adding added in ComesNext shape s h (lane l) r added → (NamesWord r → IsMine (lane l) r.word) →
              r.transaction ≡ (lane l).number → (lane l).ended ≡ (if is_end added then is_over (region_append shape p adding.place (record_by adding added)) (made + 1) else false) → length (region_append shape p adding.place r) < made + 2 →
              Serves shape s h (flight_of w.lanes) (heap_words shape i) r added
          by (an_update u) next own of ended stored =
              let going = (world.transactions.each l).going fits.runs in record {
                undo_next = next.point_is ∙ sym going.point_is ∙ sym (ap (λ t. undo_point t s.log) of);
                own = λ x last. next.of_write.before ∙ sym (going.changed u.word x (subst (λ n. IsLatest (IsChangeBy n u.word) s.log x) of last));
                plain = λ none. next.of_write.before ∙ going.unchanged u.word (λ x m c. none x m (c.0, c.1, c.2 ∙ sym of)) (h u.word);
                alone = λ e m. (
                    let k = flight_from w.lanes e m in
                    flight_leaves l e u.word k.0 k.1 (own (inl (inl refl))) (λ same. (let on = k.1.flying.ended_is in let e = sym (ap (λ j. (lane j).ended) same) ∙ on in let off = sym e ∙ ended in cc)));
              }
          by (a_deletion g) next own of ended stored = tt
          by (a_rollback t) next own of ended stored = tt
          by (a_compensation u cell) next own of ended stored = tt
          by (an_undone_end t) next own of ended stored = λ force. absurd (force world.no_force)
          by (a_commit_end t) next own of ended stored = (
            (λ force. absurd (force world.no_force)),
            in_flight_there l t of fits.number (record { commits_is = next.1.commits_is; ended_is = ended ∙ over_when _ made stored; over_is = fits.runs }) next.0,
          )

      -- ---- a part under way

      running_in : (u : UnderWay) → w.keeping.runs p ≡ run_of u → Fits shape s h p (lane l) u → CanRun shape p base s (chains p) (run_of u).part → IsNoClosing u →
          IsRunningIn shape base s h (flight_of w.lanes) (heap_words shape i) p u
      running_in nothing is fits can no_closing = tt
      running_in (appends adding made) is fits can no_closing = record {
        chain = chains p;
        can = can;
        ready = λ stored. record {
          passes = fits.passes;
          can = can_add l p inside adding made fits (append_part shape p _ (chains p) adding.place (record_of_adding adding) world.log.logged.allowed inside can);
          serves = serves_there adding made fits stored;
        };
      }
      running_in (closes gates ends made) is fits can no_closing = absurd no_closing
      running_in (takes_back gates made) is fits can no_closing = record {
        deferred = λ a m. (
            let d = can.0 a m in
            let of = fits.own d.0 d.1 (subst (IsAmong gates) (sym d.2.0) m) in
            (d.0, d.1, (d.2.0, (d.2.1, subst (IsRunning s.log) (sym of.0) ((world.transactions.each l).going fits.runs).running))));
        here = λ d m on. can.1 d.at on;
      }
      running_in (drops r made) is fits can no_closing = can

    -- ---- all partitions

    run_there : (p : ℕ) → p < shape.partitions → IsRunningIn shape base s h (flight_of w.lanes) (heap_words shape i) p (w.under p)
    run_there p lt =
        let part = world.parts p lt in
        running_in (w.keeping.holder p) p lt (w.under p) part.run part.fits
        (subst (λ (run : Running). CanRun shape p base s (chains p) run.part) part.run (world.log.logged.can p lt)) (world.no_closing p lt)

    pub moment : IsMoment shape base s h (flight_of w.lanes) w.under (heap_words shape i)
    moment = record {
      allowed = world.log.logged.allowed;
      has = world.log.logged.has;
      sound = world.log.sound;
      runs = run_there;
      together = together;
      in_flight = λ e m. (
          let k = flight_from w.lanes e m in
          subst (IsRunning s.log) (sym (ap (λ (f : Entry). f.transaction) k.1.entry)) ((world.transactions.each k.0).going k.1.flying.over_is).running);
      spare = λ two. world.spare;
      top = w.next;
      above = below_next;
      drawn = drawn;
      numbers = world.log.numbers;
      standing = λ a m. (
          stands_word shape.policy s.log (λ b. i a) (heap_words shape i) a (h a) (sym (heap_word_is shape i a m)) (world.stands a (i a) m (image a m)));
    }
