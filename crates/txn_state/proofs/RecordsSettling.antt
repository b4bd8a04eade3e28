-- The last event of the append of an update, a rollback record or a compensation: the latch is let go, and the call goes on.
use Rattle.std.proofs.Common.{◌≡◌, ◌≢◌, inl, inr, ℕ, zero, suc, ◌+◌, ◌-◌, ◌*◌, ◌%◌, ◌<◌, ◌≤◌, Bool, true, false, if◌then◌else◌, List, ◌∷◌, length, map, refl, sym, ap, ◌∙◌, subst, arith, ◌==◌, [], ◌++◌, Some, None, length-append, reverse}
use Rattle.std.proofs.lemmas.Bool.Decides.{eqb_tells}
use Rattle.persist_model.specs.declared.event.Event.{Event}
use Rattle.persist_model.specs.Region.{Words, Region}
use Rattle.persist_model.specs.Records.{Log}
use Rattle.persist_model.specs.Need.{rest}
use Rattle.persist_model.specs.Shape.{Shape}
use Rattle.persist_model.specs.State.{State}
use Rattle.region_layout.specs.declared.layout.Layout.{Layout}
use Rattle.region_layout.specs.Layout.{layout_shape}
use Rattle.offset_alloc.specs.declared.Standing.{Standing}
use Rattle.bucket_log.specs.Appends.{region_append}
use Rattle.lane_book.specs.declared.book.Book.{Book}
use Rattle.lane_book.specs.declared.lane.Lane.{Lane}
use Rattle.lane_book.specs.declared.lane.Doing.TheVariants as Doing
use Rattle.lane_book.specs.FacesOf.{lane_at}
use Rattle.lane_book.specs.Books.{IsBook}
use Rattle.lane_book.specs.Lanes.{moved, closed}
use Rattle.log_keeper.specs.declared.keeper.LogKeeper.{LogKeeper}
use Rattle.log_keeper.specs.Keeper.{free_places}
use Rattle.log_keeper.specs.Ledger.{newest_log}
use Rattle.log_keeper.specs.Making.{is_over, made_part}
use Rattle.log_keeper.specs.Logged.{latched}
use Rattle.log_keeper.specs.Parts.{Running}
use Rattle.history_laws.specs.Histories.{Entry, fold}
use Rattle.history_laws.specs.UnderWay.{Added, an_update, a_deletion, a_rollback, a_compensation, an_undone_end, a_commit_end, Adding, record_of_adding, UnderWay, nothing, appends}
use Rattle.txn_laws.specs.Txns.{Txn, txn_at, Gift}
use Rattle.txn_laws.specs.NextRecords.{is_end, IsAppendOf}
use Rattle.txn_laws.specs.Settled.{txn_behind, history_behind}
use Rattle.txn_laws.specs.Rooms.{sum_below}
use Rattle.txn_laws.specs.Worlds.{World, IsWorldAt}
use Rattle.txn_laws.proofs.Asking.{latches_keep}
use Rattle.txn_state.specs.declared.parts.TheConstants.{STORE, UNDO, KEEP}
use Rattle.txn_state.specs.Stages.{Stage, Naming, Storing, Opening, Undoing, TakingBack, Keeping, abort_stage, stage_of, Deleting, Between, is_commit}
use Rattle.txn_state.specs.Seen.{booked, noticed}
use Rattle.txn_state.specs.Ties.{plain_entry, IsUpdating, IsRollingBack, IsCompensating, waits, IsNaming, IsOpening, IsUndoing, IsCome, under_of, IsLaneOf, IsDeleting, IsGiving, HasGiven, due_by, AreCellsOf}
use Rattle.txn_state.specs.Owing.{append_left, undoing_left, ending_left, append_most, needs_at, records_noted}
use Rattle.txn_state.specs.Numbers.{unpaid, pending}
use Rattle.txn_state.specs.States.{IsStateOf, reserved_for, is_joining, HasNoEntry, AreEntries}
use Rattle.txn_state.specs.Changes.{GoesTo, IsKept, paid_event}
use Rattle.txn_state.specs.AppendLaws.{IsMade, AreLeft, made_in, undo_part, store_word, undo, take_back, RecordsSettle, GivesAreAnswered}
use Rattle.txn_state.proofs.Making.{test_same, test_other, under_free, held_changed, held_by_none, IsChangedIn}
use Rattle.txn_state.proofs.Lanes.{reserved_less, its_entry, same_entry, entries_stay, world_book, HasItsEntry}
use Rattle.txn_state.proofs.Likeness.{IsOneLess}
use Rattle.txn_state.proofs.StageSteps.{call_at, aborts_it, stage_of_call}
use Rattle.txn_state.proofs.Named.{naming_stores, updates_counted, AddsUpdate, adds_update, AddsRollback, adds_rollback, AddsCompensation, adds_compensation, AddsDeletion, adds_deletion}
use Rattle.txn_state.proofs.PlanLengths.{append_between}
use Rattle.txn_state.proofs.Rebuilding.{Owes, events_paid, records_owed, unpaid_sum, numbered_there, rebuilt}
use Rattle.txn_state.proofs.Moving.{HasSameBook, lane_as, behind_booked, next_update, next_undo, linked_rest, length_rest, none_of, appended_of}
use Rattle.txn_state.proofs.Going as going
use Rattle.txn_state.proofs.Settling as settling
use Rattle.txn_state.proofs.Settling.{KeepsTxn, keeps_txn, owes_step}
use Rattle.txn_state.proofs.Given.{deletes_none}
use Rattle.txn_state.proofs.HeapSteps.{reserves_less, pending_same as unentered_pending}
use Rattle.lane_types.specs.declared.call.Reply.TheVariants as Reply
use Rattle.lane_book.specs.Reserved.{reserved_by, undo_cells}

history_same : (added : Added) (x : Txn) (history : List Entry) → is_end added ≡ false → history_behind added x history ≡ history
history_same (an_update u) x history off = refl
history_same (a_deletion g) x history off = refl
history_same (a_rollback t) x history off = refl
history_same (a_compensation u cell) x history off = refl
history_same (an_undone_end t) x history off = absurd (let e : true ≡ false = off in cc)
history_same (a_commit_end t) x history off = absurd (let e : true ≡ false = off in cc)

-- ---- what the call wants then

-- behind the rollback record of a transaction without updates
keeping_events : (shape : Shape) (a k u : ℕ) → a ≡ 1 → u ≡ 0 → (1 + ending_left shape k) + 1 ≡ a + (undoing_left shape u + (1 + ending_left shape (k + 0 + u)))
keeping_events shape a k zero one none = omega (arith, one)
keeping_events shape a k (suc u) one none = absurd (omega (arith, none))

-- and of one with updates
undoing_events : (shape : Shape) (a k u : ℕ) → a ≡ 1 → u ≢ 0 →
    (append_most shape + (1 + (undoing_left shape (u - 1) + (1 + ending_left shape (k + 1 + (u - 1)))))) + 1 ≡ a + (undoing_left shape u + (1 + ending_left shape (k + 0 + u)))
undoing_events shape a k zero one some = absurd (some refl)
undoing_events shape a k (suc u) one some = let less : suc u - 1 ≡ u = omega arith in rw less (omega (arith, one))

-- behind a compensation
taking_events : (shape : Shape) (a k u o : ℕ) → a ≡ 1 → u ≡ o + 1 → (1 + (undoing_left shape o + (1 + ending_left shape (k + o)))) + 1 ≡
    a + (1 + (undoing_left shape (u - 1) + (1 + ending_left shape (k + 0 + (u - 1)))))
taking_events shape a k u o one more = let less : u - 1 ≡ o = omega (arith, more) in rw less (omega (arith, one))

-- ---- the lane

-- It comes to this stage, as this lane.
pub record SettlesTo {E : Type 0} (layout : Layout) (blocks : List Standing) (after newest : Log) (p : ℕ) (adding : Adding) (n : ℕ) (x : Txn) (lane lane_to : Lane E) : Type 0 where
  pub stage : Stage
  pub stage_is : stage_of lane_to ≡ stage
  pub no_end : is_end adding.added ≡ false
  pub own : IsLaneOf layout blocks after newest nothing p lane_to (txn_behind adding.added (record_of_adding adding) x)
  pub less : (k c d : ℕ) → IsOneLess (needs_at (layout_shape layout) p k c (appends adding n) x (stage_of lane))
      (needs_at (layout_shape layout) p k d nothing (txn_behind adding.added (record_of_adding adding) x) stage)

same_book : (E : Type 0) (part : ℕ) (lane : Lane E) → HasSameBook lane (moved part (paid_event lane))
same_book E part lane = record {
  transaction = refl;
  held = refl;
  writes = refl;
  updates = refl;
  stored = refl;
  gives = refl;
  has_records = refl;
  rolled = refl;
  ended = refl;
  committing = refl;
  takes = λ s k call. call;
  due = refl;
  ending = refl;
  gates = refl;
  entry = λ e has. has;
}

module _ (E : Type 0) (layout : Layout) (blocks : List Standing) (s : State) (h : Words) (after newest : Log) (p : ℕ) (adding : Adding) (n : ℕ) (x : Txn) (lane : Lane E)
    (noticed_is : noticed (layout_shape layout) p (appends adding n) x ≡ booked adding.added (record_of_adding adding) x) (fits : IsAppendOf (layout_shape layout) s h p x adding n)
    (whole : n + 1 ≡ length (region_append (layout_shape layout) p adding.place (record_of_adding adding))) (is : IsLaneOf layout blocks s.log newest (appends adding n) p lane x) where
  abbrev updated : Txn
  updated = record x { updates = record_of_adding adding ∷ x.updates; point = (record_of_adding adding).lsn }

  abbrev rolled_on : Txn
  rolled_on = record x { rolled = true }

  abbrev compensated : Txn
  compensated = record x { updates = rest x.updates; point = (record_of_adding adding).undo_next }

  unended : is_end adding.added ≡ false → x.ended ≡ false
  unended off = fits.ended_is ∙ ap (λ (b : Bool). if b then is_over (region_append (layout_shape layout) p adding.place (record_of_adding adding)) (n + 1) else false) off

  append_one : append_left (layout_shape layout) p (appends adding n) ≡ 1
  append_one = omega (arith, whole)

  settles_update : stage_of lane ≡ Naming → IsUpdating adding.added → SettlesTo layout blocks after newest p adding n x lane (moved STORE (paid_event lane))
  settles_update at kind = record {
    stage = Storing;
    stage_is = stage;
    no_end = k.no_end;
    own = subst (IsLaneOf layout blocks after newest nothing p (moved STORE (paid_event lane))) (sym (behind_booked adding.added (record_of_adding adding) x k.no_end ∙ k.books (record_of_adding adding) x))
        (lane_as E layout blocks s.log after newest (appends adding n) nothing p x updated lane (moved STORE (paid_event lane)) Storing is
        (record { number = refl; part = refl; words = refl; writes = refl; stored = refl; zeroed = refl; commits = refl; ended = refl; fenced = refl }) refl (λ o. o) (same_book E STORE lane)
        (sym (ap (λ (q : Txn). q.updates) seen)) (sym (ap (λ (q : Txn). q.rolled) seen))
        ((next_update (layout_shape layout) s h x (record_of_adding adding) adding.added kind fits.next).point_is ∙ is.txn.point, is.txn.linked) refl (sym (ap (λ (q : Txn). q.gifts) seen)) stage (λ e. cc) (λ e. cc) (record {
          rests = refl;
          going = record { some = come.going.some; runs = come.going.runs; unended = λ e. unended k.no_end };
          last_waits = come.last_waits;
          updates_all = (let a = come.updates_are in let b = come.last_waits in omega (arith, a, b));
          unrolled = come.unrolled;
        }));
    less = λ j c d. subst (λ st. IsOneLess (needs_at (layout_shape layout) p j c (appends adding n) x st) (needs_at (layout_shape layout) p j d nothing (txn_behind adding.added (record_of_adding adding) x) Storing))
        (sym at) (let one = append_one in record { events = omega (arith, one); records = refl; gates = refl });
  }
    where
      k : AddsUpdate adding.added
      k = adds_update adding.added kind

      seen : noticed (layout_shape layout) p (appends adding n) x ≡ updated
      seen = noticed_is ∙ k.books (record_of_adding adding) x

      come : IsNaming (appends adding n) x
      come = subst (IsCome s.log (appends adding n) x) at is.come

      stage : stage_of (moved STORE (paid_event lane)) ≡ Storing
      stage = naming_stores lane.phase lane.has_records lane.part lane.doing at

  settles_rollback : stage_of lane ≡ Opening → IsRollingBack adding.added → SettlesTo layout blocks after newest p adding n x lane (moved (undo_part lane) (paid_event lane))
  settles_rollback at kind = elim (eqb_tells (length lane.updates.items) 0) [
    | inl e ↦ keeps (length_none e.1) (call ∙ ap (λ (b : Bool). abort_stage (if b then KEEP else UNDO)) e.0)
    | inr e ↦ undoes (length_some e.1) (call ∙ ap (λ (b : Bool). abort_stage (if b then KEEP else UNDO)) e.0)
  ]
    where
      k : AddsRollback adding.added
      k = adds_rollback adding.added kind

      seen : noticed (layout_shape layout) p (appends adding n) x ≡ rolled_on
      seen = noticed_is ∙ k.books (record_of_adding adding) x

      behind : txn_behind adding.added (record_of_adding adding) x ≡ rolled_on
      behind = behind_booked adding.added (record_of_adding adding) x k.no_end ∙ k.books (record_of_adding adding) x

      come : IsOpening (appends adding n) x
      come = subst (IsCome s.log (appends adding n) x) at is.come

      call : stage_of (moved (undo_part lane) (paid_event lane)) ≡ abort_stage (undo_part lane)
      call = let aborts = aborts_it lane.has_records lane.doing Opening refl (call_at lane.phase lane.has_records lane.part lane.doing Opening at refl) in
          stage_of_call lane.phase lane.has_records (undo_part lane) lane.doing Doing.Abort aborts.0 aborts.1

      counted : length lane.updates.items ≡ length x.updates
      counted = updates_counted lane.updates.items (noticed (layout_shape layout) p (appends adding n) x).updates is.txn.updates ∙ ap (λ (q : Txn). length q.updates) seen

      length_none : length lane.updates.items ≡ 0 → length x.updates ≡ 0
      length_none e = sym counted ∙ e

      length_some : length lane.updates.items ≢ 0 → length x.updates ≢ 0
      length_some ne e = ne (counted ∙ e)

      own_as : (stage : Stage) → stage_of (moved (undo_part lane) (paid_event lane)) ≡ stage → stage ≢ Naming → stage ≢ Deleting → IsCome after nothing rolled_on stage →
          IsLaneOf layout blocks after newest nothing p (moved (undo_part lane) (paid_event lane)) (txn_behind adding.added (record_of_adding adding) x)
      own_as stage at other undeleted come = subst (IsLaneOf layout blocks after newest nothing p (moved (undo_part lane) (paid_event lane))) (sym behind)
          (lane_as E layout blocks s.log after newest (appends adding n) nothing p x rolled_on lane (moved (undo_part lane) (paid_event lane)) stage is
          (record { number = refl; part = refl; words = refl; writes = refl; stored = refl; zeroed = refl; commits = refl; ended = refl; fenced = refl }) refl (λ o. o) (same_book E (undo_part lane) lane)
          (sym (ap (λ (q : Txn). q.updates) seen)) (sym (ap (λ (q : Txn). q.rolled) seen)) is.txn.linked is.txn.point (sym (ap (λ (q : Txn). q.gifts) seen)) at other undeleted come)

      less_as : (stage : Stage) (j c d : ℕ) → IsOneLess (needs_at (layout_shape layout) p j c (appends adding n) x Opening) (needs_at (layout_shape layout) p j d nothing rolled_on stage) →
          IsOneLess (needs_at (layout_shape layout) p j c (appends adding n) x (stage_of lane))
          (needs_at (layout_shape layout) p j d nothing (txn_behind adding.added (record_of_adding adding) x) stage)
      less_as stage j c d less = subst (λ (q : Txn). IsOneLess (needs_at (layout_shape layout) p j c (appends adding n) x (stage_of lane)) (needs_at (layout_shape layout) p j d nothing q stage)) (sym behind)
          (subst (λ st. IsOneLess (needs_at (layout_shape layout) p j c (appends adding n) x st) (needs_at (layout_shape layout) p j d nothing rolled_on stage)) (sym at) less)

      keeps : length x.updates ≡ 0 → stage_of (moved (undo_part lane) (paid_event lane)) ≡ Keeping → SettlesTo layout blocks after newest p adding n x lane (moved (undo_part lane) (paid_event lane))
      keeps none stage = record {
        stage = Keeping;
        stage_is = stage;
        no_end = k.no_end;
        own = own_as Keeping stage (λ e. cc) (λ e. cc) (record {
          rests = refl;
          going = record { some = come.going.some; runs = come.going.runs; unended = λ e. unended k.no_end };
          rolled = refl;
          none_left = none_of x.updates none;
          none_stored = (let a = come.written.stored_all in let b = come.written.updates_all in omega (arith, a, b, none));
        });
        less = λ j c d. less_as Keeping j c d (record {
          events = keeping_events (layout_shape layout) (append_left (layout_shape layout) p (appends adding n)) j (length x.updates) append_one none;
          records = omega (arith, none);
          gates = omega (arith, none);
        });
      }

      undoes : length x.updates ≢ 0 → stage_of (moved (undo_part lane) (paid_event lane)) ≡ Undoing → SettlesTo layout blocks after newest p adding n x lane (moved (undo_part lane) (paid_event lane))
      undoes some stage = record {
        stage = Undoing;
        stage_is = stage;
        no_end = k.no_end;
        own = own_as Undoing stage (λ e. cc) (λ e. cc) (record {
          going = record { some = come.going.some; runs = come.going.runs; unended = λ e. unended k.no_end };
          rolled = refl;
          some = omega (arith, some);
          stored_are = (let a = come.written.stored_all in let b = come.written.updates_all in omega (arith, a, b));
          under_way = waits refl;
        });
        less = λ j c d. less_as Undoing j c d (record {
          events = undoing_events (layout_shape layout) (append_left (layout_shape layout) p (appends adding n)) j (length x.updates) append_one some;
          records = omega (arith, some);
          gates = omega (arith, some);
        });
      }

  settles_compensation : stage_of lane ≡ Undoing → IsCompensating adding.added → SettlesTo layout blocks after newest p adding n x lane (moved STORE (paid_event lane))
  settles_compensation at kind = record {
    stage = TakingBack;
    stage_is = stage;
    no_end = k.no_end;
    own = subst (IsLaneOf layout blocks after newest nothing p (moved STORE (paid_event lane))) (sym behind)
        (lane_as E layout blocks s.log after newest (appends adding n) nothing p x compensated lane (moved STORE (paid_event lane)) TakingBack is
        (record { number = refl; part = refl; words = refl; writes = refl; stored = refl; zeroed = refl; commits = refl; ended = refl; fenced = refl }) refl (λ o. o) (same_book E STORE lane)
        (sym (ap (λ (q : Txn). q.updates) seen)) (sym (ap (λ (q : Txn). q.rolled) seen)) (linked_rest x.updates is.txn.linked)
        (next_undo (layout_shape layout) s h x (record_of_adding adding) adding.added kind fits.next is.txn.linked) (sym (ap (λ (q : Txn). q.gifts) seen)) stage (λ e. cc) (λ e. cc) (record {
          rests = refl;
          going = record { some = come.going.some; runs = come.going.runs; unended = λ e. unended k.no_end };
          rolled = come.rolled;
          one_more = (let a = come.stored_are in let b = length_rest x.updates come.some in omega (arith, a, b));
        }));
    less = λ j c d. subst (λ (q : Txn). IsOneLess (needs_at (layout_shape layout) p j c (appends adding n) x (stage_of lane)) (needs_at (layout_shape layout) p j d nothing q TakingBack)) (sym behind)
        (subst (λ st. IsOneLess (needs_at (layout_shape layout) p j c (appends adding n) x st) (needs_at (layout_shape layout) p j d nothing compensated TakingBack)) (sym at) (record {
          events = taking_events (layout_shape layout) (append_left (layout_shape layout) p (appends adding n)) j (length x.updates) (length (rest x.updates)) append_one (length_rest x.updates come.some);
          records = (let b = length_rest x.updates come.some in omega (arith, b));
          gates = (let b = length_rest x.updates come.some in omega (arith, b));
        }));
  }
    where
      k : AddsCompensation adding.added
      k = adds_compensation adding.added kind

      seen : noticed (layout_shape layout) p (appends adding n) x ≡ compensated
      seen = noticed_is ∙ k.books (record_of_adding adding) x

      behind : txn_behind adding.added (record_of_adding adding) x ≡ compensated
      behind = behind_booked adding.added (record_of_adding adding) x k.no_end ∙ k.books (record_of_adding adding) x

      come : IsUndoing (appends adding n) x
      come = subst (IsCome s.log (appends adding n) x) at is.come

      stage : stage_of (moved STORE (paid_event lane)) ≡ TakingBack
      stage = let aborts = aborts_it lane.has_records lane.doing Undoing refl (call_at lane.phase lane.has_records lane.part lane.doing Undoing at refl) in
          stage_of_call lane.phase lane.has_records STORE lane.doing Doing.Abort aborts.0 aborts.1

  -- a deletion; the give is answered
  abbrev gift_of : Gift
  gift_of = record { word = (record_of_adding adding).word; gate = (record_of_adding adding).at }

  abbrev given_on : Txn
  given_on = record x { gifts = x.gifts ++ gift_of ∷ [] }

  settles_deletion : (k : ℕ) → stage_of lane ≡ Deleting → lane.doing ≡ Doing.Give k → lane.entry ≡ None → IsDeleting adding.added → SettlesTo layout blocks after newest p adding n x lane (closed Reply.Given (paid_event lane))
  settles_deletion k at call no_entry kind = record {
    stage = Between;
    stage_is = refl;
    no_end = kind_is.no_end;
    own = subst (IsLaneOf layout blocks after newest nothing p (closed Reply.Given (paid_event lane))) (sym behind) (record {
      txn = record {
        number = is.txn.number;
        here = is.txn.here;
        writes = is.txn.writes;
        stored = is.txn.stored;
        zeroed = is.txn.zeroed;
        commits = is.txn.commits ∙ ap is_commit call;
        updates = subst (λ (q : Txn). AreCellsOf (reverse lane.updates.items) q.updates) seen is.txn.updates;
        rolled = sym (ap (λ (q : Txn). q.rolled) seen) ∙ is.txn.rolled;
        ended = is.txn.ended;
        linked = is.txn.linked;
        point = is.txn.point;
        entry = λ e some. (let off : None ≡ Some e = sym no_entry ∙ some in cc);
      };
      come = record {
        rests = refl;
        going = record { some = come.going.some; runs = come.going.runs; unended = λ e. unended kind_is.no_end };
        written = record { stored_all = come.written.stored_all; updates_all = come.written.updates_all; unrolled = come.written.unrolled };
      };
      given = subst (λ (q : Txn). HasGiven layout blocks lane.held lane.gives.items lane.gates.items q.gifts x.words) seen is.given;
      counts = (let was = is.counts in let due = ap due_by call in let long = length-append x.gifts (gift_of ∷ []) in omega (arith, was, due, long));
      deleting = deletes_none layout nothing (closed Reply.Given (paid_event lane)) refl;
      ends_ungiven = λ on. absurd (let off : false ≡ true = on in cc);
      written_words = is.written_words;
      taking = λ s j other. absurd (let off : Doing.Nothing ≡ Doing.Take s j = other in cc);
      naming = λ e long. absurd (let off : Between ≡ Naming = e in cc);
      recorded = is.recorded;
      begun = is.begun;
      has_some = is.has_some;
      uncompensated = is.uncompensated;
    });
    less = λ j c d. subst (λ st. IsOneLess (needs_at (layout_shape layout) p j c (appends adding n) x st) (needs_at (layout_shape layout) p j d nothing (txn_behind adding.added (record_of_adding adding) x) Between))
        (sym at) (let one = append_one in record { events = omega (arith, one); records = refl; gates = refl });
  }
    where
      kind_is : AddsDeletion adding.added
      kind_is = adds_deletion adding.added kind

      seen : noticed (layout_shape layout) p (appends adding n) x ≡ given_on
      seen = noticed_is ∙ kind_is.books (record_of_adding adding) x

      behind : txn_behind adding.added (record_of_adding adding) x ≡ given_on
      behind = behind_booked adding.added (record_of_adding adding) x kind_is.no_end ∙ kind_is.books (record_of_adding adding) x

      come : IsGiving (appends adding n) x
      come = subst (IsCome s.log (appends adding n) x) at is.come

-- ---- the law

-- What the lane behind the event has of what doesn't hang on its transaction.
pub record SettledLane {E : Type 0} (book : Book E) (l : ℕ) (lane_to : Lane E) : Type 0 where
  pub owed : lane_to.owed_events ≡ (lane_at book l).owed_events - 1
  pub owed_records : lane_to.owed_records ≡ (lane_at book l).owed_records
  pub reserved : reserved_by lane_to ≤ reserved_by (lane_at book l)
  pub begun : lane_to.begun ≡ (lane_at book l).begun
  pub commits : lane_to.commits + pending lane_to ≤ (lane_at book l).commits + pending (lane_at book l)
  pub entry : HasItsEntry book.history.items l lane_to
  pub joining : is_joining lane_to ≤ is_joining (lane_at book l)

moved_settled : {E : Type 0} (book : Book E) (l part : ℕ) → AreEntries book → SettledLane book l (moved part (paid_event (lane_at book l)))
moved_settled book l part entries = record {
  owed = refl;
  owed_records = refl;
  reserved = omega arith;
  begun = refl;
  commits = omega arith;
  entry = same_entry book.history.items l (lane_at book l) (moved part (paid_event (lane_at book l))) refl refl refl refl (its_entry book l entries);
  joining = omega arith;
}

module _ (E : Type 0) (layout : Layout) (start : Words) (book later : Book E) (keeper kept : LogKeeper) (region behind : Region) (spare left events made l : ℕ) (e : Event) (lane_to : Lane E)
    (m : IsMade layout keeper region behind l e spare left events made) (are : AreLeft layout keeper (l % layout.partitions) 1)
    (goes : GoesTo book later l lane_to) (pays : SettledLane book l lane_to) (is_book : IsBook later)
    (keeps : IsKept keeper kept (latched (l % layout.partitions) 17 (made_in layout keeper (l % layout.partitions)))) (st : IsStateOf layout start book keeper region spare events)
    (adding : Adding) (n : ℕ) (is : st.w.under (l % layout.partitions) ≡ appends adding n)
    (to : SettlesTo layout book.blocks (settling.state_there E layout start book keeper region behind spare left events made l e m st are adding n is).log (newest_log st.w.keeping.ledger)
    (l % layout.partitions) adding n (txn_at st.w.lanes l) (lane_at book l) lane_to) where
  abbrev p : ℕ
  p = l % layout.partitions

  abbrev x : Txn
  x = txn_at st.w.lanes l

  abbrev y : Txn
  y = txn_behind adding.added (record_of_adding adding) (txn_at st.w.lanes l)

  abbrev base_there : Words
  base_there = settling.base_there E layout start book keeper region behind spare left events made l e m st are adding n is

  abbrev state_there : State
  state_there = settling.state_there E layout start book keeper region behind spare left events made l e m st are adding n is

  abbrev chains_there : ℕ → List ℕ
  chains_there = settling.chains_there E layout start book keeper region behind spare left events made l e m st are adding n is

  abbrev settled : World
  settled = settling.settled E layout start book keeper region behind spare left events made l e m st are adding n is

  abbrev v : World
  v = record settled { keeping = latched (l % layout.partitions) 17 settled.keeping }

  world : IsWorldAt (layout_shape layout) base_there state_there chains_there start v behind
  world = latches_keep (layout_shape layout) base_there state_there chains_there start settled behind p 17
      (settling.inside E layout start book keeper region behind spare left events made l e m st are adding n is)
      (ap (λ (run : Running). run.part) (settling.rests_there E layout start book keeper region behind spare left events made l e m st are adding n is))
      (settling.world_there E layout start book keeper region behind spare left events made l e m st are adding n is)

  free : v.keeping.holder p ≡ 17
  free = ap (λ (t : Bool). if t then 17 else settled.keeping.holder p) (test_same p p refl)

  in_lanes : l < length st.w.lanes
  in_lanes = going.in_lanes E layout start book keeper region behind spare left events made l e m st

  few : length st.w.lanes ≤ 16
  few = subst (λ (k : ℕ). k ≤ 16) (sym st.tied.lanes) st.is_book.few

  nobody : (k : ℕ) → k < length st.w.lanes → v.keeping.holder p ≢ k
  nobody k lt same = let most = few in let none = sym free ∙ same in omega (arith, lt, most, none)

  elsewhere : (q : ℕ) → q ≢ p → v.keeping.holder q ≡ (made_part (layout_shape layout) p st.w.keeping).holder q
  elsewhere q ne = ap (λ (t : Bool). if t then 17 else settled.keeping.holder q) (test_other q p ne)

  changed : IsChangedIn (layout_shape layout) l st.w v
  changed = settling.changed E layout start book keeper region behind spare left events made l e m st are adding n is v refl elsewhere (λ q ne. refl) (λ q ne. refl)
      (λ k ne lt. nobody k lt) refl

  under_none : under_of (layout_shape layout) v l ≡ nothing
  under_none = under_free v p l (nobody l in_lanes)

  under_rests : v.under p ≡ nothing
  under_rests = ap (λ (t : Bool). if t then nothing else st.w.under p) (test_same p p refl)

  txn_is : txn_at v.lanes l ≡ y
  txn_is = settling.txn_there E layout start book keeper region behind spare left events made l e m st are adding n is

  newest_is : newest_log v.keeping.ledger ≡ newest_log st.w.keeping.ledger
  newest_is = settling.newest_there E layout start book keeper region behind spare left events made l e m st are adding n is

  own : IsLaneOf layout book.blocks state_there.log (newest_log v.keeping.ledger) (under_of (layout_shape layout) v l) p lane_to (txn_at v.lanes l)
  own = subst (λ (z : Txn). IsLaneOf layout book.blocks state_there.log (newest_log v.keeping.ledger) (under_of (layout_shape layout) v l) p lane_to z) (sym txn_is)
      (subst (λ (u : UnderWay). IsLaneOf layout book.blocks state_there.log (newest_log v.keeping.ledger) u p lane_to y) (sym under_none)
      (subst (λ (log : Log). IsLaneOf layout book.blocks state_there.log log nothing p lane_to y) (sym newest_is) to.own))

  abbrev noted : ℕ
  noted = records_noted st.w (txn_at st.w.lanes l).number

  keeps_x : KeepsTxn (txn_at st.w.lanes l) (txn_behind adding.added (record_of_adding adding) (txn_at st.w.lanes l))
  keeps_x = keeps_txn adding.added (record_of_adding adding) (txn_at st.w.lanes l)

  noted_is : records_noted v y.number ≡ noted
  noted_is = ap length (settling.noted_there E layout start book keeper region behind spare left events made l e m st are adding n is y.number false) ∙ ap (records_noted st.w) keeps_x.number

  owed_here : Owes (layout_shape layout) p noted (length (st.chains p)) (appends adding n) (txn_at st.w.lanes l) keeper (lane_at book l)
  owed_here = settling.owed_here E layout start book keeper region behind spare left events made l e m st are adding n is

  owes_there : Owes (layout_shape layout) p (records_noted v (txn_at v.lanes l).number) (length (chains_there p)) (under_of (layout_shape layout) v l) (txn_at v.lanes l) kept lane_to
  owes_there =
      subst (λ (z : Txn). Owes (layout_shape layout) p (records_noted v z.number) (length (chains_there p)) (under_of (layout_shape layout) v l) z kept lane_to) (sym txn_is)
      (subst (λ (u : UnderWay). Owes (layout_shape layout) p (records_noted v y.number) (length (chains_there p)) u y kept lane_to) (sym under_none)
      (subst (λ (k : ℕ). Owes (layout_shape layout) p k (length (chains_there p)) nothing y kept lane_to) (sym noted_is)
      (owes_step E (layout_shape layout) p noted (length (st.chains p)) (appends adding n) (txn_at st.w.lanes l) noted (length (chains_there p)) nothing y to.stage keeper kept (lane_at book l)
      lane_to (going.has_slot E layout start book keeper region behind spare left events made l e m st) keeps.slots to.stage_is pays.owed pays.owed_records
      (to.less noted (length (st.chains p)) (length (chains_there p))) owed_here)))

  one_owed : 1 ≤ (lane_at book l).owed_events
  one_owed = going.event_owed E (layout_shape layout) p noted (length (st.chains p)) (appends adding n) (txn_at st.w.lanes l)
      (needs_at (layout_shape layout) p noted (length (chains_there p)) nothing y to.stage) keeper (lane_at book l) (to.less noted (length (st.chains p)) (length (chains_there p))) owed_here

  numbers : 10 * v.next ≤ made + (10 + sum_below (λ (q : ℕ). unpaid (v.under q)) layout.partitions)
  numbers =
      let old = st.numbered.records in
      let sum = unpaid_sum layout.partitions p st.w v (settling.inside E layout start book keeper region behind spare left events made l e m st are adding n is) (λ q ne. changed.unders q ne) in
      let before : unpaid (st.w.under p) ≡ 10 - n = ap unpaid is in
      let after : unpaid (v.under p) ≡ 0 = ap unpaid under_rests in
      let long = (append_between (layout_shape layout) p adding.place (record_of_adding adding)).0 in
      let whole = settling.whole E layout start book keeper region behind spare left events made l e m st are adding n is in
      let count = m.counted in
      omega (arith, old, sum, before, after, long, whole, count)

  pub state_settled : IsStateOf layout start later kept behind left made
  state_settled = rebuilt E layout start book later keeper kept region behind spare left events made l (txn_at st.w.lanes l).number lane_to base_there state_there chains_there v st (record {
    world = world;
    roomy = settling.roomy_there E layout start book keeper region behind spare left events made l e m st are adding n is (reserved_for layout later)
        (λ q. reserved_less layout book later l lane_to goes.lanes pays.reserved q);
    beside = settling.beside E layout start book keeper region behind spare left events made l e m st are adding n is v refl elsewhere (λ q ne. refl) (λ q ne. refl) (λ k ne lt. nobody k lt) refl;
    apart = going.apart E layout start book keeper region behind spare left events made l e m st;
    lanes = goes.lanes;
    keeping = ap (latched p 17) (ap (made_part (layout_shape layout) p) st.tied.keeping) ∙ sym keeps.kept;
    next = st.tied.next ∙ sym keeps.number;
    slots = keeps.slots;
    history = settling.history_there E layout start book keeper region behind spare left events made l e m st are adding n is ∙ history_same adding.added (txn_at st.w.lanes l) st.w.history to.no_end
        ∙ st.tied.history ∙ ap (λ h. map plain_entry h.items) (sym goes.history);
    held = held_changed (layout_shape layout) l st.w v changed st.tied.held (held_by_none (layout_shape layout) v p free under_rests);
    own = own;
    fresh = subst (λ (k : ℕ). k < later.next_transaction) (sym (ap (λ (z : Txn). z.number) txn_is ∙ keeps_x.number))
        (subst (λ (k : ℕ). (txn_at st.w.lanes l).number < k) (sym goes.next) (st.tied.fresh l));
    no_less = (let same = goes.next in omega (arith, same));
    owes = owes_there;
    stores = events_paid E book later l spare left lane_to goes.lanes (let one = one_owed in let owed = pays.owed in omega (arith, one, owed)) m.places st.owing.stores;
    places = records_owed E book later l (free_places keeper) (free_places kept) lane_to goes.lanes pays.owed_records keeps.places st.owing.places;
    numbered = numbered_there E layout.partitions book later st.w v events made l lane_to goes.lanes goes.next pays.begun pays.commits numbers st.numbered;
    opens = subst (λ (k : ℕ). 1 ≤ k) (sym keeps.number) st.opens;
    is_book = world_book layout book later l lane_to goes.lanes is_book
        (entries_stay book later l lane_to goes
        pays.entry pays.joining st.is_book.entries)
        st.is_book;
  })

pub records_settle : (E : Type 0) → RecordsSettle E
records_settle E layout start book later keeper kept region behind spare left events made l _ e m are (store_word at) goes is_book keeps st =
    let found = appended_of IsUpdating (st.w.under (l % layout.partitions)) (going.busy E layout start book keeper region behind spare left events made l e m st)
    (named at (going.was_here E layout start book keeper region behind spare left events made l e m st).come).under_way in
    state_settled E layout start book later keeper kept region behind spare left events made l e (moved STORE (paid_event (lane_at book l))) m are goes (moved_settled book l STORE st.is_book.entries) is_book keeps st found.0 found.1 found.2
    (settles_update E layout book.blocks st.s (fold start st.w.history) (settling.state_there E layout start book keeper region behind spare left events made l e m st are found.0 found.1 found.2).log
    (newest_log st.w.keeping.ledger) (l % layout.partitions) found.0 found.1 (txn_at st.w.lanes l) (lane_at book l)
    (settling.noticed_here E layout start book keeper region behind spare left events made l e m st are found.0 found.1 found.2)
    (settling.fits E layout start book keeper region behind spare left events made l e m st are found.0 found.1 found.2)
    (settling.whole E layout start book keeper region behind spare left events made l e m st are found.0 found.1 found.2)
    (settling.was_here E layout start book keeper region behind spare left events made l e m st are found.0 found.1 found.2) at found.3)
  where
    named : stage_of (lane_at book l) ≡ Naming → IsCome st.s.log (st.w.under (l % layout.partitions)) (txn_at st.w.lanes l) (stage_of (lane_at book l)) → IsNaming (st.w.under (l % layout.partitions)) (txn_at st.w.lanes l)
    named at come = subst (IsCome st.s.log (st.w.under (l % layout.partitions)) (txn_at st.w.lanes l)) at come
records_settle E layout start book later keeper kept region behind spare left events made l _ e m are (undo at) goes is_book keeps st =
    let found = appended_of IsRollingBack (st.w.under (l % layout.partitions)) (going.busy E layout start book keeper region behind spare left events made l e m st)
    (opened at (going.was_here E layout start book keeper region behind spare left events made l e m st).come).under_way in
    state_settled E layout start book later keeper kept region behind spare left events made l e (moved (undo_part (lane_at book l)) (paid_event (lane_at book l))) m are goes (moved_settled book l (undo_part (lane_at book l)) st.is_book.entries) is_book keeps st found.0 found.1 found.2
    (settles_rollback E layout book.blocks st.s (fold start st.w.history) (settling.state_there E layout start book keeper region behind spare left events made l e m st are found.0 found.1 found.2).log
    (newest_log st.w.keeping.ledger) (l % layout.partitions) found.0 found.1 (txn_at st.w.lanes l) (lane_at book l)
    (settling.noticed_here E layout start book keeper region behind spare left events made l e m st are found.0 found.1 found.2)
    (settling.fits E layout start book keeper region behind spare left events made l e m st are found.0 found.1 found.2)
    (settling.whole E layout start book keeper region behind spare left events made l e m st are found.0 found.1 found.2)
    (settling.was_here E layout start book keeper region behind spare left events made l e m st are found.0 found.1 found.2) at found.3)
  where
    opened : stage_of (lane_at book l) ≡ Opening → IsCome st.s.log (st.w.under (l % layout.partitions)) (txn_at st.w.lanes l) (stage_of (lane_at book l)) → IsOpening (st.w.under (l % layout.partitions)) (txn_at st.w.lanes l)
    opened at come = subst (IsCome st.s.log (st.w.under (l % layout.partitions)) (txn_at st.w.lanes l)) at come
records_settle E layout start book later keeper kept region behind spare left events made l _ e m are (take_back at) goes is_book keeps st =
    let found = appended_of IsCompensating (st.w.under (l % layout.partitions)) (going.busy E layout start book keeper region behind spare left events made l e m st)
    (undone at (going.was_here E layout start book keeper region behind spare left events made l e m st).come).under_way in
    state_settled E layout start book later keeper kept region behind spare left events made l e (moved STORE (paid_event (lane_at book l))) m are goes (moved_settled book l STORE st.is_book.entries) is_book keeps st found.0 found.1 found.2
    (settles_compensation E layout book.blocks st.s (fold start st.w.history) (settling.state_there E layout start book keeper region behind spare left events made l e m st are found.0 found.1 found.2).log
    (newest_log st.w.keeping.ledger) (l % layout.partitions) found.0 found.1 (txn_at st.w.lanes l) (lane_at book l)
    (settling.noticed_here E layout start book keeper region behind spare left events made l e m st are found.0 found.1 found.2)
    (settling.fits E layout start book keeper region behind spare left events made l e m st are found.0 found.1 found.2)
    (settling.whole E layout start book keeper region behind spare left events made l e m st are found.0 found.1 found.2)
    (settling.was_here E layout start book keeper region behind spare left events made l e m st are found.0 found.1 found.2) at found.3)
  where
    undone : stage_of (lane_at book l) ≡ Undoing → IsCome st.s.log (st.w.under (l % layout.partitions)) (txn_at st.w.lanes l) (stage_of (lane_at book l)) → IsUndoing (st.w.under (l % layout.partitions)) (txn_at st.w.lanes l)
    undone at come = subst (IsCome st.s.log (st.w.under (l % layout.partitions)) (txn_at st.w.lanes l)) at come

-- ---- a give is answered

answered_settled : {E : Type 0} (book : Book E) (l k : ℕ) → (lane_at book l).doing ≡ Doing.Give k → AreEntries book → SettledLane book l (closed Reply.Given (paid_event (lane_at book l)))
answered_settled book l k call entries = record {
  owed = refl;
  owed_records = refl;
  reserved = reserves_less (lane_at book l).has_records (lane_at book l).ended (lane_at book l).promised (undo_cells (lane_at book l));
  begun = refl;
  commits = unentered_pending (lane_at book l).entered (lane_at book l).commits (if (lane_at book l).transaction == 0 then 0 else 1) none.unentered;
  entry = record {
    others = λ off. record { unentered = refl; none = none.none };
    waits = λ on new. absurd (let off : false ≡ true = on in cc);
    joined = λ on is. absurd (let off : false ≡ true = on in cc);
  };
  joining = omega arith;
}
  where
    none : HasNoEntry (lane_at book l)
    none = entries.others l (ap is_commit call)

pub gives_are_answered : (E : Type 0) → GivesAreAnswered E
gives_are_answered E layout start book later keeper kept region behind spare left events made l k e m are at call goes is_book keeps st =
    let found = appended_of IsDeleting (st.w.under (l % layout.partitions)) (going.busy E layout start book keeper region behind spare left events made l e m st)
    (giving at (going.was_here E layout start book keeper region behind spare left events made l e m st).come).under_way in
    state_settled E layout start book later keeper kept region behind spare left events made l e (closed Reply.Given (paid_event (lane_at book l))) m are goes
    (answered_settled book l k call st.is_book.entries) is_book keeps st found.0 found.1 found.2
    (settles_deletion E layout book.blocks st.s (fold start st.w.history) (settling.state_there E layout start book keeper region behind spare left events made l e m st are found.0 found.1 found.2).log
    (newest_log st.w.keeping.ledger) (l % layout.partitions) found.0 found.1 (txn_at st.w.lanes l) (lane_at book l)
    (settling.noticed_here E layout start book keeper region behind spare left events made l e m st are found.0 found.1 found.2)
    (settling.fits E layout start book keeper region behind spare left events made l e m st are found.0 found.1 found.2)
    (settling.whole E layout start book keeper region behind spare left events made l e m st are found.0 found.1 found.2)
    (settling.was_here E layout start book keeper region behind spare left events made l e m st are found.0 found.1 found.2) k at call
    (st.is_book.entries.others l (ap is_commit call)).none found.3)
  where
    giving : stage_of (lane_at book l) ≡ Deleting → IsCome st.s.log (st.w.under (l % layout.partitions)) (txn_at st.w.lanes l) (stage_of (lane_at book l)) → IsGiving (st.w.under (l % layout.partitions)) (txn_at st.w.lanes l)
    giving at come = subst (IsCome st.s.log (st.w.under (l % layout.partitions)) (txn_at st.w.lanes l)) at come
