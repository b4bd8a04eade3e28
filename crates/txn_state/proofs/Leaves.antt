-- A transaction without a record ends.
use Rattle.std.proofs.Common.{◌≡◌, ◌≢◌, ◌⊎◌, inl, inr, ℕ, ◌+◌, ◌%◌, ◌<◌, ◌≤◌, ◌==◌, Bool, true, false, not, ◌&&◌, if◌then◌else◌, [], ◌∷◌, ◌++◌, length, map, None, Some, refl, sym, ap, ◌∙◌, subst, arith, length-append}
use Rattle.std.specs.List.{filter}
use Rattle.std.proofs.lemmas.Bool.Decides.{eqb_tells}
use Rattle.std.proofs.lemmas.List.{map-append}
use Rattle.persist_model.specs.Region.{Words, Region}
use Rattle.region_layout.specs.declared.layout.Layout.{Layout}
use Rattle.region_layout.specs.Layout.{layout_shape}
use Rattle.lane_types.specs.declared.call.Reply.TheVariants as Reply
use Rattle.lane_types.specs.declared.face.Entry.{Entry}
use Rattle.lane_book.specs.declared.book.Book.{Book}
use Rattle.lane_book.specs.declared.lane.Lane.{Lane}
use Rattle.lane_book.specs.declared.lane.Doing.{Doing}
use Rattle.lane_book.specs.FacesOf.{lane_at, is_of}
use Rattle.lane_book.specs.Lanes.{left, entered_lane}
use Rattle.lane_book.specs.Books.{IsBook, ends}
use Rattle.lane_book.proofs.Faces.{filter_last}
use Rattle.log_keeper.specs.declared.keeper.LogKeeper.{LogKeeper}
use Rattle.log_keeper.specs.Ledger.{newest_log}
use Rattle.history_laws.specs.UnderWay.{nothing}
use Rattle.txn_laws.specs.Txns.{Txn, idle, txn_at, with_txn, zero_of}
use Rattle.txn_laws.specs.Beginnings.{MayLeaveUnrecorded, left_with}
use Rattle.txn_laws.specs.Worlds.{with_lane}
use Rattle.txn_laws.proofs.Lanes.{with_here}
use Rattle.txn_laws.proofs.Beginning.{unrecorded_leave, unrecorded_commit}
use Rattle.txn_state.specs.Stages.{Free, Leaving, stage_of, is_commit}
use Rattle.txn_state.specs.Ties.{plain_entry, IsCome, IsLeaving, IsLaneOf, under_of}
use Rattle.txn_state.specs.Owing.{OwesEnough}
use Rattle.txn_state.specs.Numbers.{pending}
use Rattle.txn_state.specs.States.{is_joining, AreEntries, IsStateOf}
use Rattle.txn_state.specs.Changes.{GoesTo, JoinsTo}
use Rattle.txn_state.specs.QuietLaws.{UnrecordedAbortsKeep, UnrecordedCommitsKeep}
use Rattle.txn_state.proofs.Lanes.{lane_sum, lane_sum_less, reserved_less, roomy_less, entries_go, entries_stay}
use Rattle.txn_state.proofs.Steps.{numbers_stay, goes_on, beside_with, beside_history, apart_own, held_with, held_history, own_with}
use Rattle.txn_state.proofs.Resting.{resting_of}
use Rattle.txn_state.proofs.SameTransaction.{owes_with, no_gates, same_slots}
use Rattle.txn_state.proofs.FreeLanes.{IsFreeLane, free_lane}
use Rattle.txn_state.proofs.Given.{ends_no_gifts}

pub left_aborted : {E : Type 0} (lane : Lane E) → IsFreeLane (left Reply.Aborted lane)
left_aborted lane = record {
  free = refl;
  commits = refl;
  held = refl;
  transaction = refl;
  writes = refl;
  updates = refl;
  stored = refl;
  gives = refl;
  gates = refl;
  records = refl;
  rolled = refl;
  ended = refl;
  entry = refl;
}

pub left_committed : {E : Type 0} (lane : Lane E) → IsFreeLane (left Reply.Committed lane)
left_committed lane = record {
  free = refl;
  commits = refl;
  held = refl;
  transaction = refl;
  writes = refl;
  updates = refl;
  stored = refl;
  gives = refl;
  gates = refl;
  records = refl;
  rolled = refl;
  ended = refl;
  entry = refl;
}

module _ {E : Type 0} (layout : Layout) (start : Words) (book later : Book E) (keeper : LogKeeper) (region : Region) (spare events l : ℕ) (leaves : stage_of (lane_at book l) ≡ Leaving)
    (lt : l < length book.lanes.items) (state : IsStateOf layout start book keeper region spare events) where
  abbrev before : Lane E
  before = lane_at book l

  abbrev x : Txn
  x = txn_at state.w.lanes l

  inside : l < length state.w.lanes
  inside = subst (λ n. l < n) (sym state.tied.lanes) lt

  come : IsLeaving state.s.log (under_of (layout_shape layout) state.w l) x
  come = subst (IsCome state.s.log (under_of (layout_shape layout) state.w l) x) leaves (state.tied.each l inside).come

  was : IsLaneOf layout book.blocks state.s.log (newest_log state.w.keeping.ledger) (under_of (layout_shape layout) state.w l) (l % layout.partitions) before x
  was = state.tied.each l inside

  may_leave : MayLeaveUnrecorded (layout_shape layout) state.s state.w l
  may_leave = record {
    lane = inside;
    runs = come.between.going.runs;
    no_record = come.no_record;
    resting = resting_of (layout_shape layout) state.base state.s state.chains start state.w region l state.world state.tied.held (subst (λ n. n ≤ 16) (sym state.tied.lanes) state.is_book.few) inside
        come.between.rests;
    none_stored = come.between.written.stored_all ∙ ap length come.unwritten;
  }

  gone : (txn_at (with_txn l idle state.w.lanes) l).number ≡ 0
  gone = ap (λ (z : Txn). z.number) (with_here l idle state.w.lanes inside)

  -- ---- an abort

  leaves_aborted : GoesTo book later l (left Reply.Aborted (lane_at book l)) → IsBook later → IsStateOf layout start later keeper region spare events
  leaves_aborted goes kept = goes_on layout start book later keeper keeper region region spare spare events events l x.number (left Reply.Aborted (lane_at book l)) state state.opens (record {
    base = state.base;
    s = state.s;
    others = state.chains;
    v = with_lane l idle state.w;
    has = goes.lanes;
    is_book = kept;
    entries = entries_stay book later l (left Reply.Aborted (lane_at book l)) goes (record {
      others = λ off. record { unentered = refl; none = refl };
      waits = λ on new. (let clash : false ≡ true = on in cc);
      joined = λ on is. (let clash : false ≡ true = on in cc);
    }) (omega arith) state.is_book.entries;
    world = unrecorded_leave (layout_shape layout) state.base state.s state.chains start state.w region l may_leave state.world;
    roomy = roomy_less layout book later region (reserved_less layout book later l (left Reply.Aborted (lane_at book l)) goes.lanes (omega arith)) state.roomy;
    beside = beside_with (layout_shape layout) l x.number state.s.log state.chains state.w idle;
    apart = apart_own (layout_shape layout) state.base state.s state.chains start state.w region l state.world;
    keeping = state.tied.keeping;
    next = state.tied.next;
    slots = same_slots keeper.slots.items;
    history = state.tied.history ∙ ap (λ h. map plain_entry h.items) (sym goes.history);
    held = held_with (layout_shape layout) l idle state.w state.tied.held;
    own = own_with layout book later l state.s.log state.w nothing (left Reply.Aborted (lane_at book l)) idle goes.lanes.blocks inside come.between.rests
        (free_lane layout book.blocks state.s.log (newest_log state.w.keeping.ledger) nothing (l % layout.partitions) (left Reply.Aborted (lane_at book l)) (left_aborted (lane_at book l)) refl);
    owes = owes_with (layout_shape layout) state.chains later keeper state.w l (left Reply.Aborted (lane_at book l)) nothing idle Free inside goes.lanes.here refl come.between.rests (omega arith) (omega arith)
        (no_gates keeper.slots.items (l % layout.partitions));
    stores = (let sum = lane_sum_less (λ a. a.owed_events) book later l (left Reply.Aborted (lane_at book l)) goes.lanes (omega arith) in let most = state.owing.stores in omega (arith, sum, most));
    places = (let sum = lane_sum_less (λ a. a.owed_records) book later l (left Reply.Aborted (lane_at book l)) goes.lanes (omega arith) in let most = state.owing.places in omega (arith, sum, most));
    fresh = (let none = gone in let some = state.numbered.some in let same = goes.next in omega (arith, none, some, same));
    risen = (let same = goes.next in omega (arith, same));
    numbered = numbers_stay layout.partitions book later l (left Reply.Aborted (lane_at book l)) state.w (with_lane l idle state.w) events events goes.lanes goes.next refl
        (let most = state.numbered.commits l in omega (arith, most)) state.numbered.records state.numbered;
  })

  -- ---- a commit

  module _ (e : Entry E) (commits : before.doing ≡ Doing.Commit) (entry : before.entry ≡ Some e) (joins : JoinsTo book later l (left Reply.Committed (entered_lane (lane_at book l))) e) (kept : IsBook later) where
    abbrev lane : Lane E
    lane = left Reply.Committed (entered_lane (lane_at book l))

    no_writes_there : (plain_entry e).writes ≡ []
    no_writes_there = ap (λ z. z.writes) (was.txn.entry e entry) ∙ (λ i. come.unwritten i ++ map zero_of (ends_no_gifts layout book.blocks state.s.log (newest_log state.w.keeping.ledger) (under_of (layout_shape layout) state.w l) (l % layout.partitions) (lane_at book l) (txn_at state.w.lanes l) was (ap ends commits) i))

    not_entered : (b : Bool) → before.entered ≡ b → before.entered ≡ false
    not_entered false is = is
    not_entered true is = let off : Some e ≡ None = sym entry ∙ (state.is_book.entries.joined l (ap is_commit commits) is).out in cc

    unentered : before.entered ≡ false
    unentered = not_entered before.entered refl

    joining_one : is_joining before ≡ 1
    joining_one = λ i. if is_commit (commits i) && not (unentered i) then 1 else 0

    pending_one : pending before ≡ 1
    pending_one = ap (λ b. if b then 0 else (if before.transaction == 0 then 0 else 1)) unentered ∙ some_number (eqb_tells before.transaction 0)
      where
        some_number : ((before.transaction == 0) ≡ true) × (before.transaction ≡ 0) ⊎ ((before.transaction == 0) ≡ false) × (before.transaction ≢ 0) → ◌≡◌ {A = ℕ} (if before.transaction == 0 then 0 else 1) 1
        some_number (inl none) = let number = was.txn.number in let some = come.between.going.some in let zero_is = none.1 in absurd (omega (arith, number, some, zero_is))
        some_number (inr some) = ap (λ b. if b then 0 else 1) some.0

    more : (k : ℕ) → filter (is_of k) book.history.items ≢ [] → filter (is_of k) later.history.items ≢ []
    more k some none = by (is_of k e) (sym (filter_last (is_of k) book.history.items e) ∙ ap (filter (is_of k)) (sym joins.items) ∙ none)
      where
        by : (b : Bool) → (if b then filter (is_of k) book.history.items ++ e ∷ [] else filter (is_of k) book.history.items) ≡ [] → ⊥
        by true is = let long = length-append (filter (is_of k) book.history.items) (e ∷ []) in let empty = ap length is in omega (arith, long, empty)
        by false is = some is

    count_history : length later.history.items ≡ length book.history.items + 1
    count_history = let long = length-append book.history.items (e ∷ []) in let same = ap length joins.items in omega (arith, long, same)

    entries_joined : AreEntries later
    entries_joined = entries_go book later l lane joins.lanes more (record {
      others = λ off. record { unentered = refl; none = refl };
      waits = λ on new. (let clash : false ≡ true = on in cc);
      joined = λ on is. (let clash : false ≡ true = on in cc);
    }) (let sum = lane_sum is_joining book later l lane joins.lanes in let one = joining_one in let places = state.is_book.entries.places in let long = count_history in let most = joins.capacity in
        omega (arith, sum, one, places, long, most)) state.is_book.entries

    leaves_committed : IsStateOf layout start later keeper region spare events
    leaves_committed = goes_on layout start book later keeper keeper region region spare spare events events l x.number lane state state.opens (record {
      base = state.base;
      s = state.s;
      others = state.chains;
      v = left_with l (plain_entry e) state.w;
      has = joins.lanes;
      is_book = kept;
      entries = entries_joined;
      world = unrecorded_commit (layout_shape layout) state.base state.s state.chains start state.w region l (plain_entry e) no_writes_there may_leave state.world;
      roomy = roomy_less layout book later region (reserved_less layout book later l lane joins.lanes (omega arith)) state.roomy;
      beside = beside_history (layout_shape layout) l x.number state.s.log state.chains state.w idle (state.w.history ++ plain_entry e ∷ []);
      apart = apart_own (layout_shape layout) state.base state.s state.chains start state.w region l state.world;
      keeping = state.tied.keeping;
      next = state.tied.next;
      slots = same_slots keeper.slots.items;
      history = ap (λ h. h ++ plain_entry e ∷ []) state.tied.history ∙ sym (map-append plain_entry book.history.items (e ∷ [])) ∙ ap (map plain_entry) (sym joins.items);
      held = held_history (layout_shape layout) l idle state.w (state.w.history ++ plain_entry e ∷ []) state.tied.held;
      own = own_with layout book later l state.s.log state.w nothing lane idle joins.lanes.blocks inside come.between.rests
          (free_lane layout book.blocks state.s.log (newest_log state.w.keeping.ledger) nothing (l % layout.partitions) lane (left_committed (entered_lane (lane_at book l))) refl);
      owes = record { events = owed.events; records = owed.records; lists = owed.lists };
      stores = (let sum = lane_sum_less (λ a. a.owed_events) book later l lane joins.lanes (omega arith) in let most = state.owing.stores in omega (arith, sum, most));
      places = (let sum = lane_sum_less (λ a. a.owed_records) book later l lane joins.lanes (omega arith) in let most = state.owing.places in omega (arith, sum, most));
      fresh = (let none = gone in let some = state.numbered.some in let same = joins.next in omega (arith, none, some, same));
      risen = (let same = joins.next in omega (arith, same));
      numbered = numbers_stay layout.partitions book later l lane state.w (left_with l (plain_entry e) state.w) events events joins.lanes joins.next refl
          (let most = state.numbered.commits l in let one = pending_one in omega (arith, most, one)) state.numbered.records state.numbered;
    })
      where
        owed : OwesEnough (layout_shape layout) state.chains later keeper (with_lane l idle state.w) l
        owed = owes_with (layout_shape layout) state.chains later keeper state.w l lane nothing idle Free inside joins.lanes.here refl come.between.rests (omega arith) (omega arith)
            (no_gates keeper.slots.items (l % layout.partitions))

pub unrecorded_aborts_keep : {E : Type 0} → UnrecordedAbortsKeep E
unrecorded_aborts_keep layout start book later keeper region spare events l stage doing goes kept state =
    leaves_aborted layout start book later keeper region spare events l stage goes.lanes.inside state goes kept

pub unrecorded_commits_keep : {E : Type 0} → UnrecordedCommitsKeep E
unrecorded_commits_keep layout start book later keeper region spare events l e stage doing entry joins kept state =
    leaves_committed layout start book later keeper region spare events l stage joins.lanes.inside state e doing entry joins kept
