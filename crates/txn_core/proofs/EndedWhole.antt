-- The last event of the append of a transaction's end: the closing of its other records begins, and a commit's entry is in the history.
use Rattle.std.proofs.Common.{◌≡◌, ℕ, ◌%◌, ◌<◌, ◌++◌, ◌∷◌, [], Bool, true, false, List, length, Some, None, refl, sym, ap, ◌∙◌, subst}
use Rattle.std.proofs.Math.Logic.{∥∥₁_map, ∥∥₁_elim}
use Rattle.std.proofs.Math.Bridge.{le_prop}
use Rattle.std.proofs.Math.Nat.{ℕ_set}
use Rattle.persist_model.specs.Records.{Record}
use Rattle.persist_model.specs.Region.{Words, Region}
use Rattle.lane_traits.specs.Device.{Counts}
use Rattle.region_layout.specs.declared.cell.Cell.{Cell}
use Rattle.region_layout.specs.declared.layout.Layout.{Layout}
use Rattle.region_layout.specs.Layout.{layout_shape}
use Rattle.lane_types.specs.declared.call.Stepped.{Stepped}
use Rattle.lane_types.specs.declared.face.Entry.{Entry}
use Rattle.lane_types.specs.Deeds.{Deeds}
use Rattle.lane_types.specs.Faces.{Base}
use Rattle.lane_book.specs.declared.book.Book.{Book}
use Rattle.lane_book.specs.declared.lane.Lane.{Lane}
use Rattle.lane_book.specs.declared.lane.Doing.{Doing}
use Rattle.lane_types.specs.declared.call.Phase.{Phase}
use Rattle.lane_book.specs.FacesOf.{lane_at, faces_of}
use Rattle.lane_book.specs.Lanes.{with_lane, with_history, moved, entered_lane, paid_event}
use Rattle.lane_book.specs.Books.{IsBook}
use Rattle.lane_book.specs.Calls.{Moves}
use Rattle.lane_book.specs.Steps.{Steps, HasEntry}
use Rattle.lawful_book.proofs.GoingOn.{moved_on}
use Rattle.lawful_book.proofs.Histories.{Depends}
use Rattle.txn_core.proofs.LawfulKept.{joins_keep}
use Rattle.log_keeper.specs.declared.keeper.LogKeeper.{LogKeeper}
use Rattle.log_keeper.specs.Keeper.{keeping_of, begun_in, HasRoomIn, KeepsSlots}
use Rattle.log_keeper.specs.Parts.{closes}
use Rattle.log_keeper.specs.Slots.{HasRoomOf}
use Rattle.log_keeper.specs.Listing.{gates_in}
use Rattle.log_keeper.specs.Logged.{Keeping}
use Rattle.txn_state.specs.declared.parts.TheConstants.{CLOSE}
use Rattle.txn_state.specs.Changes.{JoinsTo}
use Rattle.txn_state.specs.ReadLaws.{clears_in}
use Rattle.txn_state.specs.Stages.{Ending, stage_at, stage_of, is_commit}
use Rattle.txn_laws.specs.Txns.{txn_at}
use Rattle.txn_state.specs.AppendLaws.{IsNextCell, made_in, closing_begun}
use Rattle.txn_state.specs.States.{IsStateOf}
use Rattle.txn_state.specs.Ties.{IsCome, IsEndingIt, under_of}
use Rattle.txn_state.proofs.EndsSettling.{undone_ends_settle, commit_ends_settle}
use Rattle.txn_state.proofs.ListRooms.{lists_are_kept}
use Rattle.txn_state.proofs.StageSteps.{EndsCall, commit, abort, call_at, stage_of_call}
use Rattle.txn_core.specs.declared.advancing.Went.TheVariants as Went
use Rattle.txn_core.specs.Running.{whole as run_whole}
use Rattle.txn_core.specs.Advancing.{Advances, Appends, waits, runs, whole}
use Rattle.txn_core.specs.Beginning.{Begins}
use Rattle.txn_core.specs.Clearing.{HasTurned}
use Rattle.txn_core.specs.States.{IsWorld, HasWorld, start_of}
use Rattle.txn_core.specs.Phases.{ArePhased}
use Rattle.txn_core.specs.Stepping.{StepsWorld, HasMade, IsCause}
use Rattle.txn_core.proofs.ExactJoins.{the_entry}
use Rattle.txn_core.proofs.Appended.{paid_inside, paid_stage, paid_doing, paid_transaction}
use Rattle.txn_core.proofs.Facts.{IsRead}
use Rattle.txn_core.proofs.Latched.{begins_beside, turned_latches}
use Rattle.txn_core.proofs.Latches.{slot_of_lane}
use Rattle.txn_core.proofs.Latching.{begun_slots}
use Rattle.txn_core.proofs.Closings.{turned_then, slot_behind, whole_pays}
use Rattle.txn_core.proofs.Paid.{paid_goes, lanes_paid, lawful_with, lawful_paid, lane_then}
use Rattle.txn_core.proofs.Paying.{paid_then, paid_step, goes_lane}
use Rattle.txn_core.proofs.PhasedSteps.{paid_phased}
use Rattle.txn_core.proofs.Phasing.{phased_with, other_phased, joined_phased}
use Rattle.txn_core.proofs.Quieting.{joins_to}
use Rattle.txn_core.proofs.UnderWay.{begun_paid, begun_world, begun_phased, whole_paid}
use Rattle.txn_core.proofs.EndedLanes.{ending_recorded}
use Rattle.txn_core.proofs.Touching.{TouchesNone, touches_prop, touches_none, advance_leaves, none_with}

-- ---- the keeper's memory

-- the lists have memory for the gates of the records
records_room : {E : Type 0} (deeds : Deeds E) (layout : Layout) (base : Base) (book between : Book E) (keeper mid : LogKeeper) (region behind : Region)
    (spare left : ℕ) (counts after : Counts) (l : ℕ) →
    l < length book.lanes.items → stage_of (lane_at book l) ≡ Ending →
    Advances deeds layout keeper mid region behind counts after spare left book between l Went.Whole →
    IsWorld deeds layout base book keeper region spare counts.events →
    HasRoomIn mid.slots.items (l % layout.partitions) (length (gates_in (lane_at book l).transaction false (keeping_of mid).ledger))
records_room deeds layout base book between keeper mid region behind spare left counts after l lt at (whole (run_whole e made counted are keeps) pays) world =
    keeps.slots.lists (l % layout.partitions) _ (slot_of_lane layout keeper l world.state.tied.slots)
    (subst (λ (k : Keeping). HasRoomIn keeper.slots.items (l % layout.partitions) (length (gates_in (lane_at book l).transaction false k.ledger))) (sym keeps.kept)
    (lists_are_kept.records layout (start_of layout base) book keeper region spare counts.events l lt at are made.holder world.state))

module _ {E : Type 0} (deeds : Deeds E) (layout : Layout) (book between : Book E) (keeper mid : LogKeeper) (words : List ℕ) (region behind : Region)
    (spare left : ℕ) (counts after : Counts) (l : ℕ) (cell : Cell)
    (read : IsRead words region counts) (lt : l < length book.lanes.items) (at : stage_of (lane_at book l) ≡ Ending)
    (next : IsNextCell region (lane_at book l) cell) where
  pub has_records_room : (t : ℕ) → t ≡ (lane_at book l).transaction → HasWorld deeds layout book keeper region spare counts →
      Appends deeds layout keeper mid words region behind counts after spare left book between l cell Went.Whole →
      HasRoomIn mid.slots.items (l % layout.partitions) (length (gates_in t false (keeping_of mid).ledger))
  has_records_room t told world (waits holder is waiting same device) x is_x = absurd (cc)
  has_records_room t told world (runs begun_log begun_book begun advance) x is_x =
      let paid = begun_paid layout keeper begun_log book begun_book words l cell lt begun in
      let room : (w : (base : Base) × IsWorld deeds layout base book keeper region spare counts.events) →
      HasRoomOf x (length (gates_in t false (keeping_of mid).ledger)) =
      λ w. subst (λ n. HasRoomOf x (length (gates_in n false (keeping_of mid).ledger))) (sym (told ∙ sym (paid_transaction book begun_book l paid)))
      (records_room deeds layout w.0 begun_book between begun_log mid region behind spare left counts after l (paid_inside book begun_book l paid)
      (paid_stage book begun_book l paid ∙ at) advance
      (begun_world deeds layout w.0 keeper begun_log book begun_book words region spare counts l cell read lt next begun w.1) x is_x) in
      (∥∥₁_elim world le_prop (λ w. (room w).0), ∥∥₁_elim world le_prop (λ w. (room w).1), ∥∥₁_elim world le_prop (λ w. (room w).2))

  -- and the partition has a slot yet
  pub end_slot : length keeper.slots.items ≡ layout.partitions →
      Appends deeds layout keeper mid words region behind counts after spare left book between l cell Went.Whole →
      l % layout.partitions < length mid.slots.items
  end_slot slots (waits holder is waiting same device) = absurd (cc)
  end_slot slots (runs begun_log begun_book begun advance) =
      slot_behind deeds layout begun_book between begun_log mid region behind spare left counts after l
      (begun_slots layout book begun_book keeper begun_log words l cell lt begun ∙ slots) advance

-- the closing of the records begins, of the transaction as the code read it
pub closing_turned : (p t own : ℕ) (mid later : LogKeeper) → t ≡ own → keeping_of later ≡ closing_begun p t (keeping_of mid) → later.next_lsn ≡ mid.next_lsn →
    later.ledger ≡ mid.ledger →
    KeepsSlots mid.slots.items later.slots.items → HasTurned mid later (closing_begun p own (keeping_of mid))
closing_turned p t own mid later told kept number ledger slots = subst (λ n. HasTurned mid later (closing_begun p n (keeping_of mid))) told
    (record { kept = kept; number = number; ledger = ledger; slots = slots })

-- behind the append of its end the lane closes
closing_clears : (phase : Phase) (recorded : Bool) (part : ℕ) (doing : Doing) → stage_at phase recorded part doing ≡ Ending → clears_in (stage_at phase recorded CLOSE doing) ≡ true
closing_clears phase recorded part doing at = by (call_at phase recorded part doing Ending at refl)
  where
    by : EndsCall recorded doing Ending → clears_in (stage_at phase recorded CLOSE doing) ≡ true
    by (commit on is has) = ap clears_in (stage_of_call phase recorded CLOSE doing Doing.Commit on is)
    by (abort on is has) = ap clears_in (stage_of_call phase recorded CLOSE doing Doing.Abort on is)

-- ---- what the steps have in common

-- What stands behind the append, and the later book as it is told.
record IsSettled {E : Type 0} (deeds : Deeds E) (layout : Layout) (book between later : Book E) (keeper mid kept : LogKeeper) (region behind : Region)
    (spare left : ℕ) (counts after : Counts) (l : ℕ) (answer : Stepped) : Type 0 where
  told : answer ≡ Stepped.Moved
  step : Steps deeds between later l answer
  stays : (base : Base) → IsWorld deeds layout base book keeper region spare counts.events → IsWorld deeds layout base later kept behind left after.events
  phased : ArePhased book → ArePhased later
  touches : TouchesNone between later
  gates : List ℕ
  turned : keeping_of kept ≡ begun_in (l % layout.partitions) (closes gates [] []) (keeping_of mid).ledger (keeping_of mid)
  clears : clears_in (stage_of (lane_at later l)) ≡ true

-- A step behind the begin of an append is one from before it.
settled_step : {E : Type 0} (deeds : Deeds E) (layout : Layout) (book begun_book between later : Book E) (keeper begun_log mid kept : LogKeeper)
    (words : List ℕ) (region behind : Region) (spare left : ℕ) (counts after : Counts) (l : ℕ) (cell : Cell)
    (answer : Stepped) → IsRead words region counts → l < length book.lanes.items → IsNextCell region (lane_at book l) cell →
    Begins layout keeper begun_log book begun_book words l cell None →
    Advances deeds layout begun_log mid region behind counts after spare left begun_book between l Went.Whole →
    IsSettled deeds layout begun_book between later begun_log mid kept region behind spare left counts after l answer →
    StepsWorld deeds layout book later keeper kept region behind spare left counts after l answer
settled_step deeds layout book begun_book between later keeper begun_log mid kept words region behind spare left counts after l cell answer read lt next begun
    advance settled =
    let paid = begun_paid layout keeper begun_log book begun_book words l cell lt begun in
    let one = whole_paid deeds layout begun_book between begun_log mid region behind spare left counts after l (paid_inside book begun_book l paid) advance in
    record {
      stays = λ base. λ stood. ∥∥₁_map stood (λ world.
          settled.stays base (begun_world deeds layout base keeper begun_log book begun_book words region spare counts l cell read lt next begun world));
      face = λ base stood. paid_step deeds base book between l answer (faces_of base later) (paid_then book begun_book between l paid one.paid) (settled.step base);
      made = subst (λ (a : Stepped). HasMade a counts after) (sym settled.told) one.counted;
      phased = λ phased. settled.phased (begun_phased layout keeper begun_log book begun_book words l cell lt begun phased);
      cause = subst (λ (a : Stepped). IsCause layout book keeper counts l a) (sym settled.told) tt;
      count = settled.touches.count ∙ one.paid.goes.lanes.count ∙ paid.goes.lanes.count;
      touches = λ base stood. ∥∥₁_elim stood (touches_prop layout region behind later.touched) (λ world.
          touches_none layout region behind later.touched settled.touches.none
          (advance_leaves deeds layout (start_of layout base) begun_book between begun_log mid region behind spare left counts after l Went.Whole advance
          (begun_world deeds layout base keeper begun_log book begun_book words region spare counts l cell read lt next begun world).state));
      latches = turned_latches deeds layout book begun_book between keeper begun_log mid region behind spare left counts after l
          (begins_beside layout keeper begun_log book begun_book words l cell begun) later kept (closes settled.gates [] []) (keeping_of mid).ledger advance settled.turned settled.clears;
    }

-- ---- an abort

-- where its end comes next, all that it wrote is taken back
unstored : {E : Type 0} (layout : Layout) (start : Words) (book : Book E) (keeper : LogKeeper) (region : Region) (spare events l : ℕ) → l < length book.lanes.items →
    stage_of (lane_at book l) ≡ Ending → is_commit (lane_at book l).doing ≡ false → IsStateOf layout start book keeper region spare events → (lane_at book l).stored ≡ 0
unstored layout start book keeper region spare events l lt at aborts st =
    let own = st.tied.each l (subst (λ n. l < n) (sym st.tied.lanes) lt) in
    let come : IsEndingIt _ (txn_at st.w.lanes l) = subst (IsCome st.s.log (under_of (layout_shape layout) st.w l) (txn_at st.w.lanes l)) at own.come in
    sym own.txn.stored ∙ come.stored_are ∙ ap (λ (rs : List Record). length rs) (come.undone_all (own.txn.commits ∙ aborts))

undone_world : {E : Type 0} (deeds : Deeds E) (layout : Layout) (base : Base) (book between later : Book E) (keeper mid kept : LogKeeper)
    (region behind : Region) (spare left : ℕ) (counts after : Counts) (l : ℕ) (answer : Stepped) →
    l < length book.lanes.items → stage_of (lane_at book l) ≡ Ending → is_commit (lane_at book l).doing ≡ false →
    Advances deeds layout keeper mid region behind counts after spare left book between l Went.Whole →
    HasTurned mid kept (closing_begun (l % layout.partitions) (lane_at book l).transaction (keeping_of mid)) →
    Moves deeds between later l None answer (moved CLOSE (lane_at between l)) →
    IsWorld deeds layout base book keeper region spare counts.events → IsWorld deeds layout base later kept behind left after.events
undone_world deeds layout base book between later keeper mid kept region behind spare left counts after l answer lt at aborts
    (whole (run_whole e made counted are keeps) pays) turned moves world =
    let inside = lanes_paid book between l pays lt in
    record {
      state = undone_ends_settle _ layout (start_of layout base) book later keeper kept region behind spare left counts.events after.events l e made are at aborts
          (paid_goes book between later l (paid_event (lane_at book l)) (moved CLOSE) book.touched lt pays
          (goes_lane between later l (moved CLOSE (lane_at between l)) None inside moves.is)) moves.kept
          (turned_then keeper mid kept (made_in layout keeper (l % layout.partitions)) (closing_begun (l % layout.partitions) (lane_at book l).transaction)
          keeps turned) world.state;
      lawful = lawful_with deeds layout base between later l (moved CLOSE (lane_at between l)) None inside moves.is (moved_on CLOSE (lane_at between l))
          (lawful_paid deeds layout base book between l lt pays world.lawful);
    }

undone_phased : {E : Type 0} (book between later : Book E) (l : ℕ) → l < length book.lanes.items →
    between ≡ with_lane book l (paid_event (lane_at book l)) book.touched →
    is_commit (lane_at between l).doing ≡ false → (lane_at between l).stored ≡ 0 → later ≡ with_lane between l (moved CLOSE (lane_at between l)) None → ArePhased book → ArePhased later
undone_phased book between later l lt pays aborts none is phased =
    phased_with between later l (moved CLOSE (lane_at between l)) None (lanes_paid book between l pays lt) (ap (λ (b : Book _). b.lanes) is)
    (other_phased (lane_at between l) CLOSE aborts (λ on. none)) (paid_phased book between l lt pays phased)

pub undone_settles : {E : Type 0} (deeds : Deeds E) (layout : Layout) (book between later : Book E) (keeper mid kept : LogKeeper) (words : List ℕ)
    (region behind : Region) (spare left : ℕ) (counts after : Counts) (l : ℕ) (cell : Cell) (answer : Stepped) →
    IsRead words region counts → l < length book.lanes.items → stage_of (lane_at book l) ≡ Ending → is_commit (lane_at book l).doing ≡ false →
    IsNextCell region (lane_at book l) cell →
    Appends deeds layout keeper mid words region behind counts after spare left book between l cell Went.Whole →
    HasTurned mid kept (closing_begun (l % layout.partitions) (lane_at book l).transaction (keeping_of mid)) → answer ≡ Stepped.Moved →
    Moves deeds between later l None answer (moved CLOSE (lane_at between l)) → HasWorld deeds layout book keeper region spare counts →
    StepsWorld deeds layout book later keeper kept region behind spare left counts after l answer
undone_settles deeds layout book between later keeper mid kept words region behind spare left counts after l cell answer read lt at aborts next
    (waits holder is waiting same device) turned told moves has = absurd (cc)
undone_settles deeds layout book between later keeper mid kept words region behind spare left counts after l cell answer read lt at aborts next
    (runs begun_log begun_book begun advance) turned told moves has =
    let paid = begun_paid layout keeper begun_log book begun_book words l cell lt begun in
    let inside = paid_inside book begun_book l paid in
    let none = ap is_commit (paid_doing book begun_book l paid) ∙ aborts in
    let pays = whole_pays deeds layout begun_log mid region behind counts after spare left begun_book between l advance in
    settled_step deeds layout book begun_book between later keeper begun_log mid kept words region behind spare left counts after l cell answer read lt next
    begun advance (record {
      told = told;
      step = moves.step;
      stays = λ base world. undone_world deeds layout base begun_book between later begun_log mid kept region behind spare left counts after l answer inside
          (paid_stage book begun_book l paid ∙ at) none advance
          (subst (λ t. HasTurned mid kept (closing_begun (l % layout.partitions) t (keeping_of mid))) (sym (paid_transaction book begun_book l paid)) turned)
          moves world;
      phased = undone_phased begun_book between later l inside pays
          (ap (λ (x : Lane _). is_commit x.doing) (goes_lane begun_book between l (paid_event (lane_at begun_book l)) begun_book.touched inside pays).lanes.here
          ∙ none)
          (ap (λ (x : Lane _). x.stored) (goes_lane begun_book between l (paid_event (lane_at begun_book l)) begun_book.touched inside pays).lanes.here
          ∙ ∥∥₁_elim has (ℕ_set _ _) (λ w. unstored layout (start_of layout w.0) begun_book begun_log region spare counts.events l inside (paid_stage book begun_book l paid ∙ at) none
          (begun_world deeds layout w.0 keeper begun_log book begun_book words region spare counts l cell read lt next begun w.1).state)) moves.is;
      touches = none_with between later l (moved CLOSE (lane_at between l)) (ap (λ (b : Book _). b.lanes) moves.is) (ap (λ (b : Book _). b.touched) moves.is);
      gates = gates_in (lane_at book l).transaction false (keeping_of mid).ledger;
      turned = turned.kept;
      clears = ap (λ (x : Lane _). clears_in (stage_of x)) (goes_lane between later l (moved CLOSE (lane_at between l)) None (lanes_paid begun_book between l pays inside) moves.is).lanes.here
          ∙ closing_clears (lane_at between l).phase (lane_at between l).has_records (lane_at between l).part (lane_at between l).doing
          (paid_stage begun_book between l (whole_paid deeds layout begun_book between begun_log mid region behind spare left counts after l inside advance).paid
          ∙ paid_stage book begun_book l paid ∙ at);
    })

-- ---- a commit

-- the later book, whose history has the entry
abbrev Joined : {E : Type 0} → Book E → Book E → ℕ → Entry E → Type 0
Joined between later l e = later ≡ with_history (between.history.items ++ e ∷ []) (with_lane between l (moved CLOSE (entered_lane (lane_at between l))) None)

joins_then : {E : Type 0} (book between later : Book E) (l : ℕ) (e : Entry E) → l < length book.lanes.items →
    between ≡ with_lane book l (paid_event (lane_at book l)) book.touched →
    Joined between later l e → JoinsTo book later l (moved CLOSE (entered_lane (paid_event (lane_at book l)))) e
joins_then book between later l e lt pays is =
    let goes = goes_lane book between l (paid_event (lane_at book l)) book.touched lt pays in
    let joins = subst (λ (x : Lane _). JoinsTo between later l (moved CLOSE (entered_lane x)) e) goes.lanes.here
    (joins_to between later l (moved CLOSE (entered_lane (lane_at between l))) e (lanes_paid book between l pays lt) is) in
    record {
      lanes = lane_then book between later l (paid_event (lane_at book l)) (moved CLOSE (entered_lane (paid_event (lane_at book l)))) goes.lanes joins.lanes;
      items = joins.items ∙ ap (λ h. h.items ++ e ∷ []) goes.history;
      capacity = joins.capacity ∙ ap (λ h. h.capacity) goes.history;
      next = joins.next ∙ goes.next;
    }

commit_world : {E : Type 0} (deeds : Deeds E) (layout : Layout) (base : Base) (book between later : Book E) (keeper mid kept : LogKeeper)
    (region behind : Region) (spare left : ℕ) (counts after : Counts) (l : ℕ) (e : Entry E) → Depends deeds →
    l < length book.lanes.items → stage_of (lane_at book l) ≡ Ending → is_commit (lane_at book l).doing ≡ true →
    Advances deeds layout keeper mid region behind counts after spare left book between l Went.Whole →
    HasTurned mid kept (closing_begun (l % layout.partitions) (lane_at book l).transaction (keeping_of mid)) →
    (lane_at between l).entry ≡ Some e → Joined between later l e → IsBook between → IsBook later →
    IsWorld deeds layout base book keeper region spare counts.events → IsWorld deeds layout base later kept behind left after.events
commit_world deeds layout base book between later keeper mid kept region behind spare left counts after l entry depends lt at commits
    (whole (run_whole e made counted are keeps) pays) turned has is was_book is_book world =
    let here = (goes_lane book between l (paid_event (lane_at book l)) book.touched lt pays).lanes.here in
    record {
      state = commit_ends_settle _ layout (start_of layout base) book later keeper kept region behind spare left counts.events after.events l e entry made are
          at commits
          (sym (ap (λ (x : Lane _). x.entry) here) ∙ has) (joins_then book between later l entry lt pays is) is_book
          (turned_then keeper mid kept (made_in layout keeper (l % layout.partitions)) (closing_begun (l % layout.partitions) (lane_at book l).transaction)
          keeps turned) world.state;
      lawful = joins_keep deeds depends layout base between later l CLOSE entry (lawful_paid deeds layout base book between l lt pays world.lawful) was_book
          (lanes_paid book between l pays lt) has is;
    }

commit_phased : {E : Type 0} (book between later : Book E) (l : ℕ) (e : Entry E) → l < length book.lanes.items →
    between ≡ with_lane book l (paid_event (lane_at book l)) book.touched →
    (lane_at between l).doing ≡ Doing.Commit → stage_of (lane_at between l) ≡ Ending → Joined between later l e → ArePhased book → ArePhased later
commit_phased book between later l e lt pays doing at is phased =
    phased_with between later l (moved CLOSE (entered_lane (lane_at between l))) None (lanes_paid book between l pays lt) (ap (λ (b : Book _). b.lanes) is)
    (joined_phased (lane_at between l) doing (ending_recorded (lane_at between l) doing at)) (paid_phased book between l lt pays phased)

pub commit_settles : {E : Type 0} (deeds : Deeds E) (layout : Layout) (book between later : Book E) (keeper mid kept : LogKeeper) (words : List ℕ)
    (region behind : Region) (spare left : ℕ) (counts after : Counts) (l : ℕ) (cell : Cell) (answer : Stepped) → Depends deeds →
    IsRead words region counts → l < length book.lanes.items → stage_of (lane_at book l) ≡ Ending → (lane_at book l).doing ≡ Doing.Commit →
    IsNextCell region (lane_at book l) cell →
    Appends deeds layout keeper mid words region behind counts after spare left book between l cell Went.Whole →
    HasTurned mid kept (closing_begun (l % layout.partitions) (lane_at book l).transaction (keeping_of mid)) → answer ≡ Stepped.Moved →
    HasEntry l (lane_at between l) → ((e : Entry E) → (lane_at between l).entry ≡ Some e → Joined between later l e) →
    IsBook between → IsBook later → Steps deeds between later l answer →
    StepsWorld deeds layout book later keeper kept region behind spare left counts after l answer
commit_settles deeds layout book between later keeper mid kept words region behind spare left counts after l cell answer depends read lt at doing next
    (waits holder is waiting same device) turned told has joins was_book is_book step = absurd (cc)
commit_settles deeds layout book between later keeper mid kept words region behind spare left counts after l cell answer depends read lt at doing next
    (runs begun_log begun_book begun advance) turned told has joins was_book is_book step =
    let paid = begun_paid layout keeper begun_log book begun_book words l cell lt begun in
    let inside = paid_inside book begun_book l paid in
    let pays = whole_pays deeds layout begun_log mid region behind counts after spare left begun_book between l advance in
    let one = (whole_paid deeds layout begun_book between begun_log mid region behind spare left counts after l inside advance).paid in
    let found = the_entry l (lane_at between l).begun (lane_at between l).entry has.next in
    let call = paid_doing book begun_book l paid ∙ doing in
    let stage = paid_stage book begun_book l paid ∙ at in
    settled_step deeds layout book begun_book between later keeper begun_log mid kept words region behind spare left counts after l cell answer read lt next
    begun advance (record {
      told = told;
      step = step;
      stays = λ base world. commit_world deeds layout base begun_book between later begun_log mid kept region behind spare left counts after l found.0 depends
          inside stage (ap is_commit call) advance
          (subst (λ t. HasTurned mid kept (closing_begun (l % layout.partitions) t (keeping_of mid))) (sym (paid_transaction book begun_book l paid)) turned)
          found.1 (joins found.0 found.1) was_book is_book world;
      phased = commit_phased begun_book between later l found.0 inside pays (paid_doing begun_book between l one ∙ call)
          (paid_stage begun_book between l one ∙ stage) (joins found.0 found.1);
      touches = none_with between later l (moved CLOSE (entered_lane (lane_at between l))) (ap (λ (b : Book _). b.lanes) (joins found.0 found.1))
          (ap (λ (b : Book _). b.touched) (joins found.0 found.1));
      gates = gates_in (lane_at book l).transaction false (keeping_of mid).ledger;
      turned = turned.kept;
      clears = ap (λ (x : Lane _). clears_in (stage_of x))
          (joins_to between later l (moved CLOSE (entered_lane (lane_at between l))) found.0 (lanes_paid begun_book between l pays inside) (joins found.0 found.1)).lanes.here
          ∙ closing_clears (lane_at between l).phase (lane_at between l).has_records (lane_at between l).part (lane_at between l).doing
          (paid_stage begun_book between l one ∙ stage);
    })
