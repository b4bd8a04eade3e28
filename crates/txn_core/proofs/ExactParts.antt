-- What a step of a part, or an event on the lane's own words, costs its lane.
use Rattle.std.proofs.Common.{◌≡◌, ℕ, ◌+◌, ◌%◌, ◌<◌, ◌≤◌, true, false, List, length, None, refl, sym, ap, ◌∙◌, subst, inl, inr, arith}
use Rattle.persist_model.specs.declared.event.Event.{Event}
use Rattle.persist_model.specs.Region.{Region}
use Rattle.lane_traits.specs.declared.device.Done.TheVariants as Done
use Rattle.lane_traits.specs.Device.{Counts}
use Rattle.region_layout.specs.declared.cell.Cell.{Cell}
use Rattle.region_layout.specs.declared.layout.Layout.{Layout}
use Rattle.lane_types.specs.declared.call.Reply.{Reply}
use Rattle.lane_types.specs.declared.call.Stepped.{Stepped}
use Rattle.lane_types.specs.declared.call.What.TheVariants as What
use Rattle.lane_types.specs.Deeds.{Deeds}
use Rattle.offset_alloc.specs.declared.Standing.{Standing}
use Rattle.lane_book.specs.declared.book.Book.{Book}
use Rattle.lane_book.specs.declared.lane.Lane.{Lane}
use Rattle.lane_book.specs.declared.lane.Doing.{Doing}
use Rattle.lane_book.specs.FacesOf.{lane_at}
use Rattle.lane_book.specs.Lanes.{with_lane, noted, moved, paid_event, paid_record}
use Rattle.lane_book.specs.Calls.{Moves}
use Rattle.log_keeper.specs.declared.keeper.LogKeeper.{LogKeeper}
use Rattle.txn_state.specs.ReadLaws.{makes_events, appends_in}
use Rattle.txn_state.specs.Stages.{stage_of}
use Rattle.txn_core.specs.declared.advancing.Went.{Went}
use Rattle.txn_core.specs.Advancing.{Advances, Appends, WaitsForLatch, Stops, stopped as stops_so, going as goes_so, stored as stored_so, whole as whole_so, waits, runs}
use Rattle.txn_core.specs.Beginning.{Begins, holds, begins}
use Rattle.txn_core.specs.Exact.{IsUnblocked, GoesExactly, stays}
use Rattle.txn_core.specs.Making.{Makes, made, stopped as make_stopped}
use Rattle.txn_core.specs.Running.{one_made}
use Rattle.txn_core.specs.Freeing.{with_blocks}
use Rattle.txn_core.proofs.Paying.{goes_lane, goes_stopped, goes_nowhere, inside_then}
use Rattle.txn_core.proofs.UnderWay.{begun_paid, stopped_runs, going_counted, stored_counted, whole_counted}
use Rattle.txn_core.proofs.Exactly.{IsOnWith, on_with, on_then, pays_on, quiet_begin, moved_exactly, answered_exactly, stopped_exactly, waits_spends}

-- ---- an append is begun

same_owed : (n : ℕ) → n + 0 ≡ n
same_owed n = omega arith

begun_on : {E : Type 0} (layout : Layout) (keeper mid : LogKeeper) (book between : Book E) (words : List ℕ) (l : ℕ) (cell : Cell) → l < length book.lanes.items →
    Begins layout keeper mid book between words l cell None → IsOnWith book between l 0
begun_on layout keeper mid book between words l cell lt (holds held same_keeper same) = subst (λ (b : Book _). IsOnWith book b l 0) (sym same)
    (on_with book book l 0 (lane_at book l) (goes_nowhere book l lt) refl (same_owed (lane_at book l).owed_events))
begun_on layout keeper mid book between words l cell lt (begins place free seen drawn is) =
    on_with book between l 0 (paid_record (lane_at book l)) (goes_lane book between l (paid_record (lane_at book l)) book.touched lt is) refl (same_owed (lane_at book l).owed_events)

begun_unblocked : {E : Type 0} (layout : Layout) (keeper mid : LogKeeper) (book between : Book E) (words : List ℕ) (l : ℕ) (cell : Cell) → makes_events (stage_of (lane_at book l)) ≡ true →
    Begins layout keeper mid book between words l cell None → IsUnblocked layout book keeper l
begun_unblocked layout keeper mid book between words l cell makes (holds held same_keeper same) = record {
  latch = λ appends. inr held;
  structures = λ set begin. let wrong : true ≡ false = sym makes ∙ quiet_begin (lane_at book l) set begin in absurd (cc);
}
begun_unblocked layout keeper mid book between words l cell makes (begins place free seen drawn is) = record {
  latch = λ appends. inl free;
  structures = λ set begin. let wrong : true ≡ false = sym makes ∙ quiet_begin (lane_at book l) set begin in absurd (cc);
}

-- ---- an event of the part

-- The event is made, and the lane paid for it.
pub record HasPaidExactly {E : Type 0} (layout : Layout) (book between : Book E) (keeper : LogKeeper) (counts after : Counts) (l : ℕ) : Type 0 where
  pub inside : l < length between.lanes.items
  pub on : IsOnWith book between l 1
  pub unblocked : IsUnblocked layout book keeper l
  pub counted : after ≡ one_made counts

-- what stands before the event, the append being begun or not
pub record IsReadyFor {E : Type 0} (layout : Layout) (book before : Book E) (keeper : LogKeeper) (l : ℕ) : Type 0 where
  pub inside : l < length before.lanes.items
  pub on : IsOnWith book before l 0
  pub unblocked : IsUnblocked layout book keeper l
  pub owed : 1 ≤ (lane_at book l).owed_events

before_owes : (n m : ℕ) → n + 0 ≡ m → 1 ≤ m → 1 ≤ n
before_owes n m same some = omega (arith, same, some)

paid_on : {E : Type 0} (layout : Layout) (book before between : Book E) (keeper : LogKeeper) (l : ℕ) → IsReadyFor layout book before keeper l →
    between ≡ with_lane before l (paid_event (lane_at before l)) before.touched → IsOnWith book between l 1
paid_on layout book before between keeper l ready is =
    on_then book before between l 0 1 ready.on
    (pays_on before between l ready.inside is (before_owes (lane_at before l).owed_events (lane_at book l).owed_events ready.on.owed ready.owed))

paid_there : {E : Type 0} (before between : Book E) (l : ℕ) → l < length before.lanes.items → between ≡ with_lane before l (paid_event (lane_at before l)) before.touched →
    l < length between.lanes.items
paid_there before between l lt is = inside_then before between l (paid_event (lane_at before l)) (goes_lane before between l (paid_event (lane_at before l)) before.touched lt is)

-- the step is answered, as the call goes on or the device has stopped
advance_answered : {E : Type 0} (deeds : Deeds E) (layout : Layout) (book before later : Book E) (keeper mid kept : LogKeeper) (region behind : Region) (spare left : ℕ) (counts after : Counts) (l : ℕ) (answer : Stepped) →
    IsReadyFor layout book before keeper l → makes_events (stage_of (lane_at book l)) ≡ true → after.events ≤ after.budget →
    Advances deeds layout mid kept region behind counts after spare left before later l (Went.Answered answer) →
    GoesExactly layout book later keeper counts after l answer
advance_answered deeds layout book before later keeper mid kept region behind spare left counts after l _ ready makes within (stops_so between run pays stops) =
    let has = (stopped_runs layout mid kept region behind counts after l spare left run).0 in
    let stop : Stops deeds before later l = subst (λ (b : Book _). Stops deeds b later l) pays stops in
    stopped_exactly layout book later keeper counts after l Stepped.Stopped refl
    (on_then book before later l 0 0 ready.on
    (on_with before later l 0 (noted Stepped.Stopped (lane_at before l)) (goes_stopped before later l (noted Stepped.Stopped (lane_at before l)) None ready.inside stop.is) refl
    (same_owed (lane_at before l).owed_events)))
    ready.unblocked makes has.at_budget (ap (λ (c : Counts). c.events) has.counted_it)
advance_answered deeds layout book before later keeper mid kept region behind spare left counts after l _ ready makes within (goes_so between run pays moves) =
    moved_exactly layout book later keeper counts after l Stepped.Moved refl
    (on_then book between later l 1 0 (paid_on layout book before between keeper l ready pays)
    (on_with between later l 0 (moved (lane_at between l).part (lane_at between l))
    (goes_lane between later l (moved (lane_at between l).part (lane_at between l)) None (paid_there before between l ready.inside pays) moves.is) refl
    (same_owed (lane_at between l).owed_events)))
    ready.unblocked makes (going_counted layout mid kept region behind counts after l spare left run) within

advance_stored : {E : Type 0} (deeds : Deeds E) (layout : Layout) (book before between : Book E) (keeper mid kept : LogKeeper) (region behind : Region) (spare left : ℕ) (counts after : Counts) (l : ℕ) (c : Cell) →
    IsReadyFor layout book before keeper l → Advances deeds layout mid kept region behind counts after spare left before between l (Went.Stored c) →
    HasPaidExactly layout book between keeper counts after l
advance_stored deeds layout book before between keeper mid kept region behind spare left counts after l _ ready (stored_so c run pays) = record {
  inside = paid_there before between l ready.inside pays;
  on = paid_on layout book before between keeper l ready pays;
  unblocked = ready.unblocked;
  counted = stored_counted layout mid kept region behind counts after l spare left c run;
}

advance_whole : {E : Type 0} (deeds : Deeds E) (layout : Layout) (book before between : Book E) (keeper mid kept : LogKeeper) (region behind : Region) (spare left : ℕ) (counts after : Counts) (l : ℕ) →
    IsReadyFor layout book before keeper l → Advances deeds layout mid kept region behind counts after spare left before between l Went.Whole →
    HasPaidExactly layout book between keeper counts after l
advance_whole deeds layout book before between keeper mid kept region behind spare left counts after l ready (whole_so run pays) = record {
  inside = paid_there before between l ready.inside pays;
  on = paid_on layout book before between keeper l ready pays;
  unblocked = ready.unblocked;
  counted = whole_counted layout mid kept region behind counts after l spare left run;
}

-- ---- an append

begun_ready : {E : Type 0} (layout : Layout) (keeper mid : LogKeeper) (book between : Book E) (words : List ℕ) (l : ℕ) (cell : Cell) → l < length book.lanes.items →
    makes_events (stage_of (lane_at book l)) ≡ true → 1 ≤ (lane_at book l).owed_events → Begins layout keeper mid book between words l cell None → IsReadyFor layout book between keeper l
begun_ready layout keeper mid book between words l cell lt makes owed begun = record {
  inside = inside_then book between l _ (begun_paid layout keeper mid book between words l cell lt begun).goes;
  on = begun_on layout keeper mid book between words l cell lt begun;
  unblocked = begun_unblocked layout keeper mid book between words l cell makes begun;
  owed = owed;
}

same_went : (answer other : Stepped) → Went.Answered answer ≡ Went.Answered other → answer ≡ other
same_went answer other is = cc

noted_owed : {E : Type 0} (deeds : Deeds E) (layout : Layout) (book later : Book E) (keeper : LogKeeper) (l holder : ℕ) → l < length book.lanes.items →
    WaitsForLatch deeds layout keeper book later l holder → IsOnWith book later l 0
noted_owed deeds layout book later keeper l holder lt waiting =
    on_with book later l 0 (noted (Stepped.Waiting (What.Latch (l % layout.partitions)) holder) (lane_at book l))
    (goes_lane book later l (noted (Stepped.Waiting (What.Latch (l % layout.partitions)) holder) (lane_at book l)) None lt waiting.moves.is) refl
    (same_owed (lane_at book l).owed_events)

pub append_answered_exactly : {E : Type 0} (deeds : Deeds E) (layout : Layout) (book later : Book E) (keeper kept : LogKeeper) (words : List ℕ) (region behind : Region) (spare left : ℕ) (counts after : Counts) (l : ℕ) (cell : Cell) (answer : Stepped) →
    l < length book.lanes.items → appends_in (stage_of (lane_at book l)) ≡ true → makes_events (stage_of (lane_at book l)) ≡ true → 1 ≤ (lane_at book l).owed_events →
    after.events ≤ after.budget → Appends deeds layout keeper kept words region behind counts after spare left book later l cell (Went.Answered answer) →
    GoesExactly layout book later keeper counts after l answer
append_answered_exactly deeds layout book later keeper kept words region behind spare left counts after l cell answer lt appends makes owed within (waits holder is waiting same device) =
    let on = noted_owed deeds layout book later keeper l holder lt waiting in
    subst (GoesExactly layout book later keeper counts after l)
    (sym (same_went answer (Stepped.Waiting (What.Latch (l % layout.partitions)) holder) is)) (record {
      goes = record { appends = appends; latched = record { part = refl; held = waiting.held; some = waiting.some; other = waiting.other } };
      spends = waits_spends (lane_at book l) (lane_at later l) counts after makes on.owed (ap (λ (c : Counts). c.events) device.counts_stay);
      others = on.others;
      history = stays on.history;
    })
append_answered_exactly deeds layout book later keeper kept words region behind spare left counts after l cell answer lt appends makes owed within (runs mid between begun advance) =
    advance_answered deeds layout book between later keeper mid kept region behind spare left counts after l answer
    (begun_ready layout keeper mid book between words l cell lt makes owed begun) makes within advance

pub append_stored_paid : {E : Type 0} (deeds : Deeds E) (layout : Layout) (book between : Book E) (keeper kept : LogKeeper) (words : List ℕ) (region behind : Region) (spare left : ℕ) (counts after : Counts) (l : ℕ) (cell c : Cell) →
    l < length book.lanes.items → makes_events (stage_of (lane_at book l)) ≡ true → 1 ≤ (lane_at book l).owed_events →
    Appends deeds layout keeper kept words region behind counts after spare left book between l cell (Went.Stored c) →
    HasPaidExactly layout book between keeper counts after l
append_stored_paid deeds layout book between keeper kept words region behind spare left counts after l cell c lt makes owed (waits holder is waiting same device) = absurd (cc)
append_stored_paid deeds layout book between keeper kept words region behind spare left counts after l cell c lt makes owed (runs mid before begun advance) =
    advance_stored deeds layout book before between keeper mid kept region behind spare left counts after l c
    (begun_ready layout keeper mid book before words l cell lt makes owed begun) advance

pub append_whole_paid : {E : Type 0} (deeds : Deeds E) (layout : Layout) (book between : Book E) (keeper kept : LogKeeper) (words : List ℕ) (region behind : Region) (spare left : ℕ) (counts after : Counts) (l : ℕ) (cell : Cell) →
    l < length book.lanes.items → makes_events (stage_of (lane_at book l)) ≡ true → 1 ≤ (lane_at book l).owed_events →
    Appends deeds layout keeper kept words region behind counts after spare left book between l cell Went.Whole →
    HasPaidExactly layout book between keeper counts after l
append_whole_paid deeds layout book between keeper kept words region behind spare left counts after l cell lt makes owed (waits holder is waiting same device) = absurd (cc)
append_whole_paid deeds layout book between keeper kept words region behind spare left counts after l cell lt makes owed (runs mid before begun advance) =
    advance_whole deeds layout book before between keeper mid kept region behind spare left counts after l
    (begun_ready layout keeper mid book before words l cell lt makes owed begun) advance

-- ---- a closing or a removal

own_ready : {E : Type 0} (layout : Layout) (book : Book E) (keeper : LogKeeper) (l : ℕ) → l < length book.lanes.items → IsUnblocked layout book keeper l →
    1 ≤ (lane_at book l).owed_events → IsReadyFor layout book book keeper l
own_ready layout book keeper l lt unblocked owed = record {
  inside = lt;
  on = on_with book book l 0 (lane_at book l) (goes_nowhere book l lt) refl (same_owed (lane_at book l).owed_events);
  unblocked = unblocked;
  owed = owed;
}

pub advance_answered_exactly : {E : Type 0} (deeds : Deeds E) (layout : Layout) (book later : Book E) (keeper kept : LogKeeper) (region behind : Region) (spare left : ℕ) (counts after : Counts) (l : ℕ) (answer : Stepped) →
    l < length book.lanes.items → IsUnblocked layout book keeper l → makes_events (stage_of (lane_at book l)) ≡ true → 1 ≤ (lane_at book l).owed_events →
    after.events ≤ after.budget → Advances deeds layout keeper kept region behind counts after spare left book later l (Went.Answered answer) →
    GoesExactly layout book later keeper counts after l answer
advance_answered_exactly deeds layout book later keeper kept region behind spare left counts after l answer lt unblocked makes owed within advance =
    advance_answered deeds layout book book later keeper keeper kept region behind spare left counts after l answer (own_ready layout book keeper l lt unblocked owed) makes within advance

pub advance_whole_paid : {E : Type 0} (deeds : Deeds E) (layout : Layout) (book between : Book E) (keeper kept : LogKeeper) (region behind : Region) (spare left : ℕ) (counts after : Counts) (l : ℕ) →
    l < length book.lanes.items → IsUnblocked layout book keeper l → 1 ≤ (lane_at book l).owed_events →
    Advances deeds layout keeper kept region behind counts after spare left book between l Went.Whole →
    HasPaidExactly layout book between keeper counts after l
advance_whole_paid deeds layout book between keeper kept region behind spare left counts after l lt unblocked owed advance =
    advance_whole deeds layout book book between keeper keeper kept region behind spare left counts after l (own_ready layout book keeper l lt unblocked owed) advance

-- ---- what comes behind an event

-- the call goes on as this lane
pub paid_moves : {E : Type 0} (deeds : Deeds E) (layout : Layout) (book between later : Book E) (keeper : LogKeeper) (counts after : Counts) (l : ℕ) (touched : _) (lane : Lane E) (answer : Stepped) →
    answer ≡ Stepped.Moved → HasPaidExactly layout book between keeper counts after l → makes_events (stage_of (lane_at book l)) ≡ true → after.events ≤ after.budget →
    lane.doing ≡ (lane_at between l).doing → lane.owed_events ≡ (lane_at between l).owed_events →
    Moves deeds between later l touched answer lane → GoesExactly layout book later keeper counts after l answer
paid_moves deeds layout book between later keeper counts after l touched lane answer told paid makes within call owed moves =
    moved_exactly layout book later keeper counts after l answer told
    (on_then book between later l 1 0 paid.on
    (on_with between later l 0 lane (goes_lane between later l lane touched paid.inside moves.is) call (same_owed lane.owed_events ∙ owed)))
    paid.unblocked makes paid.counted within

-- or is over
pub paid_answers : {E : Type 0} (layout : Layout) (book between later : Book E) (keeper : LogKeeper) (counts after : Counts) (l : ℕ) (touched : _) (lane : Lane E) (answer : Stepped) (reply : Reply) →
    answer ≡ Stepped.Answered reply → HasPaidExactly layout book between keeper counts after l → makes_events (stage_of (lane_at book l)) ≡ true → after.events ≤ after.budget →
    lane.doing ≡ Doing.Nothing → later ≡ with_lane between l lane touched → GoesExactly layout book later keeper counts after l answer
paid_answers layout book between later keeper counts after l touched lane answer reply told paid makes within over is =
    answered_exactly layout book between later keeper counts after l lane answer reply told paid.on (goes_lane between later l lane touched paid.inside is) over
    paid.unblocked makes paid.counted within

-- perhaps with other blocks
pub paid_answers_with : {E : Type 0} (layout : Layout) (book between later : Book E) (keeper : LogKeeper) (counts after : Counts) (l : ℕ) (touched : _) (blocks : List Standing) (lane : Lane E) (answer : Stepped) (reply : Reply) →
    answer ≡ Stepped.Answered reply → HasPaidExactly layout book between keeper counts after l → makes_events (stage_of (lane_at book l)) ≡ true → after.events ≤ after.budget →
    lane.doing ≡ Doing.Nothing → later ≡ with_lane (with_blocks blocks between) l lane touched → GoesExactly layout book later keeper counts after l answer
paid_answers_with layout book between later keeper counts after l touched blocks lane answer reply told paid makes within over is =
    let to = goes_lane (with_blocks blocks between) later l lane touched paid.inside is in
    answered_exactly layout book (with_blocks blocks between) later keeper counts after l lane answer reply told
    (record { call = paid.on.call; owed = paid.on.owed; others = paid.on.others; history = paid.on.history }) to over
    paid.unblocked makes paid.counted within

-- ---- an event on the lane's own words

pub make_paid : {E : Type 0} (layout : Layout) (book between : Book E) (keeper : LogKeeper) (e : Event) (region behind : Region) (counts after : Counts) (spare left l : ℕ) →
    l < length book.lanes.items → IsUnblocked layout book keeper l → 1 ≤ (lane_at book l).owed_events →
    Makes e region behind counts after spare left book between l Done.Made → HasPaidExactly layout book between keeper counts after l
make_paid layout book between keeper e region behind counts after spare left l lt unblocked owed (made is counted pays) = record {
  inside = paid_there book between l lt pays;
  on = pays_on book between l lt pays owed;
  unblocked = unblocked;
  counted = counted;
}

-- the device has stopped, and the lane is told
pub make_stops : {E : Type 0} (layout : Layout) (book between later : Book E) (keeper : LogKeeper) (e : Event) (region behind : Region) (counts after : Counts) (spare left l : ℕ) (answer : Stepped) →
    answer ≡ Stepped.Stopped → l < length book.lanes.items → IsUnblocked layout book keeper l → makes_events (stage_of (lane_at book l)) ≡ true →
    Makes e region behind counts after spare left book between l Done.Stopped →
    later ≡ record (with_lane between l (noted Stepped.Stopped (lane_at between l)) None) { stopped = true } →
    GoesExactly layout book later keeper counts after l answer
make_stops layout book between later keeper e region behind counts after spare left l answer told lt unblocked makes (make_stopped has same) is =
    let at_once : later ≡ record (with_lane book l (noted Stepped.Stopped (lane_at book l)) None) { stopped = true } =
    subst (λ (b : Book _). later ≡ record (with_lane b l (noted Stepped.Stopped (lane_at b l)) None) { stopped = true }) same is in
    stopped_exactly layout book later keeper counts after l answer told
    (on_with book later l 0 (noted Stepped.Stopped (lane_at book l)) (goes_stopped book later l (noted Stepped.Stopped (lane_at book l)) None lt at_once) refl
    (same_owed (lane_at book l).owed_events))
    unblocked makes has.at_budget (ap (λ (c : Counts). c.events) has.counted_it)
