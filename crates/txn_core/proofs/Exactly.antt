-- What a step costs its lane, and what its answer says: from what becomes of the book to the record.
use Rattle.std.proofs.Common.{◌≡◌, ◌≢◌, ℕ, ◌+◌, ◌-◌, ◌<◌, ◌≤◌, Bool, true, false, if◌then◌else◌, length, refl, sym, ap, ◌∙◌, subst, arith}
use Rattle.lane_traits.specs.Device.{Counts}
use Rattle.region_layout.specs.declared.layout.Layout.{Layout}
use Rattle.lane_types.specs.declared.call.Phase.{Phase}
use Rattle.lane_types.specs.declared.call.Reply.{Reply}
use Rattle.lane_types.specs.declared.call.Stepped.{Stepped}
use Rattle.lane_book.specs.declared.book.Book.{Book}
use Rattle.lane_book.specs.declared.lane.Lane.{Lane}
use Rattle.lane_book.specs.declared.lane.Doing.{Doing}
use Rattle.lane_book.specs.FacesOf.{lane_at}
use Rattle.lane_book.specs.Lanes.{with_lane, paid_event}
use Rattle.log_keeper.specs.declared.keeper.LogKeeper.{LogKeeper}
use Rattle.txn_state.specs.Changes.{GoesTo}
use Rattle.txn_state.specs.ReadLaws.{makes_events, appends_in}
use Rattle.txn_state.specs.Stages.{idle_stage, stage_at, stage_of}
use Rattle.txn_core.specs.Exact.{IsUnblocked, events_owed, Grows, stays, GoesExactly, StepsExactly}
use Rattle.txn_core.specs.Running.{one_made}
use Rattle.txn_core.proofs.Paying.{goes_lane}

-- ---- numbers

if_at_most : (b : Bool) (n : ℕ) → (if b then n else 0) ≤ n
if_at_most true n = omega arith
if_at_most false n = omega arith

less_one : (n : ℕ) → 1 ≤ n → (n - 1) + 1 ≡ n
less_one n some = omega (arith, some)

and_none : (n : ℕ) → n + 0 ≡ n
and_none n = omega arith

sum_then : (a b c j k : ℕ) → a + k ≡ b → b + j ≡ c → a + (k + j) ≡ c
sum_then a b c j k one other = omega (arith, one, other)

spent_one : (x y o p a c : ℕ) → x ≤ y → y + 1 ≡ o → p ≡ o → a ≡ c + 1 → x + a ≤ p + c
spent_one x y o p a c le one is made = omega (arith, le, one, is, made)

spent_at_end : (x y o p a c : ℕ) → x ≡ 0 → y + 1 ≡ o → p ≡ o → a ≡ c + 1 → x + a ≤ p + c
spent_at_end x y o p a c none one is made = omega (arith, none, one, is, made)

spent_none : (x y p a c : ℕ) → x ≤ y → y + 0 ≡ p → a ≡ c → x + a ≤ p + c
spent_none x y p a c le same none = omega (arith, le, same, none)

none_spent : (x p a c : ℕ) → x ≡ 0 → a ≡ c → x + a ≤ p + c
none_spent x p a c none same = omega (arith, none, same)

-- ---- what a lane owes

pub owed_at_most : {E : Type 0} (lane : Lane E) → events_owed lane ≤ lane.owed_events
owed_at_most lane = if_at_most (makes_events (stage_of lane)) lane.owed_events

pub owed_is : {E : Type 0} (lane : Lane E) → makes_events (stage_of lane) ≡ true → events_owed lane ≡ lane.owed_events
owed_is lane makes = ap (λ b. if b then lane.owed_events else 0) makes

pub none_owed : {E : Type 0} (lane : Lane E) → makes_events (stage_of lane) ≡ false → events_owed lane ≡ 0
none_owed lane makes = ap (λ b. if b then lane.owed_events else 0) makes

quiet_phase : (phase : Phase) → makes_events (idle_stage phase) ≡ false
quiet_phase Phase.Out = refl
quiet_phase Phase.In = refl
quiet_phase Phase.Calling = refl

-- no event is made without a call, nor by a begin
pub quiet_between : {E : Type 0} (lane : Lane E) → lane.doing ≡ Doing.Nothing → makes_events (stage_of lane) ≡ false
quiet_between lane nothing = ap (λ d. makes_events (stage_at lane.phase lane.has_records lane.part d)) nothing ∙ quiet_phase lane.phase

pub quiet_begin : {E : Type 0} (lane : Lane E) (set : ℕ) → lane.doing ≡ Doing.Begin set → makes_events (stage_of lane) ≡ false
quiet_begin lane set begins = ap (λ d. makes_events (stage_at lane.phase lane.has_records lane.part d)) begins

no_begin : {E : Type 0} (lane : Lane E) (set : ℕ) → makes_events (stage_of lane) ≡ true → lane.doing ≡ Doing.Begin set → ⊥
no_begin lane set makes begins = let wrong : true ≡ false = sym makes ∙ quiet_begin lane set begins in absurd (cc)

-- ---- one book beside another

-- The lane's call goes on and has paid for k events, and of the other lanes and the history nothing is another.
pub record IsOnWith {E : Type 0} (book later : Book E) (l k : ℕ) : Type 0 where
  pub call : (lane_at later l).doing ≡ (lane_at book l).doing
  pub owed : (lane_at later l).owed_events + k ≡ (lane_at book l).owed_events
  pub others : (q : ℕ) → q ≢ l → lane_at later q ≡ lane_at book q
  pub history : later.history.items ≡ book.history.items

pub on_with : {E : Type 0} (book later : Book E) (l k : ℕ) (lane : Lane E) → GoesTo book later l lane → lane.doing ≡ (lane_at book l).doing →
    lane.owed_events + k ≡ (lane_at book l).owed_events → IsOnWith book later l k
on_with book later l k lane to call owed = record {
  call = ap (λ (x : Lane _). x.doing) to.lanes.here ∙ call;
  owed = ap (λ (x : Lane _). x.owed_events + k) to.lanes.here ∙ owed;
  others = to.lanes.others;
  history = ap (λ h. h.items) to.history;
}

pub on_then : {E : Type 0} (book between later : Book E) (l j k : ℕ) → IsOnWith book between l j → IsOnWith between later l k → IsOnWith book later l (k + j)
on_then book between later l j k one other = record {
  call = other.call ∙ one.call;
  owed = sum_then (lane_at later l).owed_events (lane_at between l).owed_events (lane_at book l).owed_events j k other.owed one.owed;
  others = λ q ne. other.others q ne ∙ one.others q ne;
  history = other.history ∙ one.history;
}

pub pays_on : {E : Type 0} (book between : Book E) (l : ℕ) → l < length book.lanes.items → between ≡ with_lane book l (paid_event (lane_at book l)) book.touched →
    1 ≤ (lane_at book l).owed_events → IsOnWith book between l 1
pays_on book between l lt is some =
    on_with book between l 1 (paid_event (lane_at book l)) (goes_lane book between l (paid_event (lane_at book l)) book.touched lt is) refl (less_one (lane_at book l).owed_events some)

-- ---- nothing that another lane has is needed

pub unblocked_own : {E : Type 0} (layout : Layout) (book : Book E) (keeper : LogKeeper) (l : ℕ) → makes_events (stage_of (lane_at book l)) ≡ true → appends_in (stage_of (lane_at book l)) ≡ false →
    IsUnblocked layout book keeper l
unblocked_own layout book keeper l makes own = record {
  latch = λ appends. let wrong : true ≡ false = sym appends ∙ own in absurd (cc);
  structures = λ set begins. absurd (no_begin (lane_at book l) set makes begins);
}

-- ---- the answers

within_budget : (counts after : Counts) → after ≡ one_made counts → after.events ≤ after.budget → counts.events < counts.budget
within_budget counts after made within =
    let at_most : counts.events + 1 ≤ counts.budget = subst (λ (c : Counts). c.events ≤ c.budget) made within in omega (arith, at_most)

pub moved_exactly : {E : Type 0} (layout : Layout) (book later : Book E) (keeper : LogKeeper) (counts after : Counts) (l : ℕ) (answer : Stepped) → answer ≡ Stepped.Moved →
    IsOnWith book later l 1 → IsUnblocked layout book keeper l → makes_events (stage_of (lane_at book l)) ≡ true → after ≡ one_made counts → after.events ≤ after.budget →
    GoesExactly layout book later keeper counts after l answer
moved_exactly layout book later keeper counts after l answer told on unblocked makes made within = subst (GoesExactly layout book later keeper counts after l) (sym told) (record {
  goes = record { unblocked = unblocked; has_event = makes; unspent = within_budget counts after made within; counted = made; call = on.call };
  spends = spent_one (events_owed (lane_at later l)) (lane_at later l).owed_events (lane_at book l).owed_events (events_owed (lane_at book l)) after.events counts.events
      (owed_at_most (lane_at later l)) on.owed (owed_is (lane_at book l) makes) (ap (λ (c : Counts). c.events) made);
  others = on.others;
  history = stays on.history;
})

-- an event is made and the call goes on, whatever becomes of the history
pub joined_exactly : {E : Type 0} (layout : Layout) (book between later : Book E) (keeper : LogKeeper) (counts after : Counts) (l : ℕ) (lane : Lane E) (answer : Stepped) → answer ≡ Stepped.Moved →
    IsOnWith book between l 1 → lane_at later l ≡ lane → ((q : ℕ) → q ≢ l → lane_at later q ≡ lane_at between q) → lane.doing ≡ (lane_at between l).doing →
    lane.owed_events ≡ (lane_at between l).owed_events → IsUnblocked layout book keeper l → makes_events (stage_of (lane_at book l)) ≡ true → after ≡ one_made counts →
    after.events ≤ after.budget → Grows book later l Stepped.Moved → GoesExactly layout book later keeper counts after l answer
joined_exactly layout book between later keeper counts after l lane answer told on here others call owed unblocked makes made within grows =
    let goes_on : (lane_at later l).doing ≡ (lane_at book l).doing = ap (λ (x : Lane _). x.doing) here ∙ call ∙ on.call in
    let owes : (lane_at later l).owed_events + 1 ≡ (lane_at book l).owed_events = ap (λ (x : Lane _). x.owed_events + 1) here ∙ ap (λ n. n + 1) owed ∙ on.owed in
    subst (GoesExactly layout book later keeper counts after l) (sym told) (record {
      goes = record { unblocked = unblocked; has_event = makes; unspent = within_budget counts after made within; counted = made; call = goes_on };
      spends = spent_one (events_owed (lane_at later l)) (lane_at later l).owed_events (lane_at book l).owed_events (events_owed (lane_at book l)) after.events counts.events
          (owed_at_most (lane_at later l)) owes (owed_is (lane_at book l) makes) (ap (λ (c : Counts). c.events) made);
      others = λ q ne. others q ne ∙ on.others q ne;
      history = grows;
    })

-- the last event is made, and behind it the lane is this one
pub answered_exactly : {E : Type 0} (layout : Layout) (book between later : Book E) (keeper : LogKeeper) (counts after : Counts) (l : ℕ) (lane : Lane E) (answer : Stepped) (reply : Reply) →
    answer ≡ Stepped.Answered reply → IsOnWith book between l 1 → GoesTo between later l lane → lane.doing ≡ Doing.Nothing → IsUnblocked layout book keeper l →
    makes_events (stage_of (lane_at book l)) ≡ true → after ≡ one_made counts → after.events ≤ after.budget →
    GoesExactly layout book later keeper counts after l answer
answered_exactly layout book between later keeper counts after l lane answer reply told on to over unblocked makes made within =
    let nothing : (lane_at later l).doing ≡ Doing.Nothing = ap (λ (x : Lane _). x.doing) to.lanes.here ∙ over in
    subst (GoesExactly layout book later keeper counts after l) (sym told) (record {
      goes = record {
        unblocked = unblocked;
        unspent = λ k. within_budget counts after made within;
        counted = λ k. made;
        uncounted = λ off. let wrong : true ≡ false = sym makes ∙ off in absurd (cc);
        over = nothing;
      };
      spends = spent_at_end (events_owed (lane_at later l)) (lane_at between l).owed_events (lane_at book l).owed_events (events_owed (lane_at book l)) after.events counts.events
          (none_owed (lane_at later l) (quiet_between (lane_at later l) nothing)) on.owed (owed_is (lane_at book l) makes) (ap (λ (c : Counts). c.events) made);
      others = λ q ne. to.lanes.others q ne ∙ on.others q ne;
      history = stays (ap (λ h. h.items) to.history ∙ on.history);
    })

-- the call has no event, and is answered at once
pub quiet_exactly : {E : Type 0} (layout : Layout) (book later : Book E) (keeper : LogKeeper) (counts : Counts) (l : ℕ) (answer : Stepped) (reply : Reply) →
    answer ≡ Stepped.Answered reply → (lane_at later l).doing ≡ Doing.Nothing → ((q : ℕ) → q ≢ l → lane_at later q ≡ lane_at book q) → IsUnblocked layout book keeper l →
    makes_events (stage_of (lane_at book l)) ≡ false → Grows book later l answer →
    GoesExactly layout book later keeper counts counts l answer
quiet_exactly layout book later keeper counts l answer reply told over others unblocked makes grows =
    let go : Grows book later l (Stepped.Answered reply) = subst (Grows book later l) told grows in
    subst (GoesExactly layout book later keeper counts counts l) (sym told) (record {
      goes = record {
        unblocked = unblocked;
        unspent = λ on. let wrong : true ≡ false = sym on ∙ makes in absurd (cc);
        counted = λ on. let wrong : true ≡ false = sym on ∙ makes in absurd (cc);
        uncounted = λ off. refl;
        over = over;
      };
      spends = none_spent (events_owed (lane_at later l)) (events_owed (lane_at book l)) counts.events counts.events
          (none_owed (lane_at later l) (quiet_between (lane_at later l) over)) refl;
      others = others;
      history = go;
    })

-- The device has stopped.
pub stopped_exactly : {E : Type 0} (layout : Layout) (book later : Book E) (keeper : LogKeeper) (counts after : Counts) (l : ℕ) (answer : Stepped) → answer ≡ Stepped.Stopped →
    IsOnWith book later l 0 → IsUnblocked layout book keeper l → makes_events (stage_of (lane_at book l)) ≡ true → counts.events ≡ counts.budget → after.events ≡ counts.events →
    GoesExactly layout book later keeper counts after l answer
stopped_exactly layout book later keeper counts after l answer told on unblocked makes spent same = subst (GoesExactly layout book later keeper counts after l) (sym told) (record {
  goes = record { unblocked = unblocked; has_event = makes; spent = spent };
  spends = spent_none (events_owed (lane_at later l)) (lane_at later l).owed_events (events_owed (lane_at book l)) after.events counts.events
      (owed_at_most (lane_at later l)) (on.owed ∙ sym (owed_is (lane_at book l) makes)) same;
  others = on.others;
  history = stays on.history;
})

-- a wait costs nothing
pub waits_spends : {E : Type 0} (lane later : Lane E) (counts after : Counts) → makes_events (stage_of lane) ≡ true → later.owed_events + 0 ≡ lane.owed_events → after.events ≡ counts.events →
    events_owed later + after.events ≤ events_owed lane + counts.events
waits_spends lane later counts after makes owed same =
    spent_none (events_owed later) later.owed_events (events_owed lane) after.events counts.events (owed_at_most later) (owed ∙ sym (owed_is lane makes)) same

-- ---- and those of a lane without a call, and of a world that has stopped

-- the stage says what is owed
owed_as : {E : Type 0} (lane later : Lane E) → stage_of later ≡ stage_of lane → later.owed_events ≡ lane.owed_events → events_owed later ≡ events_owed lane
owed_as lane later stage owed = ap (λ s. if makes_events s then later.owed_events else 0) stage ∙ ap (λ n. if makes_events (stage_of lane) then n else 0) owed

pub noted_spends : {E : Type 0} (book later : Book E) (l : ℕ) (lane : Lane E) (counts after : Counts) → GoesTo book later l lane → stage_of lane ≡ stage_of (lane_at book l) →
    lane.owed_events ≡ (lane_at book l).owed_events → after.events ≡ counts.events →
    events_owed (lane_at later l) + after.events ≤ events_owed (lane_at book l) + counts.events
noted_spends book later l lane counts after to stage owed same =
    let is : events_owed (lane_at later l) ≡ events_owed (lane_at book l) = ap events_owed to.lanes.here ∙ owed_as (lane_at book l) lane stage owed in
    omega (arith, is, same)

pub idle_exactly : {E : Type 0} (layout : Layout) (book later : Book E) (keeper : LogKeeper) (counts : Counts) (l : ℕ) (lane : Lane E) (answer : Stepped) → answer ≡ Stepped.Idle →
    (lane_at book l).doing ≡ Doing.Nothing → GoesTo book later l lane → stage_of lane ≡ stage_of (lane_at book l) → lane.owed_events ≡ (lane_at book l).owed_events →
    book.stopped ≡ false → StepsExactly layout book later keeper counts counts l answer
idle_exactly layout book later keeper counts l lane answer told nothing to stage owed running = record {
  stopped = λ on. let wrong : true ≡ false = sym on ∙ running in absurd (cc);
  idle = λ on none. told;
  goes = λ on some. absurd (some nothing);
  spends = noted_spends book later l lane counts counts to stage owed refl;
  others = to.lanes.others;
  history = stays (ap (λ h. h.items) to.history);
}

pub stop_exactly : {E : Type 0} (layout : Layout) (book later : Book E) (keeper : LogKeeper) (counts : Counts) (l : ℕ) (lane : Lane E) (answer : Stepped) → answer ≡ Stepped.Stopped →
    book.stopped ≡ true → GoesTo book later l lane → stage_of lane ≡ stage_of (lane_at book l) → lane.owed_events ≡ (lane_at book l).owed_events →
    StepsExactly layout book later keeper counts counts l answer
stop_exactly layout book later keeper counts l lane answer told on to stage owed = record {
  stopped = λ k. told;
  idle = λ off none. let wrong : true ≡ false = sym on ∙ off in absurd (cc);
  goes = λ off some. let wrong : true ≡ false = sym on ∙ off in absurd (cc);
  spends = noted_spends book later l lane counts counts to stage owed refl;
  others = to.lanes.others;
  history = stays (ap (λ h. h.items) to.history);
}

-- a call
abbrev IsCall : Doing → Type 0
IsCall Doing.Nothing = ⊥
IsCall _ = Unit {0}

-- and it goes on
pub goes_on_exactly : {E : Type 0} (layout : Layout) (book later : Book E) (keeper : LogKeeper) (counts after : Counts) (l : ℕ) (answer : Stepped) (doing : Doing) → book.stopped ≡ false →
    (lane_at book l).doing ≡ doing → IsCall doing → GoesExactly layout book later keeper counts after l answer → StepsExactly layout book later keeper counts after l answer
goes_on_exactly layout book later keeper counts after l answer doing running calls some exact = record {
  stopped = λ on. let wrong : true ≡ false = sym on ∙ running in absurd (cc);
  idle = λ off none. absurd (subst IsCall (sym calls ∙ none) some);
  goes = λ off call. exact.goes;
  spends = exact.spends;
  others = exact.others;
  history = exact.history;
}
