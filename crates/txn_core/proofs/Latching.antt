-- The state where an append is begun, or was before.
use Rattle.std.proofs.Common.{◌≡◌, ℕ, ◌%◌, ◌<◌, ◌==◌, Bool, true, false, if◌then◌else◌, List, length, Option, Some, None, slice_get, refl, sym, ap, ◌∙◌, subst, arith}
use Rattle.std.proofs.lemmas.Bool.Decides.{nat_tests}
use Rattle.std.proofs.Math.Logic.{∥∥₁_map, ∥∥₁_elim}
use Rattle.std.proofs.Math.Bridge.{le_prop}
use Rattle.std.proofs.Math.Nat.{ℕ_set}
use Rattle.persist_model.specs.declared.event.Event.{Event}
use Rattle.persist_model.specs.declared.event.Event.TheVariants.{Store, PStore, WriteBack, Fence}
use Rattle.persist_model.specs.Region.{Region}
use Rattle.lane_traits.specs.Device.{Counts, IsWithin}
use Rattle.region_layout.specs.declared.cell.Cell.{Cell}
use Rattle.region_layout.specs.declared.layout.Layout.{Layout}
use Rattle.region_layout.specs.Layout.{layout_shape}
use Rattle.lane_types.specs.Deeds.{Deeds}
use Rattle.lane_types.specs.Faces.{Base}
use Rattle.lane_book.specs.declared.book.Book.{Book}
use Rattle.lane_book.specs.declared.lane.Lane.{Lane}
use Rattle.lane_book.specs.FacesOf.{lane_at}
use Rattle.lane_book.specs.Lanes.{owing, paid_record}
use Rattle.lane_book.specs.Books.{IsLane}
use Rattle.lane_book.proofs.Keeps.{keeps_lane}
use Rattle.lawful_book.proofs.GoingOn.{owing_on}
use Rattle.log_keeper.specs.declared.keeper.LogKeeper.{LogKeeper}
use Rattle.log_keeper.specs.Fitting.{FitsLayout}
use Rattle.log_keeper.specs.Parts.{LogPart, rests, appends, closes, takes_back, drops}
use Rattle.log_keeper.specs.Keeper.{keeping_of}
use Rattle.log_keeper.specs.Logged.{Keeping as Kept, plan_in, with_holder}
use Rattle.txn_state.specs.Stages.{Stage, Free, Between, Leaving, Naming, Storing, Securing, Opening, Undoing, TakingBack, Keeping, Ending, Closing, ClosingEnd, Dropping, Unbuilt, stage_of, Deleting}
use Rattle.txn_state.specs.AppendLaws.{IsNextCell}
use Rattle.txn_state.specs.ReadLaws.{makes_events, appends_in, clears_in, HasNextEvent, IsNextPlaceSeen}
use Rattle.txn_state.proofs.AppendBegins.{appends_begin}
use Rattle.txn_state.proofs.FitsRegion.{runs_fit, holders_go_on}
use Rattle.txn_state.proofs.Owed.{holders_are_busy}
use Rattle.txn_state.proofs.ReservedRoom.{views_are_read}
use Rattle.txn_core.specs.Beginning.{Begins, holds, begins}
use Rattle.txn_core.specs.Advancing.{CanRun, RunsBehind}
use Rattle.txn_core.specs.States.{IsWorld, HasWorld, start_of}
use Rattle.txn_core.proofs.Latches.{part_of_lane}
use Rattle.txn_core.proofs.WorldFacts.{IsRead, few_lanes, owes_event}
use Rattle.txn_core.proofs.Paid.{lawful_with}
use Rattle.txn_core.proofs.Paying.{goes_lane}

-- ---- stages

pub append_makes : (s : Stage) → appends_in s ≡ true → makes_events s ≡ true
append_makes Naming e = refl
append_makes Opening e = refl
append_makes Undoing e = refl
append_makes Ending e = refl
append_makes Free e = cc
append_makes Between e = cc
append_makes Leaving e = cc
append_makes Storing e = cc
append_makes Securing e = cc
append_makes TakingBack e = cc
append_makes Keeping e = cc
append_makes Closing e = cc
append_makes ClosingEnd e = cc
append_makes Dropping e = cc
append_makes Deleting e = refl
append_makes Unbuilt e = cc

pub clear_makes : (s : Stage) → clears_in s ≡ true → makes_events s ≡ true
clear_makes Closing e = refl
clear_makes ClosingEnd e = refl
clear_makes Dropping e = refl
clear_makes Naming e = cc
clear_makes Opening e = cc
clear_makes Undoing e = cc
clear_makes Ending e = cc
clear_makes Free e = cc
clear_makes Between e = cc
clear_makes Leaving e = cc
clear_makes Storing e = cc
clear_makes Securing e = cc
clear_makes TakingBack e = cc
clear_makes Keeping e = cc
clear_makes Deleting e = cc
clear_makes Unbuilt e = cc

-- ---- a lane that owes other numbers

owing_lane : {E : Type 0} (n events records : ℕ) (lane : Lane E) → IsLane n lane → IsLane n (owing events records lane)
owing_lane n events records lane is = record { behind = is.behind; points = is.points; rising = is.rising; about = is.about; cells = is.cells; out = is.out; calling = is.calling }

-- ---- behind the begin

takes_it : (p l : ℕ) (holder : ℕ → ℕ) → with_holder p (with_holder p l holder p) (with_holder p l holder) p ≡ l
takes_it p l holder = by (p == p) (grind (arith, nat_tests)) where
  by : (same : Bool) → same ≡ true → (if same then (if same then l else holder p) else (if same then l else holder p)) ≡ l
  by true is = refl
  by false is = cc

-- What `begin` leaves, whatever the record.
module _ {E : Type 0} (layout : Layout) (book between : Book E) (keeper mid : LogKeeper) (words : List ℕ) (l : ℕ) (cell : Cell) (lt : l < length book.lanes.items) where
  -- the lane is as it was, but for what it owes
  pub begun_lane : Begins layout keeper mid book between words l cell None → (events : ℕ) × (records : ℕ) × (lane_at between l ≡ owing events records (lane_at book l))
  begun_lane (holds held same_keeper same) = ((lane_at book l).owed_events, (lane_at book l).owed_records, ap (λ (b : Book E). lane_at b l) same)
  begun_lane (begins place free seen drawn is) =
      ((paid_record (lane_at book l)).owed_events, (paid_record (lane_at book l)).owed_records, (goes_lane book between l (paid_record (lane_at book l)) book.touched lt is).lanes.here)

  pub begun_count : Begins layout keeper mid book between words l cell None → length between.lanes.items ≡ length book.lanes.items
  begun_count (holds held same_keeper same) = ap (λ (b : Book E). length b.lanes.items) same
  begun_count (begins place free seen drawn is) = (goes_lane book between l (paid_record (lane_at book l)) book.touched lt is).lanes.count

  pub begun_stage : Begins layout keeper mid book between words l cell None → stage_of (lane_at between l) ≡ stage_of (lane_at book l)
  begun_stage b = ap (λ (x : Lane E). stage_of x) (begun_lane b).2

  pub begun_slots : Begins layout keeper mid book between words l cell None → length mid.slots.items ≡ length keeper.slots.items
  begun_slots (holds held same_keeper same) = ap (λ (k : LogKeeper). length k.slots.items) same_keeper
  begun_slots (begins place free seen drawn is) = drawn.slots.count

module _ {E : Type 0} (deeds : Deeds E) (layout : Layout) (book between : Book E) (keeper mid : LogKeeper) (words : List ℕ) (region : Region) (spare : ℕ) (counts : Counts) (l : ℕ) (cell : Cell)
    (read : IsRead words region counts) (lt : l < length book.lanes.items)
    (next : (keeping_of keeper).holder (l % layout.partitions) ≡ 17 → IsNextCell region (lane_at book l) cell) where
  pub begun_world : (base : Base) → Begins layout keeper mid book between words l cell None → IsWorld deeds layout base book keeper region spare counts.events →
      IsWorld deeds layout base between mid region spare counts.events
  begun_world base (holds held same_keeper same) world =
      subst (λ (k : LogKeeper). IsWorld deeds layout base between k region spare counts.events) (sym same_keeper)
      (subst (λ (b : Book E). IsWorld deeds layout base b keeper region spare counts.events) (sym same) world)
  begun_world base (begins place free seen drawn is) world = record {
    state = appends_begin E layout (start_of layout base) book between keeper mid region spare counts.events l place cell free
        (views_are_read.place layout (start_of layout base) book keeper region spare counts.events (l % layout.partitions) place (part_of_lane layout l) read.full world.state
        (subst (λ (ws : List ℕ). IsNextPlaceSeen layout (l % layout.partitions) ws place) read.reads seen))
        (next free) (λ a inside. read.full a) read.few (goes_lane book between l (paid_record (lane_at book l)) book.touched lt is)
        (keeps_lane book between l (paid_record (lane_at book l)) book.touched lt is
        world.state.is_book.kept
        (owing_lane (length book.history.items) (paid_record (lane_at book l)).owed_events (paid_record (lane_at book l)).owed_records (lane_at book l))) drawn world.state;
    lawful = lawful_with deeds layout base book between l (paid_record (lane_at book l)) book.touched lt is
        (owing_on (paid_record (lane_at book l)).owed_events (paid_record (lane_at book l)).owed_records (lane_at book l)) world.lawful;
  }

  -- the latch is the lane's
  pub begun_holder : Begins layout keeper mid book between words l cell None → (keeping_of mid).holder (l % layout.partitions) ≡ l
  begun_holder (holds held same_keeper same) = ap (λ (k : LogKeeper). (keeping_of k).holder (l % layout.partitions)) same_keeper ∙ held
  begun_holder (begins place free seen drawn is) = ap (λ (k : Kept). k.holder (l % layout.partitions)) drawn.kept ∙ takes_it (l % layout.partitions) l (keeping_of keeper).holder

-- ---- the next event

within_prop : (size : ℕ) (e : Event) → IsProp (IsWithin size e)
within_prop size (Store a v) = hlevel le_prop
within_prop size (PStore a v) = hlevel le_prop
within_prop size (WriteBack a) = hlevel le_prop
within_prop size Fence = hlevel

fits_prop : (layout : Layout) (part : LogPart) → IsProp (FitsLayout layout part)
fits_prop layout rests = hlevel
fits_prop layout (appends place r) = hlevel le_prop
fits_prop layout (closes gates ends checkpoints) = hlevel
fits_prop layout (takes_back gates) = hlevel
fits_prop layout (drops r) = hlevel le_prop

some_same : (e f : Event) → Some e ≡ Some f → e ≡ f
some_same e f is = ap (λ (o : Option Event). by o) is where
  by : Option Event → Event
  by None = e
  by (Some g) = g

next_by : (layout : Layout) (keeper : LogKeeper) (region : Region) (p : ℕ) (o : Option Event) →
    slice_get (plan_in (layout_shape layout) (keeping_of keeper) p) ((keeping_of keeper).runs p).made ≡ o → ∥ HasNextEvent layout keeper region p ∥₁ → HasNextEvent layout keeper region p
next_by layout keeper region p None is some = absurd (∥∥₁_elim some (λ a. absurd a) (λ h. none (sym is ∙ h.next))) where
  none : {e : Event} → None ≡ Some e → ⊥
  none e = cc
next_by layout keeper region p (Some e) is some = record {
  event = e;
  next = is;
  inside = ∥∥₁_elim some (within_prop region.size e) (λ h. subst (IsWithin region.size) (some_same h.event e (sym h.next ∙ is)) h.inside);
  few = ∥∥₁_elim some le_prop (λ h. h.few);
}

-- ---- what a holder may do

pub can_run_held : {E : Type 0} (deeds : Deeds E) (layout : Layout) (book : Book E) (keeper : LogKeeper) (region : Region) (spare : ℕ) (counts : Counts) (l : ℕ) →
    l < length book.lanes.items → makes_events (stage_of (lane_at book l)) ≡ true → (keeping_of keeper).holder (l % layout.partitions) ≡ l →
    HasWorld deeds layout book keeper region spare counts → CanRun layout keeper region spare book l
can_run_held deeds layout book keeper region spare counts l lt makes held world =
    let p = l % layout.partitions in
    let inside = part_of_lane layout l in
    let few = few_lanes deeds layout book keeper region spare counts world in
    let owes = owes_event deeds layout book keeper region spare counts l lt makes world in record {
      holder = held;
      fits = ∥∥₁_elim world (fits_prop layout ((keeping_of keeper).runs p).part) (λ y. runs_fit layout (start_of layout y.0) book keeper region spare counts.events p inside y.1.state);
      next = next_by layout keeper region p _ refl
          (∥∥₁_map world (λ y. holders_go_on layout (start_of layout y.0) book keeper region spare counts.events p inside (λ e. omega (arith, e, held, lt, few)) y.1.state));
      owed = owes.0;
      place = owes.1;
    }

-- The cell has to be the next one only where the append begins.
pub runs_behind_if_free : {E : Type 0} (deeds : Deeds E) (layout : Layout) (book : Book E) (keeper : LogKeeper) (words : List ℕ) (region : Region) (spare : ℕ) (counts : Counts) (l : ℕ) (cell : Cell) →
    IsRead words region counts → l < length book.lanes.items → appends_in (stage_of (lane_at book l)) ≡ true →
    ((keeping_of keeper).holder (l % layout.partitions) ≡ 17 → IsNextCell region (lane_at book l) cell) →
    HasWorld deeds layout book keeper region spare counts → RunsBehind layout keeper words region spare book l cell
runs_behind_if_free deeds layout book keeper words region spare counts l cell read lt is_append next world mid between b =
    can_run_held deeds layout between mid region spare counts l (subst (λ n. l < n) (sym (begun_count layout book between keeper mid words l cell lt b)) lt)
    (ap makes_events (begun_stage layout book between keeper mid words l cell lt b) ∙ append_makes (stage_of (lane_at book l)) is_append)
    (begun_holder deeds layout book between keeper mid words region spare counts l cell read lt next b)
    (∥∥₁_map world (λ y. (y.0, begun_world deeds layout book between keeper mid words region spare counts l cell read lt next y.0 b y.1)))

pub runs_behind : {E : Type 0} (deeds : Deeds E) (layout : Layout) (book : Book E) (keeper : LogKeeper) (words : List ℕ) (region : Region) (spare : ℕ) (counts : Counts) (l : ℕ) (cell : Cell) →
    IsRead words region counts → l < length book.lanes.items → appends_in (stage_of (lane_at book l)) ≡ true → IsNextCell region (lane_at book l) cell →
    HasWorld deeds layout book keeper region spare counts → RunsBehind layout keeper words region spare book l cell
runs_behind deeds layout book keeper words region spare counts l cell read lt is_append next =
    runs_behind_if_free deeds layout book keeper words region spare counts l cell read lt is_append (λ free. next)

pub can_run : {E : Type 0} (deeds : Deeds E) (layout : Layout) (book : Book E) (keeper : LogKeeper) (region : Region) (spare : ℕ) (counts : Counts) (l : ℕ) →
    l < length book.lanes.items → clears_in (stage_of (lane_at book l)) ≡ true → HasWorld deeds layout book keeper region spare counts →
    CanRun layout keeper region spare book l
can_run deeds layout book keeper region spare counts l lt clears world =
    can_run_held deeds layout book keeper region spare counts l lt (clear_makes (stage_of (lane_at book l)) clears)
    (∥∥₁_elim world (ℕ_set _ _) (λ y. holders_are_busy.clears layout (start_of layout y.0) book keeper region spare counts.events l lt clears y.1.state)) world
