-- The parts under way are of the region, and have a next event there.
use Rattle.std.proofs.Common.{◌≡◌, ◌≢◌, ◌⊎◌, ℕ, zero, suc, ◌+◌, ◌%◌, ◌<◌, ◌≤◌, ◌^◌, List, [], ◌∷◌, length, Some, slice_get, inl, inr, refl, sym, ap, ◌∙◌, subst, arith}
use Rattle.std.proofs.lemmas.Option.{slice_get_cases}
use Rattle.persist_model.specs.declared.event.Event.{Event}
use Rattle.persist_model.specs.declared.event.Event.TheVariants.{Store, PStore, WriteBack, Fence}
use Rattle.persist_model.specs.Region.{Words, Region}
use Rattle.persist_model.specs.Records.{Log}
use Rattle.persist_model.specs.Shape.{Shape, IsCellCount}
use Rattle.lane_traits.specs.Device.{IsWithin}
use Rattle.region_layout.specs.declared.layout.Layout.{Layout}
use Rattle.region_layout.specs.Layout.{layout_shape}
use Rattle.lane_book.specs.declared.book.Book.{Book}
use Rattle.lane_book.specs.FacesOf.{lane_at}
use Rattle.log_keeper.specs.declared.keeper.LogKeeper.{LogKeeper}
use Rattle.log_keeper.specs.declared.slots.Part.{Part}
use Rattle.log_keeper.specs.declared.slots.Part.TheVariants.{Rest, Append, Close, TakeBack, Drop}
use Rattle.log_keeper.specs.declared.slots.Slot.{Slot}
use Rattle.log_keeper.specs.Fitting.{FitsLayout}
use Rattle.log_keeper.specs.Keeper.{keeping_of, at_slot}
use Rattle.log_keeper.specs.Logged.{Keeping, plan_in, resting}
use Rattle.log_keeper.specs.Parts.{LogPart, rests, appends as adds, closes as shuts, takes_back as drops_deletions, drops as takes_out, Running, plan_of}
use Rattle.log_keeper.specs.Plans.{group_events, IsInside}
use Rattle.log_keeper.specs.Slots.{part_with, run_of_slot}
use Rattle.log_keeper.proofs.PlanSizes.{plans_are_short, parts_fit_layouts, events_are_inside}
use Rattle.history_laws.specs.UnderWay.{record_of_adding, UnderWay, nothing, appends, closes, takes_back, drops, run_of}
use Rattle.txn_laws.specs.Txns.{Txn, txn_at}
use Rattle.txn_state.specs.Stages.{Stage, Free, Between, Leaving, Naming, Storing, Securing, Opening, Undoing, TakingBack, Keeping as Keeps, Ending, Closing, ClosingEnd, Dropping, Unbuilt, stage_of, Deleting}
use Rattle.txn_state.specs.Ties.{under_of, IsAppending, waits, appends_it, IsCome}
use Rattle.txn_state.specs.States.{IsStateOf}
use Rattle.txn_state.specs.ReadLaws.{RunsFit, HasNextEvent, HoldersGoOn}
use Rattle.txn_state.proofs.Holding.{holder_is, run_is, lane_is, under_held}

pub runs_fit : {E : Type 0} → RunsFit E
runs_fit layout start book keeper region spare events p lt st =
    subst (λ (k : Keeping). FitsLayout layout (k.runs p).part) st.tied.keeping
    (parts_fit_layouts layout p st.base st.s (st.chains p) (st.w.keeping.runs p).part lt (st.world.log.logged.can p lt))

-- ---- how many events there are

-- the gates of a closing, and of what is taken back
abbrev gates_of : LogPart → List ℕ
gates_of rests = []
gates_of (adds place r) = []
gates_of (shuts gates ends checkpoints) = gates
gates_of (drops_deletions gates) = gates
gates_of (takes_out r) = []

abbrev ends_of : LogPart → List ℕ
ends_of rests = []
ends_of (adds place r) = []
ends_of (shuts gates ends checkpoints) = ends
ends_of (drops_deletions gates) = []
ends_of (takes_out r) = []

-- lists that stand in memory
record AreHeld (part : LogPart) : Type 0 where
  gates : length (gates_of part) < 2 ^ 63
  ends : length (ends_of part) < 2 ^ 63

held_in_slot : (x : Slot) (part : Part) → AreHeld (part_with x.gates.items x.ends.items x.checkpoints.items part)
held_in_slot x Rest = record { gates = omega arith; ends = omega arith }
held_in_slot x (Append place cell) = record { gates = omega arith; ends = omega arith }
held_in_slot x Close = record {
  gates = (let long = x.gates.ok in let small = x.gates.small in omega (arith, long, small));
  ends = (let long = x.ends.ok in let small = x.ends.small in omega (arith, long, small));
}
held_in_slot x TakeBack = record { gates = (let long = x.gates.ok in let small = x.gates.small in omega (arith, long, small)); ends = omega arith }
held_in_slot x (Drop r) = record { gates = omega arith; ends = omega arith }

held_in : (slots : List Slot) (p : ℕ) → AreHeld (at_slot run_of_slot resting slots p).part
held_in [] p = record { gates = omega arith; ends = omega arith }
held_in (x ∷ slots) zero = held_in_slot x x.part
held_in (x ∷ slots) (suc p) = held_in slots p

-- one group at a time is closed
abbrev IsOneGroup : UnderWay → Type 0
IsOneGroup nothing = Unit {0}
IsOneGroup (appends adding made) = Unit {0}
IsOneGroup (closes gates ends made) = (gates ≡ []) ⊎ (ends ≡ [])
IsOneGroup (takes_back gates made) = Unit {0}
IsOneGroup (drops r made) = Unit {0}

none_one : (u : UnderWay) → u ≡ nothing → IsOneGroup u
none_one u is = subst IsOneGroup (sym is) tt

append_one : {kind : _} (u : UnderWay) → IsAppending kind u → IsOneGroup u
append_one u (waits is) = none_one u is
append_one u (appends_it adding made is added) = subst IsOneGroup (sym is) tt

come_one : (log : Log) (u : UnderWay) (x : Txn) (stage : Stage) → IsCome log u x stage → IsOneGroup u
come_one log u x Free come = none_one u come.1
come_one log u x Between come = none_one u come.rests
come_one log u x Leaving come = none_one u come.between.rests
come_one log u x Naming come = append_one u come.under_way
come_one log u x Storing come = none_one u come.rests
come_one log u x Securing come = none_one u come.rests
come_one log u x Opening come = append_one u come.under_way
come_one log u x Undoing come = append_one u come.under_way
come_one log u x TakingBack come = none_one u come.rests
come_one log u x Keeps come = none_one u come.rests
come_one log u x Ending come = append_one u come.under_way
come_one log u x Closing come = subst IsOneGroup (sym come.under_way) (inr refl)
come_one log u x ClosingEnd come = subst IsOneGroup (sym come.under_way) (inl refl)
come_one log u x Dropping come = subst IsOneGroup (sym come.under_way) tt
come_one log u x Deleting come = append_one u come.under_way
come_one log u x Unbuilt come = absurd come

group_most : (gates : List ℕ) → group_events gates ≤ length gates + 1
group_most [] = omega arith
group_most (a ∷ gates) = omega arith

few_cells : (n : ℕ) → IsCellCount n → n ≤ 16
few_cells n is = elim is [ inl one ↦ omega (arith, one) | inr many ↦ omega (arith, many) ]

short_plan : (shape : Shape) (p : ℕ) (u : UnderWay) → IsCellCount shape.cells → IsOneGroup u → AreHeld (run_of u).part → length (plan_of shape p (run_of u).part) ≤ 2 ^ 63
short_plan shape p nothing cells one held = omega arith
short_plan shape p (appends adding made) cells one held =
    let most = (plans_are_short.appends shape p adding.place (record_of_adding adding)).1 in
    let few = few_cells shape.cells cells in
    omega (arith, most, few)
short_plan shape p (closes gates ends made) cells one held =
    let is = plans_are_short.counted shape p (shuts gates ends []) in
    let first = group_most gates in
    let second = group_most ends in
    let few = held.gates in
    let last = held.ends in
    elim one [
      | inl none ↦ (let n : group_events gates ≡ 0 = ap group_events none in omega (arith, is, n, second, last))
      | inr none ↦ (let n : group_events ends ≡ 0 = ap group_events none in omega (arith, is, n, first, few))
    ]
short_plan shape p (takes_back gates made) cells one held =
    let is = plans_are_short.counted shape p (drops_deletions gates) in
    let most = group_most gates in
    let few = held.gates in
    omega (arith, is, most, few)
short_plan shape p (drops r made) cells one held = let is = plans_are_short.removals shape p r in omega (arith, is)

-- ---- the next one

within_is : (size : ℕ) (e : Event) → IsInside size e → IsWithin size e
within_is size (Store a v) inside = inside
within_is size (PStore a v) inside = inside
within_is size (WriteBack a) inside = inside
within_is size Fence inside = tt

module _ {E : Type 0} (layout : Layout) (start : Words) (book : Book E) (keeper : LogKeeper) (region : Region) (spare events p : ℕ) (lt : p < layout.partitions)
    (some : (keeping_of keeper).holder p ≢ 17) (st : IsStateOf layout start book keeper region spare events) where
  held : st.w.keeping.holder p ≢ 17
  held is = some (sym (holder_is layout start book keeper region spare events st p) ∙ is)

  -- the lane that holds the latch
  abbrev l : ℕ
  l = st.w.keeping.holder p

  here : st.w.keeping.holder p % layout.partitions ≡ p
  here = st.tied.held.here p lt held

  lane : st.w.keeping.holder p < length book.lanes.items
  lane = subst (λ n. st.w.keeping.holder p < n) st.tied.lanes (st.tied.held.lane p lt held)

  under : under_of (layout_shape layout) st.w (st.w.keeping.holder p) ≡ st.w.under p
  under = under_held (layout_shape layout) st.w l (ap st.w.keeping.holder here) ∙ ap st.w.under here

  one : IsOneGroup (st.w.under p)
  one = subst IsOneGroup under (come_one st.s.log (under_of (layout_shape layout) st.w l) (txn_at st.w.lanes l) (stage_of (lane_at book l))
      (lane_is layout start book keeper region spare events st l lane).come)

  run : (keeping_of keeper).runs p ≡ run_of (st.w.under p)
  run = run_is layout start book keeper region spare events st p lt

  short : length (plan_in (layout_shape layout) (keeping_of keeper) p) ≤ 2 ^ 63
  short = subst (λ (r : Running). length (plan_of (layout_shape layout) p r.part) ≤ 2 ^ 63) (sym run)
      (short_plan (layout_shape layout) p (st.w.under p) st.world.log.logged.allowed.cells one
      (subst (λ (r : Running). AreHeld r.part) run (held_in keeper.slots.items p)))

  more : ((keeping_of keeper).runs p).made < length (plan_in (layout_shape layout) (keeping_of keeper) p)
  more = subst (λ (k : Keeping). (k.runs p).made < length (plan_in (layout_shape layout) k p)) st.tied.keeping (st.tied.held.unfinished p lt held)

  inside : (e : Event) → slice_get (plan_in (layout_shape layout) (keeping_of keeper) p) ((keeping_of keeper).runs p).made ≡ Some e → IsWithin region.size e
  inside e next = within_is region.size e (events_are_inside (layout_shape layout) st.base st.s st.chains st.w.keeping region p ((keeping_of keeper).runs p).made e lt st.world.log.logged
      (subst (λ (k : Keeping). slice_get (plan_in (layout_shape layout) k p) ((keeping_of keeper).runs p).made ≡ Some e) (sym st.tied.keeping) next))

  goes_on : HasNextEvent layout keeper region p
  goes_on = elim (slice_get_cases (plan_in (layout_shape layout) (keeping_of keeper) p) ((keeping_of keeper).runs p).made).1 [
    | inl k ↦ record { event = k.0; next = k.2; inside = inside k.0 k.2; few = (let before = more in let most = short in omega (arith, before, most)) }
    | inr k ↦ (let before = more in let past = k.0 in absurd (omega (arith, before, past)))
  ]

pub holders_go_on : {E : Type 0} → HoldersGoOn E
holders_go_on layout start book keeper region spare events p lt some st = goes_on layout start book keeper region spare events p lt some st
