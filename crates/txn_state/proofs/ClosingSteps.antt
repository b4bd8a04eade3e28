-- The last event of a group of a closing, or of a removal: the lane begins the next part, or lets its latch go.
use Rattle.std.proofs.Common.{◌≡◌, ◌≢◌, inl, inr, ℕ, ◌+◌, ◌%◌, ◌<◌, ◌≤◌, ◌==◌, Bool, true, false, if◌then◌else◌, length, refl, sym, ap, ◌∙◌, subst, arith}
use Rattle.std.proofs.lemmas.Bool.Decides.{eqb_tells}
use Rattle.persist_model.specs.declared.event.Event.{Event}
use Rattle.persist_model.specs.Region.{Words, Region}
use Rattle.persist_model.specs.Records.{IsAmong, HasNo, IsOf}
use Rattle.persist_model.specs.Shape.{Shape}
use Rattle.region_layout.specs.declared.layout.Layout.{Layout}
use Rattle.region_layout.specs.Layout.{layout_shape}
use Rattle.lane_book.specs.declared.lane.Lane.{Lane}
use Rattle.lane_book.specs.declared.book.Book.{Book}
use Rattle.lane_book.specs.FacesOf.{lane_at}
use Rattle.lane_book.specs.Books.{IsBook}
use Rattle.lane_book.specs.Lanes.{left as left_lane}
use Rattle.log_keeper.specs.declared.keeper.LogKeeper.{LogKeeper}
use Rattle.log_keeper.specs.Parts.{rests, Running}
use Rattle.log_keeper.specs.Keeper.{keeping_of}
use Rattle.log_keeper.specs.Ledger.{newest_log}
use Rattle.log_keeper.specs.Listing.{gates_in}
use Rattle.log_keeper.specs.Logged.{Keeping, latched, plan_in}
use Rattle.log_keeper.specs.Making.{made_part}
use Rattle.log_keeper.specs.Events.{IsNextEvent, region_made}
use Rattle.history_laws.specs.UnderWay.{nothing}
use Rattle.txn_laws.specs.Txns.{Txn, idle, txn_at}
use Rattle.txn_laws.specs.PartsOf.{IsResting}
use Rattle.txn_laws.specs.Rooms.{sum_below, taken_in}
use Rattle.txn_laws.specs.Worlds.{World, with_lane, IsWorldAt}
use Rattle.txn_laws.specs.Dropped.{dropped}
use Rattle.txn_laws.proofs.Asking.{latches_keep}
use Rattle.txn_laws.proofs.Beginning.{leaves_keep}
use Rattle.txn_laws.proofs.Lanes.{with_here, with_other}
use Rattle.txn_laws.proofs.Rooms.{parts_are_roomy}
use Rattle.txn_state.specs.Stages.{Free, stage_of}
use Rattle.txn_state.specs.Ties.{IsOverNow, under_of, IsLaneOf, AreHeld}
use Rattle.txn_state.specs.Owing.{OwesEnough}
use Rattle.txn_state.specs.Numbers.{unpaid}
use Rattle.txn_state.specs.States.{IsStateOf, reserved_for}
use Rattle.txn_state.specs.Changes.{GoesTo, IsKept, paid_event}
use Rattle.txn_state.specs.AppendLaws.{IsMade, AreLeft, made_in}
use Rattle.txn_state.specs.ClosingLaws.{end_reply}
use Rattle.txn_state.specs.Beside.{IsBeside}
use Rattle.txn_state.proofs.Sums.{sums_same}
use Rattle.txn_state.proofs.Lanes.{reserved_less}
use Rattle.txn_state.proofs.FreeLanes.{free_lane}
use Rattle.txn_state.proofs.Making.{test_same, test_other, under_free, IsChangedIn, beside_changed, held_changed, held_by_none, made_holder, made_elsewhere, made_ends, part_inside, holder_is, lane_inside, others_off, is_next, region_is, left_there}
use Rattle.txn_state.proofs.Steps.{count_with}
use Rattle.txn_state.proofs.LaneSteps.{PaysEvent, steps_on}
use Rattle.txn_state.proofs.HeapSteps.{owes_to}
use Rattle.txn_state.proofs.PartsOver.{IsPartOver, takes_none}

-- ---- the state behind

-- what the lane makes of the world behind the event
pub record IsPartStep {E : Type 0} (layout : Layout) (start : Words) (book later : Book E) (keeper kept : LogKeeper) (region : Region) (spare events l : ℕ) (e : Event)
    (state : IsStateOf layout start book keeper region spare events)
    (over : IsPartOver (layout_shape layout) start state.s state.chains state.w (l % layout.partitions) (txn_at state.w.lanes l).number (region_made state.w.keeping (l % layout.partitions) e region))
    (v : World) (lane : Lane E) : Type 0 where
  pub changed : IsChangedIn (layout_shape layout) l state.w v
  pub world : IsWorldAt (layout_shape layout) over.base over.state over.chains_behind start v (region_made state.w.keeping (l % layout.partitions) e region)
  pub ledger : v.keeping.ledger ≡ (made_part (layout_shape layout) (l % layout.partitions) state.w.keeping).ledger
  pub keeping : v.keeping ≡ keeping_of kept
  pub next : v.next ≡ state.w.next
  pub history : v.history ≡ state.w.history
  pub held : AreHeld (layout_shape layout) v
  pub mine : IsLaneOf layout book.blocks over.state.log (newest_log v.keeping.ledger) (under_of (layout_shape layout) v l) (l % layout.partitions) lane (txn_at v.lanes l)
  pub number : (txn_at v.lanes l).number < book.next_transaction
  pub owes : OwesEnough (layout_shape layout) over.chains_behind later kept v l
  pub unpaid_same : sum_below (λ q. unpaid (v.under q)) layout.partitions ≡ sum_below (λ q. unpaid (state.w.under q)) layout.partitions
  pub pays : PaysEvent (lane_at book l) lane

module _ {E : Type 0} (layout : Layout) (start : Words) (book later : Book E) (keeper kept : LogKeeper) (region behind : Region) (spare left events made l : ℕ) (e : Event) (k : Keeping)
    (state : IsStateOf layout start book keeper region spare events) (m : IsMade layout keeper region behind l e spare left events made) (lane : Lane E) (goes : GoesTo book later l lane)
    (is_book : IsBook later) (is : IsKept keeper kept k)
    (over : IsPartOver (layout_shape layout) start state.s state.chains state.w (l % layout.partitions) (txn_at state.w.lanes l).number (region_made state.w.keeping (l % layout.partitions) e region))
    (v : World) (step : IsPartStep layout start book later keeper kept region spare events l e state over v lane) where
  abbrev number_here : ℕ
  number_here = (txn_at state.w.lanes l).number

  one_part : 1 ≤ layout.partitions
  one_part = state.world.log.logged.allowed.partitions.0

  next_event : IsNextEvent (layout_shape layout) state.w.keeping (l % layout.partitions) e
  next_event = is_next E layout book keeper state.s state.w state.tied one_part region behind l e spare left events made m

  beside : IsBeside (layout_shape layout) l number_here state.s.log over.state.log state.chains over.chains_behind state.w v
  beside = beside_changed (layout_shape layout) l number_here state.s.log over.state.log state.chains over.chains_behind state.w v step.changed (λ r among. inl (over.fewer r among))
      (λ r among. inl (over.newest_fewer r (subst (λ ledger. IsAmong (newest_log ledger) r) step.ledger among)))
      (λ r among. elim (over.newest_taken r among) [ inl there ↦ inl (subst (λ ledger. IsAmong (newest_log ledger) r) (sym step.ledger) there) | inr of ↦ inr of ])
      (λ u ne. ap (gates_in u false) step.ledger ∙ over.noted u ne) over.chains_stay

  pub part_behind : IsStateOf layout start later kept behind left made
  part_behind = subst (λ r. IsStateOf layout start later kept r left made) (sym (region_is E layout book keeper state.s state.w state.tied one_part region behind l e spare left events made m))
      (steps_on layout start book later keeper kept region (region_made state.w.keeping (l % layout.partitions) e region) spare left events made l state over.base over.state over.chains_behind v lane goes
      is_book m.places m.counted (record {
        world = step.world;
        roomy = parts_are_roomy (layout_shape layout) state.base state.s state.chains start state.w region (reserved_for layout book) (reserved_for layout later) (l % layout.partitions) e next_event
            state.world (λ q lt. (
            let none : taken_in (layout_shape layout) state.w.keeping (l % layout.partitions) q ≡ 0 = takes_none (layout_shape layout) state.w.keeping (l % layout.partitions) q over.stores_none in
            let less = reserved_less layout book later l lane goes.lanes step.pays.reserves q in
            omega (arith, none, less))) state.roomy;
        beside = beside;
        keeping = step.keeping;
        next = step.next ∙ state.tied.next ∙ sym is.number;
        slots = is.slots;
        places = is.places;
        history = step.history;
        held = step.held;
        mine = step.mine;
        owes = step.owes;
        number = step.number;
        next_same = step.next;
        unpaid_same = step.unpaid_same;
        pays = step.pays;
      }))

-- ---- the latch is let go

abbrev over_lane : {E : Type 0} → Bool → Lane E → Lane E
over_lane commits lane = left_lane (end_reply commits) (paid_event lane)

over_is_free : {E : Type 0} (commits : Bool) (lane : Lane E) → stage_of (over_lane commits lane) ≡ Free
over_is_free true lane = refl
over_is_free false lane = refl

module _ {E : Type 0} (layout : Layout) (start : Words) (book later : Book E) (keeper kept : LogKeeper) (region behind : Region) (spare left events made l : ℕ) (e : Event)
    (state : IsStateOf layout start book keeper region spare events) (m : IsMade layout keeper region behind l e spare left events made) (last_one : AreLeft layout keeper (l % layout.partitions) 1)
    (over : IsPartOver (layout_shape layout) start state.s state.chains state.w (l % layout.partitions) (txn_at state.w.lanes l).number (region_made state.w.keeping (l % layout.partitions) e region)) where
  abbrev shape_here : Shape
  shape_here = layout_shape layout

  abbrev p : ℕ
  p = l % layout.partitions

  abbrev was : World
  was = state.w

  abbrev made_keeping : Keeping
  made_keeping = made_part shape_here p was.keeping

  abbrev region_there : Region
  region_there = region_made was.keeping p e region

  some_part : 1 ≤ layout.partitions
  some_part = state.world.log.logged.allowed.partitions.0

  p_inside : p < layout.partitions
  p_inside = part_inside E layout book keeper state.s was state.tied some_part region behind l e spare left events made m

  holder_here : was.keeping.holder p ≡ l
  holder_here = holder_is E layout book keeper state.s was state.tied some_part region behind l e spare left events made m

  inside : l < length was.lanes
  inside = lane_inside E layout book keeper state.s was state.tied some_part region behind l e spare left events made m

  others : (k : ℕ) → k ≢ l → was.keeping.holder p ≢ k
  others = others_off E layout book keeper state.s was state.tied some_part region behind l e spare left events made m

  last_there : (was.keeping.runs p).made + 1 ≡ length (plan_in shape_here was.keeping p)
  last_there = left_there E layout book keeper state.s was state.tied some_part region behind l e spare left events made m 1 last_one

  rests_there : (made_keeping.runs p).part ≡ rests
  rests_there = ap (λ (r : Running). r.part) (made_ends shape_here p was.keeping last_there)

  few_lanes : (k : ℕ) → k < length was.lanes → k < 17
  few_lanes k lt = let few = state.is_book.few in let same = state.tied.lanes in omega (arith, lt, few, same)

  keeping_is : made_keeping ≡ made_in layout keeper p
  keeping_is = ap (made_part shape_here p) state.tied.keeping

  -- a partition's own values and those of others
  own_value : {A : Type 0} (a b : A) → (if p == p then a else b) ≡ a
  own_value a b = ap (λ t. if t then a else b) (test_same p p refl)

  other_value : {A : Type 0} (q : ℕ) (a b : A) → q ≢ p → (if q == p then a else b) ≡ b
  other_value q a b ne = ap (λ t. if t then a else b) (test_other q p ne)

  module _ (none : HasNo (IsOf (txn_at was.lanes l).number) over.state.log) (now : IsOverNow (txn_at was.lanes l)) where
    abbrev let_go : World
    let_go = record (dropped shape_here p was) { keeping = latched p 17 made_keeping }

    abbrev left_world : World
    left_world = with_lane l idle let_go

    free_holder : left_world.keeping.holder p ≡ 17
    free_holder = own_value 17 (made_keeping.holder p)

    still : left_world.under p ≡ nothing
    still = own_value nothing (was.under p)

    rests_elsewhere : IsResting shape_here let_go.keeping l
    rests_elsewhere q lt holds = elim (eqb_tells q p) [
      | inl same ↦ absurd (let no : 17 ≡ l = sym free_holder ∙ subst (λ z. let_go.keeping.holder z ≡ l) same.1 holds in let few = few_lanes l inside in omega (arith, no, few))
      | inr ne ↦ (
          let his : was.keeping.holder q ≡ l = sym (made_holder shape_here p was.keeping q) ∙ sym (other_value q 17 (made_keeping.holder q) ne.1) ∙ holds in
          let few = few_lanes l inside in
          let here = state.tied.held.here q lt (λ none. (let no : l ≡ 17 = sym his ∙ none in absurd (omega (arith, no, few)))) in
          absurd (ne.1 (sym here ∙ ap (λ h. h % layout.partitions) his)))
    ]

    world_there : IsWorldAt shape_here over.base over.state over.chains_behind start left_world region_there
    world_there = leaves_keep shape_here over.base over.state over.chains_behind start let_go region_there l
        (record { lane = inside; is_over = now.is_over; no_record = none; resting = rests_elsewhere })
        (latches_keep shape_here over.base over.state over.chains_behind start (dropped shape_here p was) region_there p 17 p_inside rests_there over.world)

    changed : IsChangedIn shape_here l was left_world
    changed = record {
      holders = λ q ne. other_value q 17 (made_keeping.holder q) ne ∙ made_holder shape_here p was.keeping q;
      runs = λ q ne. made_elsewhere shape_here p was.keeping q ne;
      unders = λ q ne. other_value q nothing (was.under q) ne;
      before = λ k ne lt. others k ne;
      behind = λ k ne lt holds. (let few = few_lanes k lt in let no : 17 ≡ k = sym free_holder ∙ holds in omega (arith, no, few));
      count = count_with l idle was.lanes;
      others = λ k ne. with_other l k idle was.lanes ne;
    }

    under_none : under_of shape_here left_world l ≡ nothing
    under_none = under_free left_world p l (λ holds. (let few = few_lanes l inside in let no : 17 ≡ l = sym free_holder ∙ holds in omega (arith, no, few)))

    idle_there : txn_at left_world.lanes l ≡ idle
    idle_there = with_here l idle was.lanes inside

    none_owed : (commits : Bool) → GoesTo book later l (over_lane commits (lane_at book l)) → OwesEnough shape_here over.chains_behind later kept left_world l
    none_owed commits goes = owes_to shape_here over.chains_behind later kept left_world l (over_lane commits (lane_at book l)) idle nothing Free goes.lanes.here idle_there under_none
        (over_is_free commits (lane_at book l)) (record { events = omega arith; records = omega arith; lists = λ x at. (omega arith, omega arith, omega arith) })

    unpaid_there : sum_below (λ q. unpaid (left_world.under q)) layout.partitions ≡ sum_below (λ q. unpaid (was.under q)) layout.partitions
    unpaid_there = sums_same (λ q. unpaid (left_world.under q)) (λ q. unpaid (was.under q)) layout.partitions (λ q lt. elim (eqb_tells q p) [
      | inl same ↦ subst (λ z. unpaid (left_world.under z) ≡ unpaid (was.under z)) (sym same.1) (ap unpaid still ∙ sym over.none_unpaid)
      | inr ne ↦ ap unpaid (changed.unders q ne.1)
    ])

    pub leaves_state : (commits : Bool) → 1 ≤ (lane_at book l).owed_events → GoesTo book later l (over_lane commits (lane_at book l)) → IsBook later →
        IsKept keeper kept (latched p 17 (made_in layout keeper p)) → IsStateOf layout start later kept behind left made
    leaves_state commits some goes is_book is = part_behind layout start book later keeper kept region behind spare left events made l e (latched p 17 (made_in layout keeper p)) state m
        (over_lane commits (lane_at book l)) goes is_book is over left_world (record {
          changed = changed;
          world = world_there;
          ledger = refl;
          keeping = ap (latched p 17) keeping_is ∙ sym is.kept;
          next = refl;
          history = refl;
          held = held_changed shape_here l was left_world changed state.tied.held (held_by_none shape_here left_world p free_holder still);
          mine = subst (λ x. IsLaneOf layout book.blocks over.state.log (newest_log made_keeping.ledger) (under_of shape_here left_world l) p (over_lane commits (lane_at book l)) x) (sym idle_there)
              (free_lane layout book.blocks over.state.log (newest_log made_keeping.ledger) (under_of shape_here left_world l) p (over_lane commits (lane_at book l)) (record {
                free = over_is_free commits (lane_at book l);
                commits = refl;
                held = refl;
                transaction = refl;
                writes = refl;
                updates = refl;
                stored = refl;
                gives = refl;
                gates = refl;
                records = refl;
                rolled = refl;
                ended = refl;
                entry = refl;
              }) under_none);
          number = subst (λ (x : Txn). x.number < book.next_transaction) (sym idle_there) (let one = state.numbered.some in omega (arith, one));
          owes = none_owed commits goes;
          unpaid_same = unpaid_there;
          pays = record {
            events_less = omega (arith, some);
            records_less = omega arith;
            reserves = omega arith;
            entry = inr (record { no_commit = refl; no_entry = record { unentered = refl; none = refl } });
            numbers = record { begun = refl; commits = omega arith };
          };
        })
