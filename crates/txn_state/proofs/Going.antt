-- Behind an event of a lane's part that isn't its last.
use Rattle.std.proofs.Common.{◌≡◌, ◌≢◌, ℕ, ◌+◌, ◌-◌, ◌*◌, ◌%◌, ◌<◌, ◌≤◌, Bool, if◌then◌else◌, List, length, refl, sym, ap, ◌∙◌, subst, arith}
use Rattle.persist_model.specs.declared.event.Event.{Event}
use Rattle.persist_model.specs.Region.{Words, Region}
use Rattle.persist_model.specs.Shape.{Shape}
use Rattle.region_layout.specs.declared.layout.Layout.{Layout}
use Rattle.region_layout.specs.Layout.{layout_shape}
use Rattle.lane_book.specs.declared.book.Book.{Book}
use Rattle.lane_book.specs.declared.lane.Lane.{Lane}
use Rattle.lane_book.specs.FacesOf.{lane_at}
use Rattle.log_keeper.specs.declared.keeper.LogKeeper.{LogKeeper}
use Rattle.log_keeper.specs.Keeper.{KeepsSlots, HasRoomIn}
use Rattle.log_keeper.specs.Parts.{Running, plan_of}
use Rattle.log_keeper.specs.Ledger.{newest_log}
use Rattle.log_keeper.specs.Listing.{gates_in}
use Rattle.log_keeper.specs.Making.{made_part}
use Rattle.log_keeper.specs.Logged.{plan_in}
use Rattle.log_keeper.specs.Events.{IsNextEvent}
use Rattle.history_laws.specs.Histories.{fold}
use Rattle.history_laws.specs.UnderWay.{UnderWay, nothing, appends, closes, takes_back, drops, run_of}
use Rattle.txn_laws.specs.Txns.{Txn, txn_at, with_txn}
use Rattle.txn_laws.specs.Going.{further, txn_further, gone_on}
use Rattle.txn_laws.specs.PartsOf.{Fits}
use Rattle.txn_laws.specs.Rooms.{sum_below}
use Rattle.txn_laws.specs.Worlds.{World, IsWorldAt}
use Rattle.txn_laws.proofs.Lanes.{with_here, with_other}
use Rattle.txn_laws.proofs.GoingOn.{parts_keep}
use Rattle.txn_state.specs.Stages.{stage_of}
use Rattle.txn_state.specs.Ties.{under_of, AreHeld, IsLaneOf}
use Rattle.txn_state.specs.Owing.{Needs, needs_at, records_noted}
use Rattle.txn_state.specs.Numbers.{unpaid}
use Rattle.txn_state.specs.States.{IsStateOf}
use Rattle.txn_state.specs.AppendLaws.{IsMade, AreLeft}
use Rattle.txn_state.proofs.Steps.{count_with}
use Rattle.txn_state.proofs.Making.{
  test_same,
  test_other,
  under_held,
  IsChangedIn,
  held_changed,
  held_by_lane,
  made_holder,
  made_elsewhere,
  made_here,
  gates_go_on,
  part_inside,
  holder_is,
  lane_inside,
  is_busy,
  others_off,
  under_is,
  is_next,
  region_is,
  left_there,
}
use Rattle.txn_state.proofs.Rebuilding.{Owes, owes_here, unpaid_sum}
use Rattle.txn_state.proofs.Likeness.{IsOneLess, HasEventIn, further_busy}

-- ---- with an event paid

-- the lane owes an event less where its call wants one less
pub owes_less : (E : Type 0) (shape : Shape) (p : ℕ) (n c : ℕ) (u : UnderWay) (x : Txn) (m d : ℕ) (v : UnderWay) (y : Txn) (keeper kept : LogKeeper) (lane later : Lane E) → p < length keeper.slots.items →
    KeepsSlots keeper.slots.items kept.slots.items → stage_of later ≡ stage_of lane → later.owed_events ≡ lane.owed_events - 1 → later.owed_records ≡ lane.owed_records →
    IsOneLess (needs_at shape p n c u x (stage_of lane)) (needs_at shape p m d v y (stage_of lane)) → Owes shape p n c u x keeper lane → Owes shape p m d v y kept later
owes_less E shape p n c u x m d v y keeper kept lane later inside slots stage events records less owes = record {
  events = subst (λ st. (needs_at shape p m d v y st).events ≤ later.owed_events) (sym stage) (let a = less.events in let b = owes.events in omega (arith, a, b, events));
  records = subst (λ st. (needs_at shape p m d v y st).records ≤ later.owed_records) (sym stage) (let a = less.records in let b = owes.records in omega (arith, a, b, records));
  lists = subst (λ st. HasRoomIn kept.slots.items p (needs_at shape p m d v y st).gates) (sym stage)
      (subst (HasRoomIn kept.slots.items p) (sym less.gates) (slots.lists p (needs_at shape p n c u x (stage_of lane)).gates inside owes.lists));
}

-- so it owed one
pub event_owed : (E : Type 0) (shape : Shape) (p : ℕ) (n c : ℕ) (u : UnderWay) (x : Txn) (needs : Needs) (keeper : LogKeeper) (lane : Lane E) →
    IsOneLess (needs_at shape p n c u x (stage_of lane)) needs → Owes shape p n c u x keeper lane → 1 ≤ lane.owed_events
event_owed E shape p n c u x needs keeper lane less owes = let a = less.events in let b = owes.events in omega (arith, a, b)

pub unpaid_further : (u : UnderWay) → unpaid u ≤ unpaid (further u) + 1
unpaid_further nothing = omega arith
unpaid_further (appends adding made) = omega arith
unpaid_further (closes gates ends made) = omega arith
unpaid_further (takes_back gates made) = omega arith
unpaid_further (drops r made) = omega arith

-- ---- the world

module _ (E : Type 0) (layout : Layout) (start : Words) (book : Book E) (keeper : LogKeeper) (region behind : Region) (spare left events made l : ℕ) (e : Event)
    (m : IsMade layout keeper region behind l e spare left events made) (st : IsStateOf layout start book keeper region spare events) where
  pub one_part : 1 ≤ layout.partitions
  one_part = st.world.log.logged.allowed.partitions.0

  abbrev pub p : ℕ
  p = l % layout.partitions

  abbrev pub shape : Shape
  shape = layout_shape layout

  -- its transaction, and what it has under way
  abbrev pub x : Txn
  x = txn_at st.w.lanes l

  abbrev pub u : UnderWay
  u = st.w.under p

  pub inside : l % layout.partitions < layout.partitions
  inside = part_inside E layout book keeper st.s st.w st.tied one_part region behind l e spare left events made m

  pub held_is : st.w.keeping.holder p ≡ l
  held_is = holder_is E layout book keeper st.s st.w st.tied one_part region behind l e spare left events made m

  pub in_lanes : l < length st.w.lanes
  in_lanes = lane_inside E layout book keeper st.s st.w st.tied one_part region behind l e spare left events made m

  pub busy : st.w.under p ≢ nothing
  busy = is_busy E layout book keeper st.s st.w st.tied one_part region behind l e spare left events made m

  pub off : (k : ℕ) → k ≢ l → st.w.keeping.holder p ≢ k
  off = others_off E layout book keeper st.s st.w st.tied one_part region behind l e spare left events made m

  pub next : IsNextEvent (layout_shape layout) st.w.keeping p e
  next = is_next E layout book keeper st.s st.w st.tied one_part region behind l e spare left events made m

  pub run_is : st.w.keeping.runs p ≡ run_of (st.w.under p)
  run_is = (st.world.parts p inside).run

  -- so many of its events are left
  pub left_of : (n : ℕ) → AreLeft layout keeper p n → (run_of (st.w.under p)).made + n ≡ length (plan_of (layout_shape layout) p (run_of (st.w.under p)).part)
  left_of n are = subst (λ (run : Running). run.made + n ≡ length (plan_of (layout_shape layout) p run.part)) run_is
      (left_there E layout book keeper st.s st.w st.tied one_part region behind l e spare left events made m n are)

  pub fits_is : Fits (layout_shape layout) st.s (fold start st.w.history) p (txn_at st.w.lanes l) (st.w.under p)
  fits_is = subst (λ (h : ℕ). Fits (layout_shape layout) st.s (fold start st.w.history) p (txn_at st.w.lanes h) (st.w.under p)) held_is (st.world.parts p inside).fits

  pub apart : (k : ℕ) → k ≢ l → 1 ≤ (txn_at st.w.lanes k).number → (txn_at st.w.lanes k).number ≢ (txn_at st.w.lanes l).number
  apart k ne one same = ne (st.world.transactions.apart k l one same)

  -- the lane as it was
  pub was_here : IsLaneOf layout book.blocks st.s.log (newest_log st.w.keeping.ledger) (st.w.under p) p (lane_at book l) (txn_at st.w.lanes l)
  was_here = subst (λ (y : UnderWay). IsLaneOf layout book.blocks st.s.log (newest_log st.w.keeping.ledger) y p (lane_at book l) (txn_at st.w.lanes l))
      (under_is E layout book keeper st.s st.w st.tied one_part region behind l e spare left events made m) (st.tied.each l in_lanes)

  pub owed_here : Owes (layout_shape layout) p (records_noted st.w (txn_at st.w.lanes l).number) (length (st.chains p)) (st.w.under p) (txn_at st.w.lanes l) keeper (lane_at book l)
  owed_here = subst (λ (y : UnderWay). Owes (layout_shape layout) p (records_noted st.w (txn_at st.w.lanes l).number) (length (st.chains p)) y (txn_at st.w.lanes l) keeper (lane_at book l))
      (under_is E layout book keeper st.s st.w st.tied one_part region behind l e spare left events made m)
      (owes_here E (layout_shape layout) st.chains book keeper st.w l (st.owing.each l (subst (λ (n : ℕ). l < n) st.tied.lanes in_lanes)))

  pub has_slot : l % layout.partitions < length keeper.slots.items
  has_slot = subst (λ (n : ℕ). l % layout.partitions < n) (sym st.tied.slots) inside

  -- ---- an event that isn't the last

  module _ (more : (st.w.keeping.runs p).made + 1 < length (plan_in (layout_shape layout) st.w.keeping p)) where
    abbrev pub v : World
    v = gone_on (layout_shape layout) p st.w

    pub world_on : IsWorldAt (layout_shape layout) st.base st.s st.chains start v behind
    world_on = subst (IsWorldAt (layout_shape layout) st.base st.s st.chains start v)
        (sym (region_is E layout book keeper st.s st.w st.tied one_part region behind l e spare left events made m))
        (parts_keep (layout_shape layout) st.base st.s st.chains start st.w region p e (subst (λ (h : ℕ). h < length st.w.lanes) (sym held_is) in_lanes) next more st.world)

    pub holder_on : (made_part (layout_shape layout) p st.w.keeping).holder p ≡ l
    holder_on = made_holder (layout_shape layout) p st.w.keeping p ∙ held_is

    pub under_here : v.under p ≡ further (st.w.under p)
    under_here = ap (λ (t : Bool). if t then further (st.w.under p) else st.w.under p) (test_same p p refl)

    pub under_on : under_of (layout_shape layout) v l ≡ further (st.w.under p)
    under_on = under_held v p l holder_on ∙ under_here

    pub lanes_on : v.lanes ≡ with_txn l (txn_further (layout_shape layout) p (st.w.under p) (txn_at st.w.lanes l)) st.w.lanes
    lanes_on = ap (λ (h : ℕ). with_txn h (txn_further (layout_shape layout) p (st.w.under p) (txn_at st.w.lanes h)) st.w.lanes) held_is

    pub txn_on : txn_at v.lanes l ≡ txn_further (layout_shape layout) p (st.w.under p) (txn_at st.w.lanes l)
    txn_on = ap (λ (ls : List Txn). txn_at ls l) lanes_on ∙ with_here l (txn_further (layout_shape layout) p (st.w.under p) (txn_at st.w.lanes l)) st.w.lanes in_lanes

    pub changed_on : IsChangedIn (layout_shape layout) l st.w v
    changed_on = record {
      holders = λ q ne. made_holder (layout_shape layout) p st.w.keeping q;
      runs = λ q ne. made_elsewhere (layout_shape layout) p st.w.keeping q ne;
      unders = λ q ne. ap (λ (t : Bool). if t then further (st.w.under p) else st.w.under q) (test_other q p ne);
      before = λ k ne lt. off k ne;
      behind = λ k ne lt is. off k ne (sym (made_holder (layout_shape layout) p st.w.keeping p) ∙ is);
      count = ap length lanes_on ∙ count_with l (txn_further (layout_shape layout) p (st.w.under p) (txn_at st.w.lanes l)) st.w.lanes;
      others = λ k ne. ap (λ (ls : List Txn). txn_at ls k) lanes_on ∙ with_other l k (txn_further (layout_shape layout) p (st.w.under p) (txn_at st.w.lanes l)) st.w.lanes ne;
    }

    pub held_on : AreHeld (layout_shape layout) v
    held_on = held_changed (layout_shape layout) l st.w v changed_on st.tied.held (held_by_lane (layout_shape layout) v l m.inside (subst (λ (n : ℕ). l < n) (sym changed_on.count) in_lanes) holder_on
        (λ none. further_busy (st.w.under p) busy (sym under_here ∙ none))
        (subst (λ (run : Running). run.made < length (plan_of (layout_shape layout) p run.part)) (sym (made_here (layout_shape layout) p st.w.keeping more))
        (omega (arith, more))))

    pub noted_on : (t : ℕ) (ends : Bool) → gates_in t ends (made_part (layout_shape layout) p st.w.keeping).ledger ≡ gates_in t ends st.w.keeping.ledger
    noted_on t ends = gates_go_on (layout_shape layout) p st.w.keeping t ends more

    pub records_on : 10 * v.next ≤ made + (10 + sum_below (λ (q : ℕ). unpaid (v.under q)) layout.partitions)
    records_on =
        let old = st.numbered.records in
        let sum = unpaid_sum layout.partitions p st.w v inside (λ q ne. changed_on.unders q ne) in
        let here : unpaid (v.under p) ≡ unpaid (further (st.w.under p)) = ap unpaid under_here in
        let less = unpaid_further (st.w.under p) in
        let count = m.counted in
        omega (arith, old, sum, here, less, count)

    pub has_event : HasEventIn (layout_shape layout) p (st.w.under p)
    has_event = subst (λ (run : Running). run.made < length (plan_of (layout_shape layout) p run.part)) run_is (omega (arith, more))
