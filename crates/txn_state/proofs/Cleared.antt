-- Nothing is left of an ended transaction: a bucket is taken out, or its call ends.
use Rattle.std.proofs.Common.{◌≡◌, inl, inr, ℕ, ◌+◌, ◌*◌, ◌-◌, ◌%◌, ◌<◌, ◌≤◌, List, [], length, refl, sym, ap, ◌∙◌, subst, arith}
use Rattle.persist_model.specs.declared.event.Event.{Event}
use Rattle.persist_model.specs.Region.{Words, Region}
use Rattle.persist_model.specs.Records.{Log, IsAmong, HasNo, IsOf}
use Rattle.persist_model.specs.Shape.{Shape}
use Rattle.persist_model.specs.State.{State}
use Rattle.region_layout.specs.declared.layout.Layout.{Layout}
use Rattle.region_layout.specs.Layout.{layout_shape}
use Rattle.lane_book.specs.declared.lane.Lane.{Lane}
use Rattle.lane_book.specs.declared.book.Book.{Book}
use Rattle.lane_book.specs.FacesOf.{lane_at}
use Rattle.log_keeper.specs.declared.keeper.LogKeeper.{LogKeeper}
use Rattle.log_keeper.specs.Parts.{drops as takes_out, Running, plan_of}
use Rattle.log_keeper.specs.Ledger.{newest_log, left_open}
use Rattle.log_keeper.specs.Logged.{Keeping, plan_in}
use Rattle.log_keeper.specs.Events.{IsLastEvent, region_made}
use Rattle.history_laws.specs.UnderWay.{UnderWay, closes, drops, run_of}
use Rattle.txn_laws.specs.Txns.{Txn, txn_at}
use Rattle.txn_laws.specs.Worlds.{World}
use Rattle.txn_laws.proofs.LeftOpen.{left_back, not_listed}
use Rattle.txn_state.specs.Seen.{noticed}
use Rattle.txn_state.specs.Stages.{Stage, ClosingEnd, Dropping, stage_of, is_commit}
use Rattle.txn_state.specs.Ties.{IsOverNow, IsClosingEndNow, IsDroppingNow, under_of, IsLaneOf}
use Rattle.txn_state.specs.Owing.{REMOVAL_EVENTS, events_left}
use Rattle.txn_state.specs.States.{IsStateOf}
use Rattle.txn_state.specs.AppendLaws.{IsMade, AreLeft}
use Rattle.txn_state.specs.ClosingLaws.{HasCleared, TransactionsEnd}
use Rattle.txn_state.proofs.Making.{part_inside, holder_is, under_is, is_next, left_there}
use Rattle.txn_state.proofs.StageSteps.{EndsCall, call_at}
use Rattle.txn_state.proofs.HeapSteps.{owes_of, come_here}
use Rattle.txn_state.proofs.PartsOver.{IsPartOver, group_over, group_log, group_chains, removal_over, removal_log, removal_shortens}
use Rattle.txn_state.proofs.ClosingSteps.{leaves_state}
use Rattle.txn_state.proofs.Given.{ends_no_gifts, closes_ends}
use Rattle.txn_state.proofs.StageSteps.{ends_told}

-- ---- a group is over

pub record IsGroupOver (shape : Shape) (start_heap : Words) (s : State) (chains : ℕ → List ℕ) (w : World) (p t : ℕ) (region : Region) (gates ends : List ℕ) : Type 0 where
  pub over : IsPartOver shape start_heap s chains w p t region
  pub log_is : over.state.log ≡ left_open gates ends [] s.log
  pub chains_same : over.chains_behind ≡ chains

-- the events that are left of a part with its last one
events_one : (shape : Shape) (k : Keeping) (p : ℕ) (u : UnderWay) → k.runs p ≡ run_of u → (k.runs p).made + 1 ≡ length (plan_in shape k p) → events_left shape p u ≡ 1
events_one shape k p u is last = let h = subst (λ (run : Running). run.made + 1 ≡ length (plan_of shape p run.part)) is last in omega (arith, h)

-- ---- what the stage says

module _ {E : Type 0} (layout : Layout) (start : Words) (book : Book E) (keeper : LogKeeper) (region behind : Region) (spare left events made l : ℕ) (e : Event)
    (state : IsStateOf layout start book keeper region spare events) (m : IsMade layout keeper region behind l e spare left events made) (last_one : AreLeft layout keeper (l % layout.partitions) 1)
    (in_book : l < length book.lanes.items) where
  abbrev shape_now : Shape
  shape_now = layout_shape layout

  abbrev q : ℕ
  q = l % layout.partitions

  abbrev before : World
  before = state.w

  abbrev x : Txn
  x = txn_at before.lanes l

  abbrev lane : Lane E
  lane = lane_at book l

  abbrev after_it : Region
  after_it = region_made before.keeping q e region

  one_part : 1 ≤ layout.partitions
  one_part = state.world.log.logged.allowed.partitions.0

  q_inside : q < layout.partitions
  q_inside = part_inside E layout book keeper state.s before state.tied one_part region behind l e spare left events made m

  pub holder_now : before.keeping.holder q ≡ l
  holder_now = holder_is E layout book keeper state.s before state.tied one_part region behind l e spare left events made m

  pub under_now : under_of shape_now before l ≡ before.under q
  under_now = under_is E layout book keeper state.s before state.tied one_part region behind l e spare left events made m

  last_now : (before.keeping.runs q).made + 1 ≡ length (plan_in shape_now before.keeping q)
  last_now = left_there E layout book keeper state.s before state.tied one_part region behind l e spare left events made m 1 last_one

  run_now : before.keeping.runs q ≡ run_of (under_of shape_now before l)
  run_now = (state.world.parts q q_inside).run ∙ ap run_of (sym under_now)

  pub one_event : events_left shape_now q (under_of shape_now before l) ≡ 1
  one_event = events_one shape_now before.keeping q (under_of shape_now before l) run_now last_now

  pub last_event : (u : UnderWay) → under_of shape_now before l ≡ u → IsLastEvent shape_now before.keeping q e (run_of u).part
  last_event u is = record {
    event = is_next E layout book keeper state.s before state.tied one_part region behind l e spare left events made m;
    under_way = ap (λ (r : Running). r.part) run_now ∙ ap (λ v. (run_of v).part) is;
    last = last_now;
  }

  pub mine_now : IsLaneOf layout book.blocks state.s.log (newest_log before.keeping.ledger) (under_of shape_now before l) q lane x
  mine_now = state.tied.each l (let same = state.tied.lanes in omega (arith, in_book, same))

  pub group_done : (gates ends : List ℕ) (n : ℕ) → under_of shape_now before l ≡ closes gates ends n → IsGroupOver shape_now start state.s state.chains before q x.number after_it gates ends
  group_done gates ends n is = subst (λ h. IsGroupOver shape_now start state.s state.chains before q (txn_at before.lanes h).number after_it gates ends) holder_now (record {
    over = group_over shape_now state.base state.s state.chains start before region q e gates ends n under (last_event (closes gates ends n) is) state.world no_gifts none_zeroed;
    log_is = group_log shape_now state.base state.s state.chains start before region q e gates ends n under (last_event (closes gates ends n) is) state.world no_gifts none_zeroed;
    chains_same = group_chains shape_now state.base state.s state.chains start before region q e gates ends n under (last_event (closes gates ends n) is) state.world no_gifts none_zeroed;
  })
    where
      under : before.under q ≡ closes gates ends n
      under = sym under_now ∙ is

      no_gifts : (txn_at before.lanes (before.keeping.holder q)).gifts ≡ []
      no_gifts = subst (λ h. (txn_at before.lanes h).gifts ≡ []) (sym holder_now) (ends_no_gifts layout book.blocks state.s.log (newest_log before.keeping.ledger) (under_of shape_now before l) q lane x mine_now
          (ends_told lane.phase lane.has_records lane.part lane.doing ∙ closes_ends state.s.log (under_of shape_now before l) x (stage_of lane) gates ends n mine_now.come is))

      none_zeroed : (txn_at before.lanes (before.keeping.holder q)).zeroed ≡ 0
      none_zeroed = subst (λ h. (txn_at before.lanes h).zeroed ≡ 0) (sym holder_now) mine_now.txn.zeroed

-- Nothing is left of the lane's transaction, and a removal of each bucket is owed.
pub record IsCleared {E : Type 0} (layout : Layout) (start : Words) (book : Book E) (keeper : LogKeeper) (region : Region) (spare events l : ℕ) (e : Event)
    (state : IsStateOf layout start book keeper region spare events) : Type 0 where
  pub over : IsPartOver (layout_shape layout) start state.s state.chains state.w (l % layout.partitions) (txn_at state.w.lanes l).number (region_made state.w.keeping (l % layout.partitions) e region)
  pub none : HasNo (IsOf (txn_at state.w.lanes l).number) over.state.log
  pub now : IsOverNow (txn_at state.w.lanes l)
  pub stage : Stage
  pub call : EndsCall (lane_at book l).has_records (lane_at book l).doing stage
  pub unnoticed : noticed (layout_shape layout) (l % layout.partitions) (under_of (layout_shape layout) state.w l) (txn_at state.w.lanes l) ≡ txn_at state.w.lanes l
  pub owed : 1 + REMOVAL_EVENTS * length (over.chains_behind (l % layout.partitions)) ≤ (lane_at book l).owed_events

module _ {E : Type 0} (layout : Layout) (start : Words) (book : Book E) (keeper : LogKeeper) (region behind : Region) (spare left events made l : ℕ) (e : Event)
    (state : IsStateOf layout start book keeper region spare events) (m : IsMade layout keeper region behind l e spare left events made) (last_one : AreLeft layout keeper (l % layout.partitions) 1)
    (in_book : l < length book.lanes.items) where
  abbrev its_shape : Shape
  its_shape = layout_shape layout

  abbrev its_part : ℕ
  its_part = l % layout.partitions

  abbrev its_txn : Txn
  its_txn = txn_at state.w.lanes l

  abbrev its_under : UnderWay
  its_under = under_of (layout_shape layout) state.w l

  from_group : stage_of (lane_at book l) ≡ ClosingEnd → IsCleared layout start book keeper region spare events l e state
  from_group at = record {
    over = group.over;
    none = λ r among of. (
        let there = subst (λ (log : Log). IsAmong log r) group.log_is among in
        not_listed [] come.ends [] state.s.log r there (inr (inl (come.all_listed r (left_back [] come.ends [] state.s.log r there).0 of))));
    now = come.over;
    stage = ClosingEnd;
    call = call_at (lane_at book l).phase (lane_at book l).has_records (lane_at book l).part (lane_at book l).doing ClosingEnd at refl;
    unnoticed = ap (λ u. noticed its_shape its_part u its_txn) come.under_way;
    owed = (
        let one = one_event layout start book keeper region behind spare left events made l e state m last_one in_book in
        let owes = (owes_of its_shape state.chains book keeper state.w l ClosingEnd at (state.owing.each l in_book)).events in
        let same : length (group.over.chains_behind its_part) ≡ length (state.chains its_part) = ap (λ (c : ℕ → List ℕ). length (c its_part)) group.chains_same in
        omega (arith, one, owes, same));
  }
    where
      come : IsClosingEndNow state.s.log its_under its_txn
      come = come_here layout start book keeper region spare events l in_book state ClosingEnd at

      group : IsGroupOver its_shape start state.s state.chains state.w its_part its_txn.number (region_made state.w.keeping its_part e region) [] come.ends
      group = group_done layout start book keeper region behind spare left events made l e state m last_one in_book [] come.ends come.made come.under_way

  from_removal : stage_of (lane_at book l) ≡ Dropping → IsCleared layout start book keeper region spare events l e state
  from_removal at = record {
    over = removal_over its_shape state.base state.s state.chains start state.w region its_part its_txn.number e come.removed come.made under last state.world;
    none = λ r among of. come.no_record r (subst (λ (log : Log). IsAmong log r)
        (removal_log its_shape state.base state.s state.chains start state.w region its_part its_txn.number e come.removed come.made under last state.world) among) of;
    now = come.over;
    stage = Dropping;
    call = call_at (lane_at book l).phase (lane_at book l).has_records (lane_at book l).part (lane_at book l).doing Dropping at refl;
    unnoticed = ap (λ u. noticed its_shape its_part u its_txn) come.under_way;
    owed = (
        let one = one_event layout start book keeper region behind spare left events made l e state m last_one in_book in
        let owes = (owes_of its_shape state.chains book keeper state.w l Dropping at (state.owing.each l in_book)).events in
        let shorter = removal_shortens its_shape state.base state.s state.chains start state.w region its_part its_txn.number e come.removed come.made under last state.world in
        less (length ((removal_over its_shape state.base state.s state.chains start state.w region its_part its_txn.number e come.removed come.made under last state.world).chains_behind its_part))
        (length (state.chains its_part)) (events_left its_shape its_part its_under) (lane_at book l).owed_events one owes shorter);
  }
    where
      come : IsDroppingNow state.s.log its_under its_txn
      come = come_here layout start book keeper region spare events l in_book state Dropping at

      under : state.w.under its_part ≡ drops come.removed come.made
      under = sym (under_now layout start book keeper region behind spare left events made l e state m last_one in_book) ∙ come.under_way

      last : IsLastEvent its_shape state.w.keeping its_part e (takes_out come.removed)
      last = last_event layout start book keeper region behind spare left events made l e state m last_one in_book (drops come.removed come.made) come.under_way

      less : (c d n o : ℕ) → n ≡ 1 → n + REMOVAL_EVENTS * (d - 1) ≤ o → c + 1 ≡ d → 1 + REMOVAL_EVENTS * c ≤ o
      less c d n o one owes shorter = let same : d - 1 ≡ c = omega (arith, shorter) in plain (subst (λ k. n + REMOVAL_EVENTS * k ≤ o) same owes)
        where
          plain : n + REMOVAL_EVENTS * c ≤ o → 1 + REMOVAL_EVENTS * c ≤ o
          plain le = omega (arith, le, one)

  pub cleared : HasCleared (lane_at book l) → IsCleared layout start book keeper region spare events l e state
  cleared (inl at) = from_group at
  cleared (inr at) = from_removal at

pub transactions_end : {E : Type 0} → TransactionsEnd E
transactions_end layout start book later keeper kept region behind spare left events made l e m last at goes is_book is state =
    let c = cleared layout start book keeper region behind spare left events made l e state m last goes.lanes.inside at in
    leaves_state layout start book later keeper kept region behind spare left events made l e state m last c.over c.none c.now (is_commit (lane_at book l).doing) (let owed = c.owed in omega (arith, owed)) goes is_book is
