-- Behind the last event of a lane's append.
use Rattle.std.proofs.Common.{◌≡◌, ◌≢◌, inl, inr, ℕ, ◌+◌, ◌-◌, ◌%◌, ◌<◌, ◌≤◌, ◌==◌, ◌&&◌, Bool, true, false, if◌then◌else◌, List, length, refl, sym, ap, ◌∙◌, subst, arith}
use Rattle.persist_model.specs.declared.event.Event.{Event}
use Rattle.persist_model.specs.Region.{Words, Region}
use Rattle.persist_model.specs.Records.{Record, IsOf}
use Rattle.persist_model.specs.Shape.{Shape}
use Rattle.persist_model.specs.State.{State}
use Rattle.region_layout.specs.declared.layout.Layout.{Layout}
use Rattle.region_layout.specs.Layout.{layout_shape}
use Rattle.bucket_log.specs.Appends.{region_append, chain_behind}
use Rattle.plan_records.proofs.Passing.{inserted_out}
use Rattle.lane_book.specs.declared.book.Book.{Book}
use Rattle.lane_book.specs.declared.lane.Lane.{Lane}
use Rattle.lane_book.specs.FacesOf.{lane_at}
use Rattle.log_keeper.specs.declared.keeper.LogKeeper.{LogKeeper}
use Rattle.log_keeper.specs.Keeper.{KeepsSlots, HasRoomIn}
use Rattle.log_keeper.specs.Parts.{Running, appends as adds, plan_of}
use Rattle.log_keeper.specs.Ledger.{newest_log}
use Rattle.log_keeper.specs.Listing.{gates_in}
use Rattle.log_keeper.specs.Making.{made_part}
use Rattle.log_keeper.specs.Logged.{resting, with_chain, plan_in}
use Rattle.log_keeper.specs.Events.{IsLastEvent}
use Rattle.log_keeper.proofs.Newest.{newest_logs_made}
use Rattle.log_keeper.proofs.Made.{over_yes}
use Rattle.history_laws.specs.Histories.{fold}
use Rattle.history_laws.specs.UnderWay.{Added, an_update, a_deletion, a_rollback, a_compensation, an_undone_end, a_commit_end, Adding, record_of_adding, UnderWay, nothing, appends, run_of}
use Rattle.txn_laws.specs.Txns.{Txn, txn_at, with_txn}
use Rattle.txn_laws.specs.NextRecords.{IsAppendOf}
use Rattle.txn_laws.specs.PartsOf.{Fits}
use Rattle.txn_laws.specs.Settled.{txn_behind, history_behind, world_behind, base_behind, state_behind}
use Rattle.txn_laws.specs.Rooms.{IsRoomy, is_append, stores_gate, taken_in}
use Rattle.txn_laws.specs.Worlds.{World, IsWorldAt}
use Rattle.txn_laws.proofs.Lanes.{with_here, with_other}
use Rattle.txn_laws.proofs.Settles.{appends_settle}
use Rattle.txn_laws.proofs.Rooms.{parts_are_roomy}
use Rattle.txn_state.specs.Stages.{Stage, stage_of}
use Rattle.txn_state.specs.Seen.{booked, noticed}
use Rattle.txn_state.specs.Ties.{IsLaneOf}
use Rattle.txn_state.specs.Owing.{needs_at}
use Rattle.txn_state.specs.States.{IsStateOf, reserved_for}
use Rattle.txn_state.specs.Beside.{AddsOnlyOf, IsBeside}
use Rattle.txn_state.specs.AppendLaws.{IsMade, AreLeft}
use Rattle.txn_state.proofs.Steps.{count_with}
use Rattle.txn_state.proofs.Making.{test_other, IsChangedIn, made_holder, made_elsewhere, made_ends, gates_settle, adds_same, takes_same, beside_changed, region_is, left_there}
use Rattle.txn_state.proofs.Named.{no_checkpoint}
use Rattle.txn_state.proofs.Likeness.{IsOneLess}
use Rattle.txn_state.proofs.Rebuilding.{Owes}
use Rattle.txn_state.proofs.Going as going

-- the lane comes to another stage, and owes an event less where its call wants one less
pub owes_step : (E : Type 0) (shape : Shape) (p : ℕ) (n c : ℕ) (u : UnderWay) (x : Txn) (m d : ℕ) (v : UnderWay) (y : Txn) (stage : Stage) (keeper kept : LogKeeper) (lane later : Lane E) →
    p < length keeper.slots.items → KeepsSlots keeper.slots.items kept.slots.items → stage_of later ≡ stage → later.owed_events ≡ lane.owed_events - 1 → later.owed_records ≡ lane.owed_records →
    IsOneLess (needs_at shape p n c u x (stage_of lane)) (needs_at shape p m d v y stage) → Owes shape p n c u x keeper lane → Owes shape p m d v y kept later
owes_step E shape p n c u x m d v y stage keeper kept lane later inside slots is events records less owes = record {
  events = subst (λ st. (needs_at shape p m d v y st).events ≤ later.owed_events) (sym is) (let a = less.events in let b = owes.events in omega (arith, a, b, events));
  records = subst (λ st. (needs_at shape p m d v y st).records ≤ later.owed_records) (sym is) (let a = less.records in let b = owes.records in omega (arith, a, b, records));
  lists = subst (λ st. HasRoomIn kept.slots.items p (needs_at shape p m d v y st).gates) (sym is)
      (subst (HasRoomIn kept.slots.items p) (sym less.gates) (slots.lists p (needs_at shape p n c u x (stage_of lane)).gates inside owes.lists));
}

-- no kind changes these
pub record KeepsTxn (x y : Txn) : Type 0 where
  pub number : y.number ≡ x.number
  pub part : y.part ≡ x.part
  pub words : y.words ≡ x.words
  pub writes : y.writes ≡ x.writes
  pub stored : y.stored ≡ x.stored
  pub zeroed : y.zeroed ≡ x.zeroed
  pub commits : y.commits ≡ x.commits
  pub ended : y.ended ≡ x.ended
  pub fenced : y.fenced ≡ x.fenced

pub keeps_txn : (added : Added) (r : Record) (x : Txn) → KeepsTxn x (txn_behind added r x)
keeps_txn (an_update u) r x = record { number = refl; part = refl; words = refl; writes = refl; stored = refl; zeroed = refl; commits = refl; ended = refl; fenced = refl }
keeps_txn (a_deletion g) r x = record { number = refl; part = refl; words = refl; writes = refl; stored = refl; zeroed = refl; commits = refl; ended = refl; fenced = refl }
keeps_txn (a_rollback t) r x = record { number = refl; part = refl; words = refl; writes = refl; stored = refl; zeroed = refl; commits = refl; ended = refl; fenced = refl }
keeps_txn (a_compensation u cell) r x = record { number = refl; part = refl; words = refl; writes = refl; stored = refl; zeroed = refl; commits = refl; ended = refl; fenced = refl }
keeps_txn (an_undone_end t) r x = record { number = refl; part = refl; words = refl; writes = refl; stored = refl; zeroed = refl; commits = refl; ended = refl; fenced = refl }
keeps_txn (a_commit_end t) r x = record { number = refl; part = refl; words = refl; writes = refl; stored = refl; zeroed = refl; commits = refl; ended = refl; fenced = refl }

no_more_gates : (here : Bool) (t : Bool) → t ≡ false → ◌≡◌ {A = ℕ} (if here && t then 1 else 0) 0
no_more_gates true t off = subst (λ (k : Bool). ◌≡◌ {A = ℕ} (if k then 1 else 0) 0) (sym off) refl
no_more_gates false t off = refl

and_false : (b t : Bool) → t ≡ false → (b && t) ≡ false
and_false true t off = off
and_false false t off = refl

module _ (E : Type 0) (layout : Layout) (start : Words) (book : Book E) (keeper : LogKeeper) (region behind : Region) (spare left events made l : ℕ) (e : Event)
    (m : IsMade layout keeper region behind l e spare left events made) (st : IsStateOf layout start book keeper region spare events) (are : AreLeft layout keeper (l % layout.partitions) 1)
    (adding : Adding) (n : ℕ) (is : st.w.under (l % layout.partitions) ≡ appends adding n) where
  abbrev p : ℕ
  p = l % layout.partitions

  abbrev x : Txn
  x = txn_at st.w.lanes l

  abbrev pub y : Txn
  y = txn_behind adding.added (record_of_adding adding) (txn_at st.w.lanes l)

  abbrev pub base_there : Words
  base_there = base_behind (layout_shape layout) (l % layout.partitions) adding st.base

  abbrev pub state_there : State
  state_there = state_behind (layout_shape layout) (l % layout.partitions) adding st.base st.s

  abbrev pub chains_there : ℕ → List ℕ
  chains_there = with_chain (l % layout.partitions) (chain_behind adding.place (st.chains (l % layout.partitions))) st.chains

  abbrev pub settled : World
  settled = world_behind (layout_shape layout) (l % layout.partitions) adding st.w

  pub inside : l % layout.partitions < layout.partitions
  inside = going.inside E layout start book keeper region behind spare left events made l e m st

  held_is : st.w.keeping.holder p ≡ l
  held_is = going.held_is E layout start book keeper region behind spare left events made l e m st

  in_lanes : l < length st.w.lanes
  in_lanes = going.in_lanes E layout start book keeper region behind spare left events made l e m st

  pub left_is : (st.w.keeping.runs p).made + 1 ≡ length (plan_in (layout_shape layout) st.w.keeping p)
  left_is = left_there E layout book keeper st.s st.w st.tied (going.one_part E layout start book keeper region behind spare left events made l e m st) region behind l e spare left events made m 1 are

  pub part_is : (st.w.keeping.runs p).part ≡ adds adding.place (record_of_adding adding)
  part_is = ap (λ (run : Running). run.part) (going.run_is E layout start book keeper region behind spare left events made l e m st) ∙ ap (λ (u : UnderWay). (run_of u).part) is

  pub whole : n + 1 ≡ length (region_append (layout_shape layout) p adding.place (record_of_adding adding))
  whole = subst (λ (u : UnderWay). (run_of u).made + 1 ≡ length (plan_of (layout_shape layout) p (run_of u).part)) is
      (going.left_of E layout start book keeper region behind spare left events made l e m st 1 are)

  pub fits : IsAppendOf (layout_shape layout) st.s (fold start st.w.history) p (txn_at st.w.lanes l) adding n
  fits = subst (Fits (layout_shape layout) st.s (fold start st.w.history) p (txn_at st.w.lanes l)) is (going.fits_is E layout start book keeper region behind spare left events made l e m st)

  last : IsLastEvent (layout_shape layout) st.w.keeping p e (adds adding.place (record_of_adding adding))
  last = record { event = going.next E layout start book keeper region behind spare left events made l e m st; under_way = part_is; last = left_is }

  pub world_there : IsWorldAt (layout_shape layout) base_there state_there chains_there start settled behind
  world_there = subst (IsWorldAt (layout_shape layout) base_there state_there chains_there start settled)
      (sym (region_is E layout book keeper st.s st.w st.tied (going.one_part E layout start book keeper region behind spare left events made l e m st) region behind l e spare left events made m))
      (appends_settle (layout_shape layout) st.base st.s st.chains start st.w region p e adding n is (subst (λ (h : ℕ). h < length st.w.lanes) (sym held_is) in_lanes) last st.world)

  pub rests_there : (made_part (layout_shape layout) p st.w.keeping).runs p ≡ resting
  rests_there = made_ends (layout_shape layout) p st.w.keeping left_is

  pub holder_there : (q : ℕ) → (made_part (layout_shape layout) p st.w.keeping).holder q ≡ st.w.keeping.holder q
  holder_there q = made_holder (layout_shape layout) p st.w.keeping q

  pub lanes_there : settled.lanes ≡ with_txn l y st.w.lanes
  lanes_there = ap (λ (h : ℕ). with_txn h (txn_behind adding.added (record_of_adding adding) (txn_at st.w.lanes h)) st.w.lanes) held_is

  pub txn_there : txn_at settled.lanes l ≡ y
  txn_there = ap (λ (ls : List Txn). txn_at ls l) lanes_there ∙ with_here l y st.w.lanes in_lanes

  pub history_there : settled.history ≡ history_behind adding.added (txn_at st.w.lanes l) st.w.history
  history_there = ap (λ (h : ℕ). history_behind adding.added (txn_at st.w.lanes h) st.w.history) held_is

  pub newest_there : newest_log (made_part (layout_shape layout) p st.w.keeping).ledger ≡ newest_log st.w.keeping.ledger
  newest_there = newest_logs_made.settles (layout_shape layout) p st.w.keeping adding.place (record_of_adding adding) inside st.world.log.ordered.newest_first st.world.log.fits part_is left_is

  pub noted_there : (t : ℕ) (ends : Bool) → gates_in t ends (made_part (layout_shape layout) p st.w.keeping).ledger ≡ gates_in t ends st.w.keeping.ledger
  noted_there t ends = gates_settle (layout_shape layout) p st.w.keeping adding.place (record_of_adding adding) t ends part_is left_is

  -- the lane as it was, and what its book has of the record already
  pub was_here : IsLaneOf layout book.blocks st.s.log (newest_log st.w.keeping.ledger) (appends adding n) p (lane_at book l) (txn_at st.w.lanes l)
  was_here = subst (λ (u : UnderWay). IsLaneOf layout book.blocks st.s.log (newest_log st.w.keeping.ledger) u p (lane_at book l) (txn_at st.w.lanes l)) is
      (going.was_here E layout start book keeper region behind spare left events made l e m st)

  pub owed_here : Owes (layout_shape layout) p (length (gates_in (txn_at st.w.lanes l).number false st.w.keeping.ledger)) (length (st.chains p)) (appends adding n) (txn_at st.w.lanes l) keeper (lane_at book l)
  owed_here = subst (λ (u : UnderWay). Owes (layout_shape layout) p (length (gates_in (txn_at st.w.lanes l).number false st.w.keeping.ledger)) (length (st.chains p)) u (txn_at st.w.lanes l) keeper (lane_at book l)) is
      (going.owed_here E layout start book keeper region behind spare left events made l e m st)

  pub noticed_here : noticed (layout_shape layout) p (appends adding n) (txn_at st.w.lanes l) ≡ booked adding.added (record_of_adding adding) (txn_at st.w.lanes l)
  noticed_here = ap (λ (b : Bool). if b then booked adding.added (record_of_adding adding) (txn_at st.w.lanes l) else txn_at st.w.lanes l)
      (over_yes (region_append (layout_shape layout) p adding.place (record_of_adding adding)) (n + 1) (let w = whole in omega (arith, w)))

  -- what begins or is let go then
  module _ (v : World) (lanes : v.lanes ≡ settled.lanes) (holders : (q : ℕ) → q ≢ l % layout.partitions → v.keeping.holder q ≡ (made_part (layout_shape layout) (l % layout.partitions) st.w.keeping).holder q)
      (runs : (q : ℕ) → q ≢ l % layout.partitions → v.keeping.runs q ≡ (made_part (layout_shape layout) (l % layout.partitions) st.w.keeping).runs q)
      (unders : (q : ℕ) → q ≢ l % layout.partitions → v.under q ≡ settled.under q)
      (held : (k : ℕ) → k ≢ l → k < length st.w.lanes → v.keeping.holder (l % layout.partitions) ≢ k)
      (ledger : v.keeping.ledger ≡ (made_part (layout_shape layout) (l % layout.partitions) st.w.keeping).ledger) where
    pub changed : IsChangedIn (layout_shape layout) l st.w v
    changed = record {
      holders = λ q ne. holders q ne ∙ holder_there q;
      runs = λ q ne. runs q ne ∙ made_elsewhere (layout_shape layout) p st.w.keeping q ne;
      unders = λ q ne. unders q ne ∙ ap (λ (t : Bool). if t then nothing else st.w.under q) (test_other q p ne);
      before = λ k ne lt. going.off E layout start book keeper region behind spare left events made l e m st k ne;
      behind = held;
      count = ap length (lanes ∙ lanes_there) ∙ count_with l y st.w.lanes;
      others = λ k ne. ap (λ (ls : List Txn). txn_at ls k) (lanes ∙ lanes_there) ∙ with_other l k y st.w.lanes ne;
    }

    pub beside : IsBeside (layout_shape layout) l (txn_at st.w.lanes l).number st.s.log state_there.log st.chains chains_there st.w v
    beside = beside_changed (layout_shape layout) l (txn_at st.w.lanes l).number st.s.log state_there.log st.chains chains_there st.w v changed added
        (adds_same (txn_at st.w.lanes l).number (newest_log st.w.keeping.ledger) (newest_log v.keeping.ledger) (ap newest_log ledger ∙ newest_there))
        (takes_same (txn_at st.w.lanes l).number (newest_log st.w.keeping.ledger) (newest_log v.keeping.ledger) (ap newest_log ledger ∙ newest_there))
        (λ t ne. ap (gates_in t false) ledger ∙ noted_there t false)
        (λ q ne. ap (λ (t : Bool). if t then chain_behind adding.place (st.chains (l % layout.partitions)) else st.chains q) (test_other q p ne))
      where
        added : AddsOnlyOf (txn_at st.w.lanes l).number st.s.log state_there.log
        added q among = elim (inserted_out (record_of_adding adding) st.s.log q among) [
          | inl same ↦ inr (subst (IsOf (txn_at st.w.lanes l).number) (sym same) (fits.of, no_checkpoint adding.added))
          | inr was ↦ inl was
        ]

  -- the room
  pub roomy_there : (reserved : ℕ → ℕ) → ((q : ℕ) → reserved q ≤ reserved_for layout book q) → IsRoomy (layout_shape layout) behind reserved
  roomy_there reserved less = subst (λ (r : Region). IsRoomy (layout_shape layout) r reserved)
      (sym (region_is E layout book keeper st.s st.w st.tied (going.one_part E layout start book keeper region behind spare left events made l e m st) region behind l e spare left events made m))
      (parts_are_roomy (layout_shape layout) st.base st.s st.chains start st.w region (reserved_for layout book) reserved p e
      (going.next E layout start book keeper region behind spare left events made l e m st) st.world
      (λ q lt. (let none : taken_in (layout_shape layout) st.w.keeping p q ≡ 0 = no_more_gates (q == p) (stores_gate (layout_shape layout) st.w.keeping p) no_store in
      let fewer = less q in omega (arith, none, fewer))) st.roomy)
    where
      no_store : stores_gate (layout_shape layout) st.w.keeping p ≡ false
      no_store = and_false (is_append (st.w.keeping.runs p).part) ((st.w.keeping.runs p).made + 2 == length (plan_in (layout_shape layout) st.w.keeping p))
          (test_other ((st.w.keeping.runs p).made + 2) (length (plan_in (layout_shape layout) st.w.keeping p)) (λ same. (let w = left_is in omega (arith, w, same))))
