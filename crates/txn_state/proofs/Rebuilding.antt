-- A state from its parts, behind a step of one lane.
use Rattle.std.proofs.Common.{◌≡◌, ◌≢◌, ℕ, ◌+◌, ◌*◌, ◌%◌, ◌<◌, ◌≤◌, List, length, map, sym, ap, subst, arith}
use Rattle.persist_model.specs.Region.{Words, Region}
use Rattle.persist_model.specs.Shape.{Shape}
use Rattle.persist_model.specs.State.{State}
use Rattle.region_layout.specs.declared.layout.Layout.{Layout}
use Rattle.region_layout.specs.Layout.{layout_shape}
use Rattle.lane_book.specs.declared.book.Book.{Book}
use Rattle.lane_book.specs.declared.lane.Lane.{Lane}
use Rattle.lane_book.specs.FacesOf.{lane_at}
use Rattle.log_keeper.specs.declared.keeper.LogKeeper.{LogKeeper}
use Rattle.log_keeper.specs.Keeper.{keeping_of, free_places, KeepsSlots, HasRoomIn}
use Rattle.log_keeper.specs.Ledger.{newest_log}
use Rattle.history_laws.specs.UnderWay.{UnderWay}
use Rattle.txn_laws.specs.Txns.{Txn, txn_at}
use Rattle.txn_laws.specs.Rooms.{IsRoomy, sum_below}
use Rattle.txn_laws.specs.Worlds.{World, IsWorldAt}
use Rattle.txn_state.specs.Stages.{stage_of}
use Rattle.txn_state.specs.Ties.{under_of, plain_entry, AreHeld, IsLaneOf}
use Rattle.txn_state.specs.Owing.{needs_at, records_noted, OwesEnough}
use Rattle.txn_state.specs.Numbers.{unpaid, pending, IsNumbered}
use Rattle.txn_state.specs.States.{IsWorldBook, IsStateOf, reserved_for}
use Rattle.txn_state.specs.Changes.{HasLane}
use Rattle.txn_state.specs.Beside.{IsBeside, IsApart}
use Rattle.txn_state.proofs.Sums.{sums_differ}
use Rattle.txn_state.proofs.Steps.{numbers_stay, goes_on}
use Rattle.txn_state.proofs.Lanes.{lane_sum}

-- ---- what is owed

-- the lane owes what its call may want
pub record Owes {E : Type 0} (shape : Shape) (p n c : ℕ) (u : UnderWay) (x : Txn) (keeper : LogKeeper) (lane : Lane E) : Type 0 where
  pub events : (needs_at shape p n c u x (stage_of lane)).events ≤ lane.owed_events
  pub records : (needs_at shape p n c u x (stage_of lane)).records ≤ lane.owed_records
  pub lists : HasRoomIn keeper.slots.items p (needs_at shape p n c u x (stage_of lane)).gates

pub owes_of : (E : Type 0) (shape : Shape) (chains : ℕ → List ℕ) (book : Book E) (keeper : LogKeeper) (w : World) (l : ℕ) (lane : Lane E) → lane_at book l ≡ lane →
    Owes shape (l % shape.partitions) (records_noted w (txn_at w.lanes l).number) (length (chains (l % shape.partitions))) (under_of shape w l) (txn_at w.lanes l) keeper lane →
    OwesEnough shape chains book keeper w l
owes_of E shape chains book keeper w l lane is owes = record { events = there.events; records = there.records; lists = there.lists }
  where
    there : Owes shape (l % shape.partitions) (records_noted w (txn_at w.lanes l).number) (length (chains (l % shape.partitions))) (under_of shape w l) (txn_at w.lanes l) keeper (lane_at book l)
    there = subst (λ (z : Lane E). Owes shape (l % shape.partitions) (records_noted w (txn_at w.lanes l).number) (length (chains (l % shape.partitions))) (under_of shape w l) (txn_at w.lanes l) keeper z)
        (sym is) owes

pub owes_here : (E : Type 0) (shape : Shape) (chains : ℕ → List ℕ) (book : Book E) (keeper : LogKeeper) (w : World) (l : ℕ) → OwesEnough shape chains book keeper w l →
    Owes shape (l % shape.partitions) (records_noted w (txn_at w.lanes l).number) (length (chains (l % shape.partitions))) (under_of shape w l) (txn_at w.lanes l) keeper (lane_at book l)
owes_here E shape chains book keeper w l owes = record { events = owes.events; records = owes.records; lists = owes.lists }

-- an event is paid
pub events_paid : (E : Type 0) (book later : Book E) (l spare left : ℕ) (lane : Lane E) → HasLane book later l lane → lane.owed_events + 1 ≡ (lane_at book l).owed_events →
    spare ≤ left + 1 → sum_below (λ k. (lane_at book k).owed_events) (length book.lanes.items) ≤ spare →
    sum_below (λ k. (lane_at later k).owed_events) (length later.lanes.items) ≤ left
events_paid E book later l spare left lane has paid places stores = let sum = lane_sum (λ (z : Lane E). z.owed_events) book later l lane has in omega (arith, sum, paid, places, stores)

-- as many records are owed
pub records_owed : (E : Type 0) (book later : Book E) (l places left : ℕ) (lane : Lane E) → HasLane book later l lane → lane.owed_records ≡ (lane_at book l).owed_records →
    places ≤ left → sum_below (λ k. (lane_at book k).owed_records) (length book.lanes.items) ≤ places →
    sum_below (λ k. (lane_at later k).owed_records) (length later.lanes.items) ≤ left
records_owed E book later l places left lane has same le old = let sum = lane_sum (λ (z : Lane E). z.owed_records) book later l lane has in omega (arith, sum, same, le, old)

-- ---- numbers

-- what is not made yet of the appends under way changes in one partition
pub unpaid_sum : (partitions p : ℕ) (w v : World) → p < partitions → ((q : ℕ) → q ≢ p → v.under q ≡ w.under q) →
    sum_below (λ q. unpaid (v.under q)) partitions + unpaid (w.under p) ≡ sum_below (λ q. unpaid (w.under q)) partitions + unpaid (v.under p)
unpaid_sum partitions p w v inside same = sums_differ (λ q. unpaid (v.under q)) (λ q. unpaid (w.under q)) p partitions inside (λ q ne. ap unpaid (same q ne))

pub numbered_there : (E : Type 0) (partitions : ℕ) (book later : Book E) (w v : World) (events made l : ℕ) (lane : Lane E) → HasLane book later l lane →
    later.next_transaction ≡ book.next_transaction → lane.begun ≡ (lane_at book l).begun → lane.commits + pending lane ≤ (lane_at book l).commits + pending (lane_at book l) →
    10 * v.next ≤ made + (10 + sum_below (λ q. unpaid (v.under q)) partitions) → IsNumbered partitions book w events → IsNumbered partitions later v made
numbered_there E partitions book later w v events made l lane has next begun commits records was =
    numbers_stay partitions book later l lane w v events made has next begun (let old = was.commits l in omega (arith, old, commits, begun)) records was

-- ---- the state

-- What is rebuilt behind a step of lane l, whose book becomes this lane.
pub record IsRebuilt (E : Type 0) (layout : Layout) (start : Words) (book later : Book E) (keeper kept : LogKeeper) (behind : Region) (left made l t : ℕ) (lane : Lane E)
    (base : Words) (s after : State) (chains chains_behind : ℕ → List ℕ) (w v : World) : Type 0 where
  pub world : IsWorldAt (layout_shape layout) base after chains_behind start v behind
  pub roomy : IsRoomy (layout_shape layout) behind (reserved_for layout later)
  pub beside : IsBeside (layout_shape layout) l t s.log after.log chains chains_behind w v
  pub apart : IsApart w l t
  pub lanes : HasLane book later l lane
  pub keeping : v.keeping ≡ keeping_of kept
  pub next : v.next ≡ kept.next_lsn
  pub slots : KeepsSlots keeper.slots.items kept.slots.items
  pub history : v.history ≡ map plain_entry later.history.items
  pub held : AreHeld (layout_shape layout) v
  pub own : IsLaneOf layout book.blocks after.log (newest_log v.keeping.ledger) (under_of (layout_shape layout) v l) (l % layout.partitions) lane (txn_at v.lanes l)
  pub fresh : (txn_at v.lanes l).number < later.next_transaction
  pub no_less : book.next_transaction ≤ later.next_transaction
  pub owes : Owes (layout_shape layout) (l % layout.partitions) (records_noted v (txn_at v.lanes l).number) (length (chains_behind (l % layout.partitions))) (under_of (layout_shape layout) v l)
      (txn_at v.lanes l) kept lane
  pub stores : sum_below (λ k. (lane_at later k).owed_events) (length later.lanes.items) ≤ left
  pub places : sum_below (λ k. (lane_at later k).owed_records) (length later.lanes.items) ≤ free_places kept
  pub numbered : IsNumbered layout.partitions later v made
  pub opens : 1 ≤ kept.next_lsn
  pub is_book : IsWorldBook layout later

pub rebuilt : (E : Type 0) (layout : Layout) (start : Words) (book later : Book E) (keeper kept : LogKeeper) (region behind : Region) (spare left events made l t : ℕ) (lane : Lane E) (base : Words)
    (after : State) (chains_behind : ℕ → List ℕ) (v : World) (state : IsStateOf layout start book keeper region spare events) →
    IsRebuilt E layout start book later keeper kept behind left made l t lane base state.s after state.chains chains_behind state.w v → IsStateOf layout start later kept behind left made
rebuilt E layout start book later keeper kept region behind spare left events made l t lane base after chains_behind v state r =
    goes_on layout start book later keeper kept region behind spare left events made l t lane state r.opens (record {
      base = base;
      s = after;
      others = chains_behind;
      v = v;
      has = r.lanes;
      is_book = r.is_book.kept;
      entries = r.is_book.entries;
      world = r.world;
      roomy = r.roomy;
      beside = r.beside;
      apart = r.apart;
      keeping = r.keeping;
      next = r.next;
      slots = r.slots;
      history = r.history;
      held = r.held;
      own = subst (λ blocks. IsLaneOf layout blocks after.log (newest_log v.keeping.ledger) (under_of (layout_shape layout) v l) (l % layout.partitions) lane (txn_at v.lanes l))
          (sym r.lanes.blocks) r.own;
      owes = owes_of E (layout_shape layout) chains_behind later kept v l lane r.lanes.here r.owes;
      stores = r.stores;
      places = r.places;
      fresh = r.fresh;
      risen = r.no_less;
      numbered = r.numbered;
    })
