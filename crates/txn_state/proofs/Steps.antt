-- A step of one lane takes a state to a state.
use Rattle.std.proofs.Common.{◌≡◌, inl, inr, ℕ, zero, suc, ◌+◌, ◌*◌, ◌%◌, ◌<◌, ◌≤◌, ◌^◌, List, [], ◌∷◌, length, map, refl, sym, ap, ◌∙◌, subst, arith}
use Rattle.persist_model.specs.Region.{Words, Region}
use Rattle.persist_model.specs.Records.{Log}
use Rattle.persist_model.specs.Shape.{Shape}
use Rattle.persist_model.specs.State.{State}
use Rattle.region_layout.specs.declared.layout.Layout.{Layout}
use Rattle.region_layout.specs.Layout.{layout_shape}
use Rattle.lane_book.specs.declared.book.Book.{Book}
use Rattle.lane_book.specs.declared.lane.Lane.{Lane}
use Rattle.lane_book.specs.FacesOf.{lane_at}
use Rattle.lane_book.specs.Books.{IsBook}
use Rattle.log_keeper.specs.declared.keeper.LogKeeper.{LogKeeper}
use Rattle.log_keeper.specs.Keeper.{keeping_of, KeepsSlots, free_places}
use Rattle.log_keeper.specs.Ledger.{newest_log}
use Rattle.history_laws.specs.Histories.{Entry}
use Rattle.history_laws.specs.UnderWay.{UnderWay}
use Rattle.txn_laws.specs.Txns.{Txn, idle, txn_at, with_txn}
use Rattle.txn_laws.specs.Rooms.{IsRoomy, sum_below}
use Rattle.txn_laws.specs.Worlds.{World, with_lane, IsWorldAt}
use Rattle.txn_laws.proofs.Lanes.{with_here, with_other}
use Rattle.txn_state.specs.Ties.{plain_entry, under_of, IsLaneOf, AreHeld}
use Rattle.txn_state.specs.Owing.{OwesEnough}
use Rattle.txn_state.specs.Numbers.{unpaid, pending, IsNumbered}
use Rattle.txn_state.specs.States.{AreEntries, reserved_for, IsStateOf}
use Rattle.txn_state.specs.Changes.{HasLane}
use Rattle.txn_state.specs.Beside.{IsBeside, IsApart}
use Rattle.txn_state.proofs.Lanes.{by_lane, by_number, lane_sum_same, world_book}
use Rattle.txn_state.proofs.Staying.{lanes_stay}

-- ---- the numbers

-- The lane drew no transaction's number; and what the events and the records' numbers come to is given.
pub numbers_stay : {E : Type 0} (partitions : ℕ) (book later : Book E) (l : ℕ) (lane : Lane E) (w v : World) (events made : ℕ) → HasLane book later l lane → later.next_transaction ≡ book.next_transaction →
    lane.begun ≡ (lane_at book l).begun → lane.commits + pending lane ≤ lane.begun → 10 * v.next ≤ made + (10 + sum_below (λ p. unpaid (v.under p)) partitions) →
    IsNumbered partitions book w events → IsNumbered partitions later v made
numbers_stay partitions book later l lane w v events made has next begun commits records was = record {
  records = records;
  transactions = subst (λ n. n ≤ 1 + sum_below (λ k. (lane_at later k).begun) (length later.lanes.items)) (sym next)
      (subst (λ n. book.next_transaction ≤ 1 + n) (sym (lane_sum_same (λ x. x.begun) book later l lane has begun)) was.transactions);
  some = subst (λ n. 1 ≤ n) (sym next) was.some;
  begun = by_lane (λ k x. x.begun ≤ 2 ^ 59) book later l lane has (subst (λ n. n ≤ 2 ^ 59) (sym begun) (was.begun l)) (λ k ne. was.begun k);
  commits = by_lane (λ k x. x.commits + pending x ≤ x.begun) book later l lane has commits (λ k ne. was.commits k);
}

-- ---- the step

-- What a law shows of its step, in which lane l becomes this lane, beside what it says of the lane in particular.
pub record GoesOn {E : Type 0} (layout : Layout) (start : Words) (book later : Book E) (keeper kept : LogKeeper) (behind : Region) (left made l t : ℕ) (lane : Lane E) (w : World) (log : Log)
    (chains : ℕ → List ℕ) : Type 0 where
  pub base : Words
  pub s : State
  pub others : ℕ → List ℕ
  pub v : World
  pub has : HasLane book later l lane
  pub is_book : IsBook later
  pub entries : AreEntries later
  pub world : IsWorldAt (layout_shape layout) base s others start v behind
  pub roomy : IsRoomy (layout_shape layout) behind (reserved_for layout later)
  pub beside : IsBeside (layout_shape layout) l t log s.log chains others w v
  pub apart : IsApart w l t
  pub keeping : v.keeping ≡ keeping_of kept
  pub next : v.next ≡ kept.next_lsn
  pub slots : KeepsSlots keeper.slots.items kept.slots.items
  pub history : v.history ≡ map plain_entry later.history.items
  pub held : AreHeld (layout_shape layout) v
  pub own : IsLaneOf layout later.blocks s.log (newest_log v.keeping.ledger) (under_of (layout_shape layout) v l) (l % layout.partitions) lane (txn_at v.lanes l)
  pub owes : OwesEnough (layout_shape layout) others later kept v l
  pub stores : sum_below (λ k. (lane_at later k).owed_events) (length later.lanes.items) ≤ left
  pub places : sum_below (λ k. (lane_at later k).owed_records) (length later.lanes.items) ≤ free_places kept
  pub fresh : (txn_at v.lanes l).number < later.next_transaction
  pub risen : book.next_transaction ≤ later.next_transaction
  pub numbered : IsNumbered layout.partitions later v made

-- All else stays, so it is a state again.
pub goes_on : {E : Type 0} (layout : Layout) (start : Words) (book later : Book E) (keeper kept : LogKeeper) (region behind : Region) (spare left events made l t : ℕ) (lane : Lane E) →
    (state : IsStateOf layout start book keeper region spare events) → 1 ≤ kept.next_lsn → GoesOn layout start book later keeper kept behind left made l t lane state.w state.s.log state.chains →
    IsStateOf layout start later kept behind left made
goes_on {E} layout start book later keeper kept region behind spare left events made l t lane state opens g = record {
  base = g.base;
  s = g.s;
  chains = g.others;
  w = g.v;
  world = g.world;
  roomy = g.roomy;
  tied = record {
    keeping = g.keeping;
    next = g.next;
    slots = g.slots.count ∙ state.tied.slots;
    lanes = g.beside.count ∙ (state.tied.lanes ∙ sym g.has.count);
    history = g.history;
    held = g.held;
    each = by_number (λ k. k < length g.v.lanes → IsLaneOf layout later.blocks g.s.log (newest_log g.v.keeping.ledger) (under_of (layout_shape layout) g.v k) (k % layout.partitions) (lane_at later k) (txn_at g.v.lanes k)) l
        (λ lt. subst (λ x. IsLaneOf layout later.blocks g.s.log (newest_log g.v.keeping.ledger) (under_of (layout_shape layout) g.v l) (l % layout.partitions) x (txn_at g.v.lanes l)) (sym g.has.here) g.own)
        (λ k ne lt. lanes_stay.tied layout book later l t state.s.log g.s.log state.chains g.others state.w g.v lane g.beside g.apart g.has k ne (within k lt) (state.tied.each k (within k lt)));
    fresh = by_number (λ k. (txn_at g.v.lanes k).number < later.next_transaction) l g.fresh (λ k ne. (let was = state.tied.fresh k in let more = g.risen in
        let same : (txn_at g.v.lanes k).number ≡ (txn_at state.w.lanes k).number = ap (λ (x : Txn). x.number) (g.beside.others k ne) in omega (arith, was, more, same)));
  };
  owing = record {
    each = λ k lt. by_number (λ k. k < length book.lanes.items → OwesEnough (layout_shape layout) g.others later kept g.v k) l (λ lt. g.owes)
        (λ k ne lt. lanes_stay.owing layout book later keeper kept l t state.s.log g.s.log state.chains g.others state.w g.v lane g.beside g.apart g.has g.slots state.tied.slots k ne (counted k lt)
        (state.tied.each k (counted k lt)) (state.owing.each k lt)) k (subst (λ n. k < n) g.has.count lt);
    stores = g.stores;
    places = g.places;
  };
  numbered = g.numbered;
  opens = opens;
  is_book = world_book layout book later l lane g.has g.is_book g.entries state.is_book;
}
  where
    within : (k : ℕ) → k < length g.v.lanes → k < length state.w.lanes
    within k lt = subst (λ n. k < n) g.beside.count lt

    counted : (k : ℕ) → k < length book.lanes.items → k < length state.w.lanes
    counted k lt = subst (λ n. k < n) (sym state.tied.lanes) lt

-- ---- another transaction of the lane, and nothing else of the world

pub count_with : (l : ℕ) (y : Txn) (lanes : List Txn) → length (with_txn l y lanes) ≡ length lanes
count_with l y [] = refl
count_with zero y (x ∷ lanes) = refl
count_with (suc l) y (x ∷ lanes) = let e = count_with l y lanes in omega (arith, e)

pub beside_with : (shape : Shape) (l t : ℕ) (log : Log) (chains : ℕ → List ℕ) (w : World) (y : Txn) → IsBeside shape l t log log chains chains w (with_lane l y w)
beside_with shape l t log chains w y = record {
  count = count_with l y w.lanes;
  others = λ k ne. with_other l k y w.lanes ne;
  under = λ k ne lt. refl;
  added = λ r m. inl m;
  newest_added = λ r m. inl m;
  newest_taken = λ r m. inl m;
  noted = λ u ne. refl;
  chains_stay = λ p ne. refl;
  alone = λ k ne lt same. inr (λ p. refl);
}

-- the same world
pub beside_same : (shape : Shape) (l t : ℕ) (log : Log) (chains : ℕ → List ℕ) (w : World) → IsBeside shape l t log log chains chains w w
beside_same shape l t log chains w = record {
  count = refl;
  others = λ k ne. refl;
  under = λ k ne lt. refl;
  added = λ r m. inl m;
  newest_added = λ r m. inl m;
  newest_taken = λ r m. inl m;
  noted = λ u ne. refl;
  chains_stay = λ p ne. refl;
  alone = λ k ne lt same. inr (λ p. refl);
}

pub held_with : (shape : Shape) (l : ℕ) (y : Txn) (w : World) → AreHeld shape w → AreHeld shape (with_lane l y w)
held_with shape l y w held = record {
  free = held.free;
  busy = held.busy;
  unfinished = held.unfinished;
  lane = λ p lt off. subst (λ n. w.keeping.holder p < n) (sym (count_with l y w.lanes)) (held.lane p lt off);
  here = held.here;
}

-- no two lanes have the number of lane l's transaction
pub apart_own : (shape : Shape) (base : Words) (s : State) (chains : ℕ → List ℕ) (start : Words) (w : World) (region : Region) (l : ℕ) → IsWorldAt shape base s chains start w region →
    IsApart w l (txn_at w.lanes l).number
apart_own shape base s chains start w region l world k ne one same = ne (world.transactions.apart k l one same)

-- ---- the lane's own facts there

-- past the last lane there is no transaction
pub txn_past : (lanes : List Txn) (k : ℕ) → length lanes ≤ k → txn_at lanes k ≡ idle
txn_past [] k le = refl
txn_past (x ∷ lanes) zero le = absurd (omega (arith, le))
txn_past (x ∷ lanes) (suc k) le = txn_past lanes k (omega (arith, le))

-- on the same blocks, with what it has under way as it was
pub own_with : {E : Type 0} (layout : Layout) (book later : Book E) (l : ℕ) (log : Log) (w : World) (u : UnderWay) (lane : Lane E) (y : Txn) → later.blocks ≡ book.blocks → l < length w.lanes →
    under_of (layout_shape layout) w l ≡ u → IsLaneOf layout book.blocks log (newest_log w.keeping.ledger) u (l % layout.partitions) lane y →
    IsLaneOf layout later.blocks log (newest_log w.keeping.ledger) (under_of (layout_shape layout) w l) (l % layout.partitions) lane (txn_at (with_txn l y w.lanes) l)
own_with layout book later l log w u lane y blocks lt under of =
    subst (λ bs. IsLaneOf layout bs log (newest_log w.keeping.ledger) (under_of (layout_shape layout) w l) (l % layout.partitions) lane (txn_at (with_txn l y w.lanes) l)) (sym blocks)
    (subst (λ u. IsLaneOf layout book.blocks log (newest_log w.keeping.ledger) u (l % layout.partitions) lane (txn_at (with_txn l y w.lanes) l)) (sym under)
    (subst (λ x. IsLaneOf layout book.blocks log (newest_log w.keeping.ledger) u (l % layout.partitions) lane x) (sym (with_here l y w.lanes lt)) of))

-- its history doesn't matter for that
pub beside_history : (shape : Shape) (l t : ℕ) (log : Log) (chains : ℕ → List ℕ) (w : World) (y : Txn) (history : List Entry) →
    IsBeside shape l t log log chains chains w (record (with_lane l y w) { history = history })
beside_history shape l t log chains w y history = record {
  count = count_with l y w.lanes;
  others = λ k ne. with_other l k y w.lanes ne;
  under = λ k ne lt. refl;
  added = λ r m. inl m;
  newest_added = λ r m. inl m;
  newest_taken = λ r m. inl m;
  noted = λ u ne. refl;
  chains_stay = λ p ne. refl;
  alone = λ k ne lt same. inr (λ p. refl);
}

pub held_history : (shape : Shape) (l : ℕ) (y : Txn) (w : World) (history : List Entry) → AreHeld shape w → AreHeld shape (record (with_lane l y w) { history = history })
held_history shape l y w history held = record {
  free = held.free;
  busy = held.busy;
  unfinished = held.unfinished;
  lane = λ p lt off. subst (λ n. w.keeping.holder p < n) (sym (count_with l y w.lanes)) (held.lane p lt off);
  here = held.here;
}
