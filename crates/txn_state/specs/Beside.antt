-- What a step of one lane leaves of the others.
use Rattle.std.specs.Prelude.{◌≡◌, ◌≢◌, ◌⊎◌, ℕ, ◌+◌, ◌%◌, ◌<◌, ◌≤◌, false, length, List}
use Rattle.persist_model.specs.Records.{Log, Record, IsAmong, IsOf}
use Rattle.persist_model.specs.Shape.{Shape}
use Rattle.region_layout.specs.declared.layout.Layout.{Layout}
use Rattle.region_layout.specs.Layout.{layout_shape}
use Rattle.lane_book.specs.declared.book.Book.{Book}
use Rattle.lane_book.specs.declared.lane.Lane.{Lane}
use Rattle.lane_book.specs.FacesOf.{lane_at}
use Rattle.log_keeper.specs.declared.keeper.LogKeeper.{LogKeeper}
use Rattle.log_keeper.specs.Keeper.{KeepsSlots}
use Rattle.log_keeper.specs.Ledger.{newest_log}
use Rattle.log_keeper.specs.Listing.{gates_in}
use Rattle.txn_laws.specs.Txns.{txn_at}
use Rattle.txn_laws.specs.Rooms.{sum_below}
use Rattle.txn_laws.specs.Worlds.{World}
use Rattle.txn_state.specs.Ties.{under_of, IsLaneOf}
use Rattle.txn_state.specs.Owing.{OwesEnough}
use Rattle.txn_state.specs.Changes.{HasLane}

-- the records of another log that this one hasn't are of transaction t
abbrev pub AddsOnlyOf : ℕ → Log → Log → Type 0
AddsOnlyOf t log later = (r : Record) → IsAmong later r → IsAmong log r ⊎ IsOf t r

-- and those that it has and the other hasn't too
abbrev pub TakesOnlyOf : ℕ → Log → Log → Type 0
TakesOnlyOf t log later = (r : Record) → IsAmong log r → IsAmong later r ⊎ IsOf t r

-- Lane l made a step from w to v, t being its transaction: others have what they had under way, and their transactions; in the logs only records of t
-- come and go; and chains of other partitions stay.
pub record IsBeside (shape : Shape) (l t : ℕ) (log later : Log) (chains behind : ℕ → List ℕ) (w v : World) : Type 0 where
  pub count : length v.lanes ≡ length w.lanes
  pub others : (k : ℕ) → k ≢ l → txn_at v.lanes k ≡ txn_at w.lanes k
  pub under : (k : ℕ) → k ≢ l → k < length w.lanes → under_of shape v k ≡ under_of shape w k
  pub added : AddsOnlyOf t log later
  pub newest_added : AddsOnlyOf t (newest_log w.keeping.ledger) (newest_log v.keeping.ledger)
  pub newest_taken : TakesOnlyOf t (newest_log w.keeping.ledger) (newest_log v.keeping.ledger)
  pub noted : (u : ℕ) → u ≢ t → gates_in u false v.keeping.ledger ≡ gates_in u false w.keeping.ledger
  pub chains_stay : (p : ℕ) → p ≢ l % shape.partitions → behind p ≡ chains p
  pub alone : (k : ℕ) → k ≢ l → k < length w.lanes → k % shape.partitions ≡ l % shape.partitions → (w.keeping.holder (l % shape.partitions) ≢ k) ⊎ ((p : ℕ) → behind p ≡ chains p)

-- no other lane's transaction is t, or t is that of no lane
abbrev pub IsApart : World → ℕ → ℕ → Type 0
IsApart w l t = (k : ℕ) → k ≢ l → 1 ≤ (txn_at w.lanes k).number → (txn_at w.lanes k).number ≢ t

-- Then each other lane is as it was, and owes what it owed.
pub record LanesStay (E : Type 0) : Type 0 where
  pub tied : (layout : Layout) (book later : Book E) (l t : ℕ) (log after : Log) (chains behind : ℕ → List ℕ) (w v : World) (lane : Lane E) →
      IsBeside (layout_shape layout) l t log after chains behind w v → IsApart w l t → HasLane book later l lane → (k : ℕ) → k ≢ l → k < length w.lanes →
      IsLaneOf layout book.blocks log (newest_log w.keeping.ledger) (under_of (layout_shape layout) w k) (k % layout.partitions) (lane_at book k) (txn_at w.lanes k) →
      IsLaneOf layout later.blocks after (newest_log v.keeping.ledger) (under_of (layout_shape layout) v k) (k % layout.partitions) (lane_at later k) (txn_at v.lanes k)
  pub owing : (layout : Layout) (book later : Book E) (keeper kept : LogKeeper) (l t : ℕ) (log after : Log) (chains behind : ℕ → List ℕ) (w v : World) (lane : Lane E) →
      IsBeside (layout_shape layout) l t log after chains behind w v → IsApart w l t → HasLane book later l lane → KeepsSlots keeper.slots.items kept.slots.items →
      length keeper.slots.items ≡ layout.partitions → (k : ℕ) → k ≢ l → k < length w.lanes →
      IsLaneOf layout book.blocks log (newest_log w.keeping.ledger) (under_of (layout_shape layout) w k) (k % layout.partitions) (lane_at book k) (txn_at w.lanes k) →
      OwesEnough (layout_shape layout) chains book keeper w k → OwesEnough (layout_shape layout) behind later kept v k

-- A sum in which one summand is another.
abbrev pub SumsDiffer : Type 0
SumsDiffer = (f g : ℕ → ℕ) (l n : ℕ) → l < n → ((k : ℕ) → k ≢ l → f k ≡ g k) → sum_below f n + g l ≡ sum_below g n + f l
