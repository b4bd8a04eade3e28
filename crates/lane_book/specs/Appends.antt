-- What becomes of a lane when a record of its call is in the log, and what of the reserved cells.
use Rattle.std.specs.Prelude.{◌≡◌, ℕ, ◌+◌, ◌-◌, ◌*◌, ◌%◌, ◌≤◌, Bool, true, false, ◌==◌, if◌then◌else◌, List, [], ◌∷◌, ◌++◌, length, take}
use Rattle.lane_types.specs.declared.call.Call.{Call}
use Rattle.region_layout.specs.declared.cell.Cell.{Cell}
use Rattle.lane_book.specs.declared.lane.Lane.{Lane}
use Rattle.lane_book.specs.declared.lane.Doing.{Doing}
use Rattle.lane_book.specs.declared.book.Book.{Book}
use Rattle.lane_book.specs.Stocked.{with_items}
use Rattle.lane_book.specs.Lanes.{has_room}
use Rattle.lane_book.specs.Books.{ends}
use Rattle.lane_book.specs.Reserved.{reserved_in, needed_by}

-- ---- a lane

-- An update is appended: of its two cells one is used, and one is its undo's.
abbrev pub with_update : {E : Type 0} → Cell → Lane E → Lane E
with_update update lane = record lane {
  updates = with_items (lane.updates.items ++ update ∷ []) lane.updates;
  has_records = true;
  promised = lane.promised - 2;
}

-- A group of updates is appended, and so many cells more are let go.
abbrev pub with_group : {E : Type 0} → List Cell → ℕ → Lane E → Lane E
with_group updates spare lane = record lane {
  updates = with_items (lane.updates.items ++ updates) lane.updates;
  has_records = true;
  promised = lane.promised - (2 * length updates + spare);
}

-- a deletion is appended, whose gate stands at this address
abbrev pub with_deletion : {E : Type 0} → ℕ → Lane E → Lane E
with_deletion gate lane = record lane {
  gates = with_items (lane.gates.items ++ gate ∷ []) lane.gates;
  has_records = true;
  promised = lane.promised - 1;
}

abbrev pub with_rollback : {E : Type 0} → Lane E → Lane E
with_rollback lane = record lane { rolled = true }

-- The compensation of the last update is appended.
abbrev pub with_compensation : {E : Type 0} → Lane E → Lane E
with_compensation lane = record lane { updates = with_items (take (length lane.updates.items - 1) lane.updates.items) lane.updates }

abbrev pub with_end : {E : Type 0} → Lane E → Lane E
with_end lane = record lane { ended = true }

-- ---- what each asks

-- a call that writes one word
abbrev pub writes_one : Doing → Bool
writes_one (Doing.Write a v) = true
writes_one (Doing.Take s block) = true
writes_one _ = false

abbrev pub is_batch : Doing → Bool
is_batch (Doing.Batch n) = true
is_batch _ = false

abbrev pub gives_one : Doing → Bool
gives_one (Doing.Give block) = true
gives_one _ = false

-- a call that undoes updates
abbrev pub undoes : Doing → Bool
undoes Doing.Abort = true
undoes (Doing.RollbackTo n) = true
undoes _ = false

pub record CanUpdate {E : Type 0} (lane : Lane E) : Type 0 where
  pub call : writes_one lane.doing ≡ true
  pub cells : 2 ≤ lane.promised
  pub room : has_room 1 lane.updates

-- The group has an update at least, and with those let go no more cells than are promised.
pub record CanGroup {E : Type 0} (count spare : ℕ) (lane : Lane E) : Type 0 where
  pub call : is_batch lane.doing ≡ true
  pub some : 1 ≤ count
  pub cells : 2 * count + spare ≤ lane.promised
  pub room : has_room count lane.updates

pub record CanDelete {E : Type 0} (lane : Lane E) : Type 0 where
  pub call : gives_one lane.doing ≡ true
  pub cells : 1 ≤ lane.promised
  pub room : has_room 1 lane.gates

-- the transaction has a record, and its end isn't stored
pub record IsOpen {E : Type 0} (lane : Lane E) : Type 0 where
  pub records : lane.has_records ≡ true
  pub going : lane.ended ≡ false

pub record CanRollBack {E : Type 0} (lane : Lane E) : Type 0 where
  pub call : lane.doing ≡ Doing.Abort
  pub is_open : IsOpen lane
  pub first : lane.rolled ≡ false

-- an update stands
pub record CanCompensate {E : Type 0} (lane : Lane E) : Type 0 where
  pub call : undoes lane.doing ≡ true
  pub is_open : IsOpen lane
  pub some : 1 ≤ length lane.updates.items

pub record CanEnd {E : Type 0} (lane : Lane E) : Type 0 where
  pub call : ends lane.doing ≡ true
  pub is_open : IsOpen lane

-- ---- reserved cells

-- The reserved cells of the lane's partition fall by n, and those of the others stay.
abbrev pub Falls : {E : Type 0} → ℕ → Book E → Book E → ℕ → Type 0
Falls n book later l = (partitions kept p : ℕ) →
    reserved_in later partitions kept p + (if (l % partitions) == p then n else 0) ≡ reserved_in book partitions kept p

-- The reserved cells of the lane's partition are what the call needed before it, and those of the others stay.
abbrev pub ReservesNeed : {E : Type 0} → ℕ → Call E → Book E → Book E → ℕ → Type 0
ReservesNeed k call book later l = (partitions kept p : ℕ) →
    reserved_in later partitions kept p ≡ (if (l % partitions) == p then needed_by k book partitions kept l call else reserved_in book partitions kept p)
