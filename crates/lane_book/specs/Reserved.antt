-- The cells of the log that are reserved in a partition, and what a call needs there.
use Rattle.std.specs.Prelude.{ℕ, zero, suc, ◌+◌, ◌*◌, ◌%◌, Bool, not, ◌&&◌, ◌||◌, ◌==◌, if◌then◌else◌, length}
use Rattle.lane_types.specs.declared.call.Call.{Call}
use Rattle.lane_types.specs.Asks.{is_logged}
use Rattle.lane_book.specs.declared.lane.Lane.{Lane}
use Rattle.lane_book.specs.declared.book.Book.{Book}
use Rattle.lane_book.specs.FacesOf.{lane_at}

-- ---- of a lane

-- the transaction has a record or was promised one, and its end isn't stored
abbrev pub is_bound : {E : Type 0} → Lane E → Bool
is_bound lane = (lane.has_records || not (lane.promised == 0)) && not lane.ended

-- what takes the transaction back and ends it: a cell for each update that stands, one for the rollback record until it is
-- there, and one for the end
abbrev pub undo_cells : {E : Type 0} → Lane E → ℕ
undo_cells lane = length lane.updates.items + ((if lane.rolled then 0 else 1) + 1)

-- all are let go when the end's gate is stored
abbrev pub reserved_by : {E : Type 0} → Lane E → ℕ
reserved_by lane = lane.promised + (if is_bound lane then undo_cells lane else 0)

-- ---- of a partition

-- lane l appends to partition l mod P
abbrev pub share_of : {E : Type 0} → ℕ → ℕ → ℕ → Lane E → ℕ
share_of partitions p l lane = if (l % partitions) == p then reserved_by lane else 0

-- those of the first n lanes
abbrev pub reserved_below : {E : Type 0} → Book E → ℕ → ℕ → ℕ → ℕ
reserved_below book partitions p zero = 0
reserved_below book partitions p (suc n) = reserved_below book partitions p n + share_of partitions p n (lane_at book n)

-- so many are kept for checkpoints, in partition 0
abbrev pub kept_in : ℕ → ℕ → ℕ
kept_in kept p = if p == 0 then kept else 0

abbrev pub reserved_in : {E : Type 0} → Book E → ℕ → ℕ → ℕ → ℕ
reserved_in book partitions kept p = reserved_below book partitions p (length book.lanes.items) + kept_in kept p

-- ---- of a call, with buckets of k cells

-- the cells of its own records, and of what takes them back
abbrev pub promised_by : {E : Type 0} → ℕ → Call E → ℕ
promised_by k (Call.Begin set) = 0
promised_by k (Call.Read a) = 0
promised_by k (Call.Write a v) = 2
promised_by k (Call.Take s) = 2
promised_by k (Call.Give b) = 1
promised_by k (Call.Commit deed) = 0
promised_by k Call.Abort = 0
promised_by k Call.Checkpoint = 0
promised_by k (Call.Batch writes) = 2 * length writes + k
promised_by k Call.Savepoint = 0
promised_by k (Call.RollbackTo n) = 0

-- and 2 more where it appends the transaction's first record
abbrev pub added_by : {E : Type 0} → ℕ → Lane E → Call E → ℕ
added_by k lane call = if is_logged call then promised_by k call + (if is_bound lane then 0 else 2) else 0

-- what the call of lane l needs in its partition
abbrev pub needed_by : {E : Type 0} → ℕ → Book E → ℕ → ℕ → ℕ → Call E → ℕ
needed_by k book partitions kept l call = reserved_in book partitions kept (l % partitions) + added_by k (lane_at book l) call
