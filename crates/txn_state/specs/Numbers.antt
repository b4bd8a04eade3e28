-- The numbers of a world: they stay far below what 64 bits have.
use Rattle.std.specs.Prelude.{ℕ, ◌+◌, ◌*◌, ◌-◌, ◌≤◌, ◌^◌, if◌then◌else◌, length, ◌==◌}
use Rattle.lane_book.specs.declared.book.Book.{Book}
use Rattle.lane_book.specs.declared.lane.Lane.{Lane}
use Rattle.lane_book.specs.FacesOf.{lane_at}
use Rattle.history_laws.specs.UnderWay.{UnderWay, nothing, appends, closes, takes_back, drops}
use Rattle.txn_laws.specs.Rooms.{sum_below}
use Rattle.txn_laws.specs.Worlds.{World}

-- an append has ten events at least: so many of them aren't made yet
abbrev pub unpaid : UnderWay → ℕ
unpaid nothing = 0
unpaid (appends adding made) = 10 - made
unpaid (closes gates ends made) = 0
unpaid (takes_back gates made) = 0
unpaid (drops r made) = 0

-- it has begun a transaction that hasn't joined the history
abbrev pub pending : {E : Type 0} → Lane E → ℕ
pending lane = if lane.entered then 0 else (if lane.transaction == 0 then 0 else 1)

-- Ten events of the device are made for each record's number, but for those of appends under way. A transaction's number is drawn at its begin, and
-- each commit is of a transaction that was begun.
pub record IsNumbered {E : Type 0} (partitions : ℕ) (book : Book E) (w : World) (events : ℕ) : Type 0 where
  pub records : 10 * w.next ≤ events + (10 + sum_below (λ p. unpaid (w.under p)) partitions)
  pub transactions : book.next_transaction ≤ 1 + sum_below (λ l. (lane_at book l).begun) (length book.lanes.items)
  pub some : 1 ≤ book.next_transaction
  pub begun : (l : ℕ) → (lane_at book l).begun ≤ 2 ^ 59
  pub commits : (l : ℕ) → (lane_at book l).commits + pending (lane_at book l) ≤ (lane_at book l).begun
