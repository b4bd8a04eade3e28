-- What one step of a lane's part of the log makes of device, keeper and book.
use Rattle.std.specs.Prelude.{◌≡◌, ℕ, ◌+◌, ◌%◌, true, false, Bool, ◌&&◌, Option, Some, None}
use Rattle.persist_model.specs.declared.event.Event.{Event}
use Rattle.persist_model.specs.Region.{Region}
use Rattle.region_layout.specs.declared.cell.Cell.{Cell}
use Rattle.region_layout.specs.declared.layout.Layout.{Layout}
use Rattle.region_layout.specs.Cell.{record_of}
use Rattle.region_layout.specs.Layout.{layout_shape}
use Rattle.bucket_log.specs.declared.append.Place.{Place}
use Rattle.bucket_log.specs.Plans.{place_address}
use Rattle.lane_traits.specs.Device.{Counts, counted}
use Rattle.lane_book.specs.declared.book.Book.{Book}
use Rattle.lane_book.specs.FacesOf.{lane_at}
use Rattle.lane_book.specs.Lanes.{with_lane, paid_event}
use Rattle.log_keeper.specs.declared.keeper.LogKeeper.{LogKeeper}
use Rattle.log_keeper.specs.Parts.{appends}
use Rattle.log_keeper.specs.Keeper.{keeping_of}
use Rattle.log_keeper.specs.Logged.{plan_in}
use Rattle.log_keeper.specs.Making.{is_over}
use Rattle.txn_laws.specs.Rooms.{stores_gate, is_append}
use Rattle.txn_state.specs.Changes.{IsKept}
use Rattle.txn_state.specs.AppendLaws.{IsMade, AreLeft, made_in}
use Rattle.txn_core.specs.declared.running.Ran.{Ran}

-- The device has stopped, which it counts, and nothing else is another.
pub record HasStopped (region later : Region) (counts after : Counts) (spare left : ℕ) : Type 0 where
  pub region_stays : later ≡ region
  pub at_budget : counts.events ≡ counts.budget
  pub counted_it : after ≡ record counts { stopped = counted counts.stopped }
  pub spare_stays : left ≡ spare

-- the device has made an event
abbrev pub one_made : Counts → Counts
one_made counts = record counts { events = counts.events + 1 }

-- The next event of lane l's part: the device has stopped; or it is made, and neither stores a gate nor is the last, or stores the gate of the record of
-- this cell, or is the part's last.
pub data Runs (layout : Layout) (keeper later : LogKeeper) (region behind : Region) (counts after : Counts) (l spare left : ℕ) : Ran → Type 0 where
  stopped : HasStopped region behind counts after spare left → later ≡ keeper → Runs layout keeper later region behind counts after l spare left Ran.Stopped
  going : (e : Event) (n : ℕ) → IsMade layout keeper region behind l e spare left counts.events after.events → after ≡ one_made counts →
      AreLeft layout keeper (l % layout.partitions) (n + 2) → stores_gate (layout_shape layout) (keeping_of keeper) (l % layout.partitions) ≡ false →
      IsKept keeper later (made_in layout keeper (l % layout.partitions)) → Runs layout keeper later region behind counts after l spare left Ran.Going
  stored : (e : Event) (place : Place) (c : Cell) → IsMade layout keeper region behind l e spare left counts.events after.events → after ≡ one_made counts →
      AreLeft layout keeper (l % layout.partitions) 2 → ((keeping_of keeper).runs (l % layout.partitions)).part ≡ appends place (record_of (place_address place) c) →
      IsKept keeper later (made_in layout keeper (l % layout.partitions)) → Runs layout keeper later region behind counts after l spare left (Ran.Stored c)
  whole : (e : Event) → IsMade layout keeper region behind l e spare left counts.events after.events → after ≡ one_made counts →
      AreLeft layout keeper (l % layout.partitions) 1 → IsKept keeper later (made_in layout keeper (l % layout.partitions)) →
      Runs layout keeper later region behind counts after l spare left Ran.Whole

-- The lane pays for an event that is made.
abbrev pub Pays : {E : Type 0} → Book E → Book E → ℕ → Ran → Type 0
Pays book later l Ran.Stopped = later ≡ book
Pays book later l Ran.Going = later ≡ with_lane book l (paid_event (lane_at book l)) book.touched
Pays book later l (Ran.Stored c) = later ≡ with_lane book l (paid_event (lane_at book l)) book.touched
Pays book later l Ran.Whole = later ≡ with_lane book l (paid_event (lane_at book l)) book.touched

-- an append of which no more than two events are left
abbrev pub stores_over : Layout → LogKeeper → ℕ → Bool
stores_over layout keeper p =
    is_append ((keeping_of keeper).runs p).part && is_over (plan_in (layout_shape layout) (keeping_of keeper) p) (((keeping_of keeper).runs p).made + 2)

-- the cell whose record's gate the next event stores, or none
abbrev pub IsStoredCell : Layout → LogKeeper → ℕ → Option Cell → Type 0
IsStoredCell layout keeper p None = stores_over layout keeper p ≡ false
IsStoredCell layout keeper p (Some c) = (is_over (plan_in (layout_shape layout) (keeping_of keeper) p) (((keeping_of keeper).runs p).made + 2) ≡ true)
    × (place : Place) × (((keeping_of keeper).runs p).part ≡ appends place (record_of (place_address place) c))
