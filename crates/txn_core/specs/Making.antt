-- An event of a lane on its own words.
use Rattle.std.specs.Prelude.{◌≡◌, ℕ, ◌==◌, if◌then◌else◌, Option, Some, None}
use Rattle.persist_model.specs.declared.event.Event.{Event}
use Rattle.persist_model.specs.Region.{Region}
use Rattle.lane_traits.specs.declared.device.Done.{Done}
use Rattle.lane_traits.specs.Device.{Counts}
use Rattle.lane_book.specs.declared.book.Book.{Book}
use Rattle.lane_book.specs.FacesOf.{lane_at}
use Rattle.lane_book.specs.Lanes.{with_lane, paid_event}
use Rattle.txn_state.specs.HeapLaws.{IsEvent}
use Rattle.txn_core.specs.Running.{HasStopped, one_made}

-- The device has stopped; or it made the event, for which the lane paid.
pub data Makes {E : Type 0} (e : Event) (region behind : Region) (counts after : Counts) (spare left : ℕ) (book later : Book E) (l : ℕ) : Done → Type 0 where
  stopped : HasStopped region behind counts after spare left → later ≡ book → Makes e region behind counts after spare left book later l Done.Stopped
  made : IsEvent region behind l e spare left counts.events after.events → after ≡ one_made counts →
      later ≡ with_lane book l (paid_event (lane_at book l)) book.touched → Makes e region behind counts after spare left book later l Done.Made

-- the word at this address, where it has another value behind a store
abbrev pub changed_word : ℕ → ℕ → ℕ → Option ℕ
changed_word before now a = if before == now then None else Some a
