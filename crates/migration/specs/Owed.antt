-- What a migration owes at its end and at a stop: of the device's words and counts before and after it.
use Rattle.std.specs.Prelude.{◌≡◌, ℕ, ◌+◌, ◌<◌, ◌≤◌, ◌==◌, if◌then◌else◌, List, length, take, slice_index}
use Rattle.persist_model.specs.declared.event.Event.{Event}
use Rattle.persist_model.specs.Region.{Words, Region, IsImage, AreSettled}
use Rattle.persist_model.specs.Shape.{FIRST_MAGIC, SECOND_MAGIC, shape_of}
use Rattle.persist_model.specs.Sound.{HasState, IsSound}
use Rattle.persist_model.specs.State.{State}
use Rattle.lane_traits.specs.Device.{Counts, counted}
use Rattle.lane_traits.specs.declared.device.Done.TheVariants.{Stopped}
use Rattle.log_laws.specs.Parts.{after_plan}
use Rattle.log_laws.specs.Recovering.{RECOVERY_LANE}
use Rattle.region_layout.specs.declared.layout.Kind.{Kind}
use Rattle.recovery_run.specs.Edges.{counts_with}
use Rattle.recovery_run.specs.Reached.{newest_at}
use Rattle.recovery_passes.specs.Recovered.{IsFinished, Restores, StandsAsIn, HasNeed, most_events}
use Rattle.migration.specs.Fits.{Fit}
use Rattle.migration.specs.Plan.{IsReserved, reserved_word}
use Rattle.migration.specs.Migrated.{in_format}

-- ---- what is left

-- These words may be migrated in the place of w, with the same kinds: they are sound and have the same standing words, their shape
-- is the same but for the format, and the kinds fit.
pub record MigratesAs (kinds : List Kind) (w : Words) (size : ℕ) (i : Words) : Type 0 where
  pub sound : IsSound size i
  pub standing : StandsAsIn w i
  pub shape : in_format 2 (shape_of i) ≡ in_format 2 (shape_of w)
  pub fit : Fit i kinds

-- so may each image of the region
abbrev pub EachMigratesAs : List Kind → Words → Region → Type 0
EachMigratesAs kinds w region = (words : List ℕ) → IsImage words region → MigratesAs kinds w (length words) (slice_index words)

-- ---- the events

-- how many events make format 2 of these words, once they are recovered
abbrev pub own_events : Words → ℕ
own_events w = if w 0 == SECOND_MAGIC then 0 else 24

-- so many events are within what the migration of w may take
abbrev pub AreFewInAll : Words → ℕ → Type 0
AreFewInAll w events = (s : State) (n : ℕ) → HasState (shape_of w) w s → HasNeed (shape_of w) s n →
    events ≤ most_events (shape_of w) (length s.log) n + own_events w

-- The plan was stopped at one of its events, which the device's budget explains.
pub record HasStoppedAt (plan : List Event) (before : Region) (counts : Counts) (after : Region) (counts_after : Counts) : Type 0 where
  pub made : ℕ
  pub early : made < length plan
  pub cells : after ≡ after_plan RECOVERY_LANE before (take made plan)
  pub counted : counts_after ≡ counts_with counts made Stopped
  pub cause : counts.events + made ≡ counts.budget

-- ---- the ends

-- The words were sound. They are settled, recovered, and of format 2, with these kinds; each heap word has its standing value. The
-- events are counted and few. Words that were recovered already took those of the plan alone, and in format 2 they are as they were.
pub record HasMigrated (kinds : List Kind) (before : Region) (counts : Counts) (after : Region) (counts_after : Counts) (events : ℕ) : Type 0 where
  pub sound : IsSound before.size (newest_at before)
  pub settled : AreSettled after
  pub finished : IsFinished after.size (newest_at after)
  pub format : newest_at after 0 ≡ SECOND_MAGIC
  pub fit : Fit (newest_at after) kinds
  pub reserved : newest_at before 0 ≡ FIRST_MAGIC → (a : ℕ) → IsReserved a → newest_at after a ≡ reserved_word kinds a
  pub restored : Restores (newest_at before) (newest_at after)
  pub each : EachMigratesAs kinds (newest_at before) after
  pub counted : counts_after ≡ record counts { events = counts.events + events }
  pub few : AreFewInAll (newest_at before) events
  pub again : IsFinished before.size (newest_at before) → events ≡ own_events (newest_at before)
  pub same : IsFinished before.size (newest_at before) → newest_at before 0 ≡ SECOND_MAGIC → after ≡ before

-- The device stopped: the words were sound, and each image may be migrated in their place. They weren't recovered already in format 2, and the
-- events up to the stop and one more are no more than a migration may take.
pub record HasBrokenOff (kinds : List Kind) (before : Region) (counts : Counts) (after : Region) (counts_after : Counts) : Type 0 where
  pub sound : IsSound before.size (newest_at before)
  pub each : EachMigratesAs kinds (newest_at before) after
  pub stopped : counts_after ≡ record counts { events = counts.budget; stopped = counted counts.stopped }
  pub early : (n : ℕ) → counts.events + n ≡ counts.budget → AreFewInAll (newest_at before) (n + 1)
  pub unfinished : IsFinished before.size (newest_at before) → newest_at before 0 ≡ SECOND_MAGIC → ⊥
