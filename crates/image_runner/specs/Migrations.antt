-- What a migration of an image came to, each end with its cause, and what became of the device.
use Rattle.std.specs.Prelude.{◌≡◌, ◌⊎◌, ℕ, ◌+◌, ◌<◌, ◌≤◌, Bool, true, false, List, length, Option, Some, None, Result, Ok, Err}
use Rattle.persist_model.specs.ImageRules.{rule_number}
use Rattle.persist_model.specs.Region.{Region, AreSettled, newest_words, restarted}
use Rattle.persist_model.specs.Shape.{SECOND_MAGIC}
use Rattle.lane_traits.specs.Device.{Counts, counted, since_load, with_restart}
use Rattle.image_text.specs.declared.image.Image.{Image}
use Rattle.image_text.specs.Grammar.{IsTextOf, BreaksAt}
use Rattle.image_text.specs.Written.{image_text}
use Rattle.recovery_run.specs.Reached.{newest_at}
use Rattle.recovery_passes.specs.declared.recovering.RecoverFault.{RecoverFault}
use Rattle.recovery_passes.specs.declared.recovering.RecoverFault.TheVariants as fault
use Rattle.recovery_passes.specs.Recovered.{IsFinished}
use Rattle.migration.specs.Fits.{Fit}
use Rattle.migration.specs.Owed.{EachMigratesAs, AreFewInAll, own_events}
use Rattle.image_runner.specs.declared.runner.Ended.{Ended}
use Rattle.image_runner.specs.declared.runner.Ended.TheVariants as ended
use Rattle.image_runner.specs.declared.migrating.Stop.{Stop}
use Rattle.image_runner.specs.Ends.{words_of, AreStanding, IsAdmitted, IsRefusedBy, IsLoaded, IsImageOf}

-- ---- the device at the end

-- The device is settled and recovered, and of format 2 with the image's lines as its kinds. Its heap has the standing words of the
-- image.
pub record IsMigrated (i : Image) (region : Region) : Type 0 where
  pub standing : AreStanding (words_of i) (newest_at region)
  pub settled : AreSettled region
  pub finished : IsFinished region.size (newest_at region)
  pub format : newest_at region 0 ≡ SECOND_MAGIC
  pub fit : Fit (newest_at region) i.kinds
  pub each : EachMigratesAs i.kinds (words_of i) region

-- The image was admitted, and the device was migrated by so many events: no more than the image may take. Words that were
-- recovered already took those of the migration alone, and in format 2 they are as they were.
pub record WasMigrated (i : Image) (counts : Counts) (region_after : Region) (counts_after : Counts) : Type 0 where
  pub admitted : IsAdmitted i
  pub migrated : IsMigrated i region_after
  pub events : ℕ
  pub counted : counts_after ≡ record (since_load counts) { events = counts.events + events }
  pub few : AreFewInAll (words_of i) events
  pub again : IsFinished (length i.words) (words_of i) → events ≡ own_events (words_of i)
  pub same : IsFinished (length i.words) (words_of i) → words_of i 0 ≡ SECOND_MAGIC → newest_words region_after ≡ i.words

-- ---- a stop that was asked for

-- The migration came to its end; or the events are as many as the stop says, and they and one more are no more than it may take.
pub data HasComeTo (i : Image) (stop events : ℕ) (region : Region) : Type 0 where
  whole : IsMigrated i region → HasComeTo i stop events region
  stopped : events ≡ stop → AreFewInAll (words_of i) (events + 1) → HasComeTo i stop events region

-- The device is settled and has the image's own words, by no event.
pub record WasKept (i : Image) (events : ℕ) (region : Region) : Type 0 where
  pub settled : AreSettled region
  pub words : newest_words region ≡ i.words
  pub none : events ≡ 0

-- The image was admitted, and the migration was stopped behind so many events, or had come to its end before. Whatever the stop leaves
-- may be migrated in the image's place. Words of format 2 that were recovered already are as they were.
pub record WasStopped (i : Image) (stop : ℕ) (counts : Counts) (region_after : Region) (counts_after : Counts) : Type 0 where
  pub admitted : IsAdmitted i
  pub each : EachMigratesAs i.kinds (words_of i) region_after
  pub events : ℕ
  pub within : events ≤ stop
  pub few : AreFewInAll (words_of i) events
  pub far : HasComeTo i stop events region_after
  pub counted : counts_after ≡ record (since_load counts) { events = counts.events + events }
  pub kept : IsFinished (length i.words) (words_of i) → words_of i 0 ≡ SECOND_MAGIC → WasKept i events region_after

-- Behind the stop the device was restarted once, with the pick, and recovered no more.
pub record WasRestarted (i : Image) (stop : Stop) (counts : Counts) (region_after : Region) (counts_after : Counts) : Type 0 where
  pub left : Region
  pub counts_left : Counts
  pub before : WasStopped i stop.events counts left counts_left
  pub region : region_after ≡ restarted stop.pick left
  pub counted : counts_after ≡ with_restart stop.pick counts_left
  pub settled : AreSettled region_after
  pub each : EachMigratesAs i.kinds (words_of i) region_after
  pub far : HasComeTo i stop.events before.events region_after
  pub same : IsFinished (length i.words) (words_of i) → words_of i 0 ≡ SECOND_MAGIC → newest_words region_after ≡ i.words

-- ---- the ends

-- what became of the device where the image was migrated to its end, or up to this stop
abbrev pub IsBrought : Option Stop → Image → Counts → Region → Counts → Type 0
IsBrought None i counts region_after counts_after = WasMigrated i counts region_after counts_after
IsBrought (Some stop) i counts region_after counts_after = WasRestarted i stop counts region_after counts_after

-- the job was done, and this is the text of the device's words
pub record IsWritten (stop : Option Stop) (i : Image) (counts : Counts) (region_after : Region) (counts_after : Counts) (text : List ℕ) : Type 0 where
  pub brought : IsBrought stop i counts region_after counts_after
  pub told : IsImageOf i.kinds (newest_words region_after) text

-- The device stopped of itself, before as many events as were asked for: each of its images may be migrated in the image's place.
-- The image wasn't recovered already in format 2, and the events up to the stop and one more are no more than it may take.
pub record WasBrokenOff (stop : Option Stop) (i : Image) (counts : Counts) (region_after : Region) (counts_after : Counts) : Type 0 where
  pub admitted : IsAdmitted i
  pub each : EachMigratesAs i.kinds (words_of i) region_after
  pub counted : counts_after ≡ record (since_load counts) { events = counts.budget; stopped = counted counts.stopped }
  pub early : (n : ℕ) → counts.events + n ≡ counts.budget → AreFewInAll (words_of i) (n + 1)
  pub before : (s : Stop) → stop ≡ Some s → counts.budget < counts.events + s.events
  pub unfinished : IsFinished (length i.words) (words_of i) → words_of i 0 ≡ SECOND_MAGIC → ⊥

-- Memory ran out before the load, before the first event, or behind the last.
pub data IsShortOf (stop : Option Stop) (i : Image) (region : Region) (counts : Counts) (region_after : Region) (counts_after : Counts) : Type 0 where
  unloaded : region_after ≡ region → counts_after ≡ counts → IsShortOf stop i region counts region_after counts_after
  unmade : IsLoaded i counts region_after counts_after → IsShortOf stop i region counts region_after counts_after
  behind : IsBrought stop i counts region_after counts_after → IsShortOf stop i region counts region_after counts_after

-- what the migration of an image came to, to its end or up to a stop, and why
abbrev pub IsMigrationOfImage : Option Stop → Image → Region → Counts → Region → Counts → Ended → Type 0
IsMigrationOfImage stop i region counts region_after counts_after (ended.Misread line) = ⊥
IsMigrationOfImage stop i region counts region_after counts_after (ended.Unsound found) = IsRefusedBy i (rule_number found.rule) found.address × IsLoaded i counts region_after counts_after
IsMigrationOfImage stop i region counts region_after counts_after ended.Stopped = WasBrokenOff stop i counts region_after counts_after
IsMigrationOfImage stop i region counts region_after counts_after (ended.Broken root) = ⊥
IsMigrationOfImage stop i region counts region_after counts_after ended.NoMemory = IsShortOf stop i region counts region_after counts_after
IsMigrationOfImage stop i region counts region_after counts_after (ended.Done text) = IsWritten stop i counts region_after counts_after text

-- what that of a text came to, and why
abbrev pub IsMigrationOf : Option Stop → List ℕ → Region → Counts → Region → Counts → Ended → Type 0
IsMigrationOf stop text region counts region_after counts_after (ended.Misread line) = BreaksAt text line × (region_after ≡ region) × (counts_after ≡ counts)
IsMigrationOf stop text region counts region_after counts_after ended.NoMemory =
    ((region_after ≡ region) × (counts_after ≡ counts)) ⊎ ((i : Image) × IsTextOf text i × IsShortOf stop i region counts region_after counts_after)
IsMigrationOf stop text region counts region_after counts_after end = (i : Image) × IsTextOf text i × IsMigrationOfImage stop i region counts region_after counts_after end

-- ---- within the call

-- what a device came to that was loaded with an image and migrated
abbrev pub IsComing : Image → Region → Counts → Region → Counts → Result ℕ RecoverFault → Type 0
IsComing i region counts region_after counts_after (Ok events) = WasMigrated i counts region_after counts_after
IsComing i region counts region_after counts_after (Err (fault.Unsound found)) = IsRefusedBy i (rule_number found.rule) found.address × IsLoaded i counts region_after counts_after
IsComing i region counts region_after counts_after (Err fault.Stopped) = WasBrokenOff None i counts region_after counts_after
IsComing i region counts region_after counts_after (Err fault.NoMemory) = ((region_after ≡ region) × (counts_after ≡ counts)) ⊎ IsLoaded i counts region_after counts_after

-- why there is nothing to restart: a stop that was asked for is no fault
abbrev pub fault_of_cut : Result ℕ RecoverFault → Bool → Option RecoverFault
fault_of_cut (Ok events) used_up = None
fault_of_cut (Err fault.Stopped) true = None
fault_of_cut (Err fault.Stopped) false = Some fault.Stopped
fault_of_cut (Err (fault.Unsound found)) used_up = Some (fault.Unsound found)
fault_of_cut (Err fault.NoMemory) used_up = Some fault.NoMemory

-- what it came to up to a stop: nothing is to be told where it was stopped there, or had come to its end
abbrev pub IsComingTo : Stop → Image → Region → Counts → Region → Counts → Option RecoverFault → Type 0
IsComingTo stop i region counts region_after counts_after None = WasStopped i stop.events counts region_after counts_after
IsComingTo stop i region counts region_after counts_after (Some (fault.Unsound found)) = IsRefusedBy i (rule_number found.rule) found.address × IsLoaded i counts region_after counts_after
IsComingTo stop i region counts region_after counts_after (Some fault.Stopped) = WasBrokenOff (Some stop) i counts region_after counts_after
IsComingTo stop i region counts region_after counts_after (Some fault.NoMemory) = ((region_after ≡ region) × (counts_after ≡ counts)) ⊎ IsLoaded i counts region_after counts_after

abbrev pub end_of_migration : RecoverFault → Ended
end_of_migration (fault.Unsound found) = ended.Unsound found
end_of_migration fault.Stopped = ended.Stopped
end_of_migration fault.NoMemory = ended.NoMemory

-- ---- again

-- This image was migrated: migrating it makes no event, and this is its text.
pub record IsAtRest (i : Image) (text : List ℕ) : Type 0 where
  pub admitted : IsAdmitted i
  pub finished : IsFinished (length i.words) (words_of i)
  pub second : words_of i 0 ≡ SECOND_MAGIC
  pub text_is : text ≡ image_text i.kinds i.words

-- What a migration writes at its end says such an image.
abbrev pub WritesRest : Type 0
WritesRest = (i later : Image) (counts counts_after : Counts) (region_after : Region) (text : List ℕ) → IsWritten None i counts region_after counts_after text → IsTextOf text later
    → IsAtRest later text

-- Such an image is migrated by no event, and its text is written.
pub record IsLeft (counts counts_after : Counts) (text written : List ℕ) : Type 0 where
  pub unmade : counts_after ≡ since_load counts
  pub same : written ≡ text

abbrev pub RestStays : Type 0
RestStays = (i : Image) (text written : List ℕ) (counts counts_after : Counts) (region_after : Region) → IsAtRest i text → IsWritten None i counts region_after counts_after written
    → IsLeft counts counts_after text written
