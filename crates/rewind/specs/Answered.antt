-- What a call of the program owes by its status: which one is due to the input, the cause of each, and what becomes of the device.
use Rattle.std.specs.Prelude.{◌≡◌, ◌≢◌, ◌⊎◌, ℕ, ◌+◌, ◌^◌, ◌≤◌, List, length, Option, Some}
use Rattle.persist_model.specs.Shape.{SECOND_MAGIC}
use Rattle.lane_traits.specs.Device.{since_load}
use Rattle.lane_traits.specs.Stream.{HasRisen}
use Rattle.image_text.specs.declared.image.Image.{Image}
use Rattle.image_text.specs.Grammar.{IsTextOf}
use Rattle.recovery_passes.specs.Recovered.{IsFinished}
use Rattle.migration.specs.Owed.{EachMigratesAs}
use Rattle.image_runner.specs.declared.runner.Wanted.{Wanted}
use Rattle.image_runner.specs.declared.runner.Wanted.TheVariants as want
use Rattle.image_runner.specs.declared.migrating.Stop.{Stop}
use Rattle.image_runner.specs.Ends.{words_of, IsAdmitted, EachRecoversAs}
use Rattle.rewind.specs.declared.script.Script.{Script}
use Rattle.rewind.specs.declared.status.Status.{Status}
use Rattle.rewind.specs.declared.status.Status.TheVariants as status
use Rattle.rewind.specs.declared.words.Job.{Job}
use Rattle.rewind.specs.declared.words.Job.TheVariants as job
use Rattle.rewind.specs.Words.{AreRun, AreKnown, AreWordsOf}
use Rattle.rewind.specs.Served.{script as script_of_text}
use Rattle.rewind.specs.Events.{event_count}
use Rattle.rewind.specs.Call.{Call, Written, HasRun}
use Rattle.rewind.specs.Causes.{IsLongInput, IsNoScript, IsNoImageText, IsUnsoundImage, HasMigratedTo}
use Rattle.rewind.specs.Due.{due as due_of, IsDue}

-- a read failed
abbrev pub ReadFailed : Call → Type 0
ReadFailed call = HasRisen call.faults call.faults_after

-- a write failed
abbrev pub WriteFailed : Written → Type 0
WriteFailed w = HasRisen w.faults w.faults_after

-- the device stopped
abbrev pub DeviceStopped : Call → Type 0
DeviceStopped call = HasRisen call.counts.stopped call.counts_after.stopped

pub record HasAnswered (call : Call) (answer : Status) (w : Written) : Type 0 where
  pub ran : HasRun call answer w
  -- Which status is due
  pub usage : answer ≡ status.Usage → ¬ (AreKnown call.words)
  pub misused : ¬ (AreKnown call.words) → ¬ (WriteFailed w) → (answer ≡ status.Usage) ⊎ (answer ≡ status.NoMemory)
  pub due : (bytes : List ℕ) → call.left ≡ Some bytes → AreRun call.words → ¬ (ReadFailed call) → ¬ (WriteFailed w) → ¬ (DeviceStopped call)
      → (answer ≡ due_of bytes) ⊎ (answer ≡ status.NoMemory)
  pub recover_due : (wanted : Wanted) (bytes : List ℕ) (s : Status) → AreWordsOf (job.Recover wanted) call.words → call.left ≡ Some bytes → IsDue wanted bytes s
      → ¬ (ReadFailed call) → ¬ (WriteFailed w) → ¬ (DeviceStopped call) → (answer ≡ s) ⊎ (answer ≡ status.NoMemory)
  pub never_unsound : AreRun call.words → answer ≢ status.Unsound
  -- The cause of each
  pub read_fault : answer ≡ status.ReadFault → ReadFailed call
  pub write_fault : answer ≡ status.WriteFault → WriteFailed w
  pub stopped : answer ≡ status.Stopped → DeviceStopped call
  pub too_long : answer ≡ status.TooLong → (j : Job) → AreWordsOf j call.words → IsLongInput j call w
  pub no_script : answer ≡ status.Script → AreRun call.words → IsNoScript call w
  pub no_image_text : answer ≡ status.Script → (wanted : Wanted) → AreWordsOf (job.Recover wanted) call.words → IsNoImageText call w
  pub unsound_image : answer ≡ status.Unsound → (wanted : Wanted) → AreWordsOf (job.Recover wanted) call.words → IsUnsoundImage wanted call w
  -- The device
  pub last_load : (answer ≡ status.Done) ⊎ (answer ≡ status.Stopped) → call.counts_after.restarts.loaded_at ≡ call.counts.events
  -- It was restarted since then only by `migrate STOP PICK`, and not where it stopped of itself.
  pub not_restarted : answer ≡ status.Done → ((stop : Stop) → ¬ (AreWordsOf (job.Migrate (Some stop)) call.words)) → call.counts_after.restarts ≡ (since_load call.counts).restarts
  pub left_stopped : answer ≡ status.Stopped → call.counts_after.restarts ≡ (since_load call.counts).restarts
  pub one_event_each : AreRun call.words → (bytes : List ℕ) (s : Script) → call.left ≡ Some bytes → script_of_text bytes ≡ Some s
      → call.counts_after.events ≤ call.counts.events + event_count s.transactions
  -- A recovery takes fewer events than this.
  pub enough : (wanted : Wanted) → AreWordsOf (job.Recover wanted) call.words → call.counts.events + 2 ^ 22 ≤ call.counts.budget → answer ≢ status.Stopped
  -- An image that a recovery left wants none.
  pub again : (wanted : Wanted) (bytes : List ℕ) (i : Image) → AreWordsOf (job.Recover wanted) call.words → call.left ≡ Some bytes → IsTextOf bytes i
      → IsFinished (length i.words) (words_of i) → call.counts_after.events ≡ call.counts.events
  -- Whatever a stop leaves of the device then can be recovered in the image's place.
  pub recovered_again : (wanted : Wanted) (bytes : List ℕ) (i : Image) → AreWordsOf (job.Recover wanted) call.words → call.left ≡ Some bytes → IsTextOf bytes i → IsAdmitted i
      → (answer ≡ status.Done) ⊎ (answer ≡ status.Stopped) ⊎ (answer ≡ status.Unsound) → EachRecoversAs i call.region_after
  -- A migration: what is due is due as to `recover image`.
  pub migrate_due : (stop : Option Stop) (bytes : List ℕ) (s : Status) → AreWordsOf (job.Migrate stop) call.words → call.left ≡ Some bytes → IsDue want.Image bytes s
      → ¬ (ReadFailed call) → ¬ (WriteFailed w) → ¬ (DeviceStopped call) → (answer ≡ s) ⊎ (answer ≡ status.NoMemory)
  pub migrate_no_image_text : answer ≡ status.Script → (stop : Option Stop) → AreWordsOf (job.Migrate stop) call.words → IsNoImageText call w
  pub migrate_unsound : answer ≡ status.Unsound → (stop : Option Stop) → AreWordsOf (job.Migrate stop) call.words → IsUnsoundImage want.Image call w
  pub migrate_enough : (stop : Option Stop) → AreWordsOf (job.Migrate stop) call.words → call.counts.events + 2 ^ 22 ≤ call.counts.budget → answer ≢ status.Stopped
  -- What it writes is the text of what it left: of the migrated image, or of an image that the stop may leave.
  pub migrated_to : answer ≡ status.Done → (stop : Option Stop) → AreWordsOf (job.Migrate stop) call.words → HasMigratedTo stop call w
  -- An image of format 2 that was recovered wants no event.
  pub migrated_again : (stop : Option Stop) (bytes : List ℕ) (i : Image) → AreWordsOf (job.Migrate stop) call.words → call.left ≡ Some bytes → IsTextOf bytes i
      → IsFinished (length i.words) (words_of i) → words_of i 0 ≡ SECOND_MAGIC → call.counts_after.events ≡ call.counts.events
  -- Whatever a stop leaves of the device then can be migrated in the image's place.
  pub migrated_in_place : (stop : Option Stop) (bytes : List ℕ) (i : Image) → AreWordsOf (job.Migrate stop) call.words → call.left ≡ Some bytes → IsTextOf bytes i → IsAdmitted i
      → (answer ≡ status.Done) ⊎ (answer ≡ status.Stopped) ⊎ (answer ≡ status.Unsound) → EachMigratesAs i.kinds (words_of i) call.region_after
