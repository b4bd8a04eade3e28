-- The status that is due to an input: what its bytes determine, where no count of faults rises and the device doesn't stop.
use Rattle.std.specs.Prelude.{◌≡◌, ℕ, ◌<◌, ◌≤◌, List, length, Option, Some, None, if◌then◌else◌, nat_lt}
use Rattle.persist_model.specs.Region.{Words}
use Rattle.persist_model.specs.Shape.{shape_of, heap}
use Rattle.image_text.specs.declared.image.Image.{Image}
use Rattle.image_text.specs.Grammar.{IsTextOf, BreaksAt}
use Rattle.image_runner.specs.declared.runner.Wanted.{Wanted}
use Rattle.image_runner.specs.declared.runner.Wanted.TheVariants as want
use Rattle.image_runner.specs.Ends.{words_of, AreStanding, IsAdmitted, IsRefusedBy, RecoversAs}
use Rattle.image_runner.specs.Maps.{AreMaps, IsFirstBroken}
use Rattle.rewind.specs.declared.status.Status.{Status}
use Rattle.rewind.specs.declared.status.Status.TheVariants as status
use Rattle.rewind.specs.declared.script.Script.{Script}
use Rattle.rewind.specs.declared.words.Job.{Job}
use Rattle.rewind.specs.declared.words.Job.TheVariants as job
use Rattle.rewind.specs.Words.{SCRIPT_LIMIT, IMAGE_LIMIT}
use Rattle.rewind.specs.Served.{script as script_of_text}

abbrev pub due_of_script : Option Script → Status
due_of_script None = status.Script
due_of_script (Some s) = status.Done

-- The status of `run` whose input are these bytes, where no count of faults rises and the device doesn't stop.
abbrev pub due : List ℕ → Status
due bytes = if nat_lt SCRIPT_LIMIT (length bytes) then status.TooLong else due_of_script (script_of_text bytes)

-- The status of `recover` and of `recover image` whose input are these bytes, where no count of faults rises and the device
-- doesn't stop. That of a migration is the one of `recover image`.
pub data IsDue (wanted : Wanted) (bytes : List ℕ) (s : Status) : Type 0 where
  long : IMAGE_LIMIT < length bytes → s ≡ status.TooLong → IsDue wanted bytes s
  misread : length bytes ≤ IMAGE_LIMIT → (line : ℕ) → BreaksAt bytes line → s ≡ status.Script → IsDue wanted bytes s
  refused : length bytes ≤ IMAGE_LIMIT → (i : Image) → IsTextOf bytes i → (fault a : ℕ) → IsRefusedBy i fault a → s ≡ status.Unsound → IsDue wanted bytes s
  broken : length bytes ≤ IMAGE_LIMIT → (i : Image) → IsTextOf bytes i → IsAdmitted i → wanted ≡ want.Report
      → (z : Words) → AreStanding (words_of i) z → (a : ℕ) → IsFirstBroken (heap (shape_of (words_of i))) z i.kinds a → s ≡ status.Unsound → IsDue wanted bytes s
  reported : length bytes ≤ IMAGE_LIMIT → (i : Image) → IsTextOf bytes i → IsAdmitted i
      → (z : Words) → AreStanding (words_of i) z → AreMaps (heap (shape_of (words_of i))) z i.kinds → s ≡ status.Done → IsDue wanted bytes s
  imaged : length bytes ≤ IMAGE_LIMIT → (i : Image) → IsTextOf bytes i → IsAdmitted i → wanted ≡ want.Image → s ≡ status.Done → IsDue wanted bytes s

-- the status of a job whose input are these bytes
abbrev pub IsDueOf : Job → List ℕ → Status → Type 0
IsDueOf job.Run bytes s = s ≡ due bytes
IsDueOf (job.Recover wanted) bytes s = IsDue wanted bytes s
IsDueOf (job.Migrate stop) bytes s = IsDue want.Image bytes s

-- ---- what holds of all inputs

-- Each input has one due status for each job: there is none without, and no two are due.
pub record HasOneDue (job : Job) (bytes : List ℕ) : Type 0 where
  pub some : ((s : Status) → IsDueOf job bytes s → ⊥) → ⊥
  pub one : (s t : Status) → IsDueOf job bytes s → IsDueOf job bytes t → s ≡ t

abbrev pub HaveOneDue : Type 0
HaveOneDue = (job : Job) (bytes : List ℕ) → HasOneDue job bytes

-- A text of an image that may be recovered in the place of another has the status that is due to the other's text.
abbrev pub HaveSameDue : Type 0
HaveSameDue = (wanted : Wanted) (bytes text : List ℕ) (i later : Image) (s : Status) → IsAdmitted i → RecoversAs i later → IsTextOf bytes i → IsTextOf text later
    → length bytes ≤ IMAGE_LIMIT → length text ≤ IMAGE_LIMIT → IsDue wanted bytes s → IsDue wanted text s
