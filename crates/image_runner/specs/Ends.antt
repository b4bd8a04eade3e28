-- What a recovery of an image text came to, each end with its cause, and what became of the device.
use Rattle.std.specs.Prelude.{◌≡◌, ◌⊎◌, ◌↔◌, ℕ, ◌+◌, ◌≤◌, List, length, slice_index}
use Rattle.persist_model.specs.ImageRules.{rule_number}
use Rattle.persist_model.specs.Region.{Words, Region, IsImage, AreSettled, loaded, newest_words}
use Rattle.persist_model.specs.Shape.{shape_of, heap, words_of_shape}
use Rattle.persist_model.specs.Sound.{IsSound}
use Rattle.persist_model.specs.Faults.{IsFirstFault}
use Rattle.lane_traits.specs.Device.{Counts, counted, since_load}
use Rattle.region_layout.specs.declared.layout.Kind.{Kind}
use Rattle.image_text.specs.declared.image.Image.{Image}
use Rattle.image_text.specs.Grammar.{IsImageText, IsTextOf, BreaksAt}
use Rattle.image_text.specs.Written.{image_text}
use Rattle.recovery_run.specs.Reached.{newest_at}
use Rattle.recovery_passes.specs.Recovered.{IsFinished, Restores, EachStands, AreFates, AreFew}
use Rattle.rewind_script.specs.declared.recovery.RecoveryReport.{RecoveryReport}
use Rattle.rewind_script.specs.Recovery.{recovery_report}
use Rattle.image_runner.specs.declared.runner.Wanted.{Wanted}
use Rattle.image_runner.specs.declared.runner.Wanted.TheVariants as want
use Rattle.image_runner.specs.declared.runner.Ended.{Ended}
use Rattle.image_runner.specs.declared.runner.Ended.TheVariants as ended
use Rattle.migration.specs.Fits.{Fit, IsLineFault}
use Rattle.image_runner.specs.Maps.{HoldMaps, IsFirstBroken}

-- z are the standing words of w: the heap words have their standing values, and no word stands behind them
pub record AreStanding (w z : Words) : Type 0 where
  pub heap : Restores w z
  pub past : (a : ℕ) → words_of_shape (shape_of w) ≤ a → z a ≡ 0

-- the words of an image
abbrev pub words_of : Image → Words
words_of i = slice_index i.words

-- the image is sound, and its lines fit
pub record IsAdmitted (i : Image) : Type 0 where
  pub sound : IsSound (length i.words) (words_of i)
  pub fit : Fit (words_of i) i.kinds

-- This image may be recovered in the place of i: it is sound and of the same shape, its lines are the same and fit, and its
-- standing words are the same.
pub record RecoversAs (i later : Image) : Type 0 where
  pub admitted : IsAdmitted later
  pub lines : later.kinds ≡ i.kinds
  pub shape : shape_of (words_of later) ≡ shape_of (words_of i)
  pub standing : (z : Words) → AreStanding (words_of later) z ↔ AreStanding (words_of i) z

-- whatever a stop leaves of the region now, with the lines of i it may be recovered in the place of i
abbrev pub EachRecoversAs : Image → Region → Type 0
EachRecoversAs i region = (words : List ℕ) → IsImage words region → RecoversAs i (record { kinds = i.kinds; words = words })

-- the first rule that the image breaks, or the fault of its lines where it is sound
pub data IsRefusedBy (i : Image) (fault a : ℕ) : Type 0 where
  unsound : IsFirstFault (length i.words) (words_of i) fault a → IsRefusedBy i fault a
  unfit : IsSound (length i.words) (words_of i) → IsLineFault (words_of i) i.kinds fault a → IsRefusedBy i fault a

-- the device has the image's words, and no event was made
pub record IsLoaded (i : Image) (counts : Counts) (region_after : Region) (counts_after : Counts) : Type 0 where
  pub words : region_after ≡ loaded i.words
  pub unmade : counts_after ≡ since_load counts

-- The device is settled and recovered, and its heap has the standing words of w.
pub record IsRecovered (w : Words) (region : Region) : Type 0 where
  pub standing : AreStanding w (newest_at region)
  pub settled : AreSettled region
  pub finished : IsFinished region.size (newest_at region)
  pub shape : shape_of (newest_at region) ≡ shape_of w
  pub each : EachStands w region

-- So many events were made: no more than the image may take, and none where it was recovered already.
pub record HasMade (i : Image) (events : ℕ) (counts counts_after : Counts) : Type 0 where
  pub counted : counts_after ≡ record (since_load counts) { events = counts.events + events }
  pub few : AreFew (words_of i) events
  pub again : IsFinished (length i.words) (words_of i) → events ≡ 0

-- the image was admitted, and the device was recovered by so many events
pub record WasRecovered (i : Image) (counts : Counts) (region_after : Region) (counts_after : Counts) : Type 0 where
  pub admitted : IsAdmitted i
  pub recovered : IsRecovered (words_of i) region_after
  pub events : ℕ
  pub made : HasMade i events counts counts_after
  pub again : EachRecoversAs i region_after

-- The report: the events, the committed and the running transactions, and the maps of the standing words.
pub record IsReportOf (i : Image) (events : ℕ) (text : List ℕ) : Type 0 where
  pub report : RecoveryReport
  pub events_are : report.events ≡ events
  pub fates : AreFates (words_of i) report.winners report.losers
  pub maps : (z : Words) → AreStanding (words_of i) z → HoldMaps (heap (shape_of (words_of i))) z i.kinds report.maps
  pub text_is : text ≡ recovery_report report

-- The text of the device's words, which reads as them and the same kinds.
pub record IsImageOf (kinds : List Kind) (words : List ℕ) (text : List ℕ) : Type 0 where
  pub text_is : text ≡ image_text kinds words
  pub reads : IsImageText text kinds words

abbrev pub IsTold : Wanted → Image → ℕ → Region → List ℕ → Type 0
IsTold want.Report i events region text = IsReportOf i events text
IsTold want.Image i events region text = IsImageOf i.kinds (newest_words region) text

-- the job was done, and this is its text
pub record IsDone (wanted : Wanted) (i : Image) (counts : Counts) (region_after : Region) (counts_after : Counts) (text : List ℕ) : Type 0 where
  pub recovery : WasRecovered i counts region_after counts_after
  pub told : IsTold wanted i recovery.events region_after text

-- The device stopped: each of its images is sound and has the standing words. The image wasn't recovered already, and the
-- events up to the stop and one more are no more than it may take.
pub record IsHalted (i : Image) (counts : Counts) (region_after : Region) (counts_after : Counts) : Type 0 where
  pub admitted : IsAdmitted i
  pub stands : EachStands (words_of i) region_after
  pub counted : counts_after ≡ record (since_load counts) { events = counts.budget; stopped = counted counts.stopped }
  pub early : (n : ℕ) → counts.events + n ≡ counts.budget → AreFew (words_of i) (n + 1)
  pub unfinished : IsFinished (length i.words) (words_of i) → ⊥
  pub again : EachRecoversAs i region_after

-- A report was wanted, and after recovery the structure with this root block holds no map.
pub record IsBroken (wanted : Wanted) (i : Image) (counts : Counts) (region_after : Region) (counts_after : Counts) (a : ℕ) : Type 0 where
  pub report : wanted ≡ want.Report
  pub recovery : WasRecovered i counts region_after counts_after
  pub broken : (z : Words) → AreStanding (words_of i) z → IsFirstBroken (heap (shape_of (words_of i))) z i.kinds a

-- Memory ran out before the load, before the first event, or behind the last.
pub data IsShort (i : Image) (region : Region) (counts : Counts) (region_after : Region) (counts_after : Counts) : Type 0 where
  unloaded : region_after ≡ region → counts_after ≡ counts → IsShort i region counts region_after counts_after
  unmade : IsLoaded i counts region_after counts_after → IsShort i region counts region_after counts_after
  behind : WasRecovered i counts region_after counts_after → IsShort i region counts region_after counts_after

-- what an image came to, and why
abbrev pub IsEndOfImage : Wanted → Image → Region → Counts → Region → Counts → Ended → Type 0
IsEndOfImage wanted i region counts region_after counts_after (ended.Misread line) = ⊥
IsEndOfImage wanted i region counts region_after counts_after (ended.Unsound found) = IsRefusedBy i (rule_number found.rule) found.address × IsLoaded i counts region_after counts_after
IsEndOfImage wanted i region counts region_after counts_after ended.Stopped = IsHalted i counts region_after counts_after
IsEndOfImage wanted i region counts region_after counts_after (ended.Broken root) = IsBroken wanted i counts region_after counts_after root
IsEndOfImage wanted i region counts region_after counts_after ended.NoMemory = IsShort i region counts region_after counts_after
IsEndOfImage wanted i region counts region_after counts_after (ended.Done text) = IsDone wanted i counts region_after counts_after text

-- what a text came to, and why
abbrev pub IsEndOf : Wanted → List ℕ → Region → Counts → Region → Counts → Ended → Type 0
IsEndOf wanted text region counts region_after counts_after (ended.Misread line) = BreaksAt text line × (region_after ≡ region) × (counts_after ≡ counts)
IsEndOf wanted text region counts region_after counts_after ended.NoMemory =
    ((region_after ≡ region) × (counts_after ≡ counts)) ⊎ ((i : Image) × IsTextOf text i × IsShort i region counts region_after counts_after)
IsEndOf wanted text region counts region_after counts_after end = (i : Image) × IsTextOf text i × IsEndOfImage wanted i region counts region_after counts_after end

-- ---- again

-- An image that may be recovered in the place of another may be recovered in the place of each that this one stands for.
abbrev pub RecoversAgain : Type 0
RecoversAgain = (i j k : Image) → RecoversAs i j → RecoversAs j k → RecoversAs i k

-- It is never refused.
abbrev pub IsNeverUnsound : Type 0
IsNeverUnsound = (i later : Image) → RecoversAs i later → (fault a : ℕ) → IsRefusedBy later fault a → ⊥
