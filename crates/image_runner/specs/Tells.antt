-- What is told of a recovery, by the words that it left.
use Rattle.std.specs.Prelude.{◌≡◌, ℕ, ◌<◌, ◌^◌, List, length, slice_index}
use Rattle.region_layout.specs.declared.layout.Kind.{Kind}
use Rattle.image_text.specs.Written.{image_text}
use Rattle.recovery_passes.specs.declared.recovering.Recovered.{Recovered}
use Rattle.rewind_script.specs.declared.report.PairList.{PairList}
use Rattle.rewind_script.specs.Recovery.{recovery_report}
use Rattle.image_runner.specs.declared.runner.Wanted.{Wanted}
use Rattle.image_runner.specs.declared.runner.Wanted.TheVariants as want
use Rattle.image_runner.specs.declared.runner.Ended.{Ended}
use Rattle.image_runner.specs.declared.runner.Ended.TheVariants as ended
use Rattle.sound_check.specs.declared.fault.CheckFault.{CheckFault}
use Rattle.sound_check.specs.declared.fault.CheckFault.TheVariants as refusal
use Rattle.recovery_passes.specs.declared.recovering.Unfinished.{Unfinished}
use Rattle.recovery_passes.specs.declared.recovering.Unfinished.TheVariants as unfinished
use Rattle.image_runner.specs.Maps.{HoldMaps, IsFirstBroken}

-- the end that a refused image comes to
abbrev pub end_of_refusal : CheckFault → Ended
end_of_refusal (refusal.Unsound found) = ended.Unsound found
end_of_refusal refusal.NoMemory = ended.NoMemory

-- the end that a recovery which wasn't finished comes to
abbrev pub end_of_fault : Unfinished → Ended
end_of_fault unfinished.Stopped = ended.Stopped
end_of_fault unfinished.NoMemory = ended.NoMemory

-- the report of a recovery, with the maps that these words hold
pub record TellsReport (heap : ℕ) (kinds : List Kind) (done : Recovered) (words : List ℕ) (text : List ℕ) : Type 0 where
  pub maps : List PairList
  pub hold : HoldMaps heap (slice_index words) kinds maps
  pub is : text ≡ recovery_report (record { events = done.events; winners = done.winners; losers = done.losers; maps = maps })

-- the text of the words, which are of 64 bits
pub record TellsImage (kinds : List Kind) (words : List ℕ) (text : List ℕ) : Type 0 where
  pub is : text ≡ image_text kinds words
  pub fit : (a : ℕ) → a < length words → slice_index words a < 2 ^ 64

abbrev pub TellsText : Wanted → ℕ → List Kind → Recovered → List ℕ → List ℕ → Type 0
TellsText want.Report heap kinds done words text = TellsReport heap kinds done words text
TellsText want.Image heap kinds done words text = TellsImage kinds words text

abbrev pub Tells : Wanted → ℕ → List Kind → Recovered → List ℕ → Ended → Type 0
Tells wanted heap kinds done words (ended.Done text) = TellsText wanted heap kinds done words text
Tells wanted heap kinds done words (ended.Broken root) = (wanted ≡ want.Report) × IsFirstBroken heap (slice_index words) kinds root
Tells wanted heap kinds done words ended.NoMemory = Unit {0}
Tells wanted heap kinds done words _ = ⊥

-- the text of the words, unless memory ran out
abbrev pub TellsWords : List Kind → List ℕ → Ended → Type 0
TellsWords kinds words (ended.Done text) = TellsImage kinds words text
TellsWords kinds words ended.NoMemory = Unit {0}
TellsWords kinds words _ = ⊥
