-- What a call of recovery owes by its answer: of the device's words and counts before and after it.
use Rattle.std.specs.Prelude.{◌≡◌, ℕ, ◌+◌, Result, Ok, Err}
use Rattle.persist_model.specs.Faults.{IsFirstFault}
use Rattle.persist_model.specs.ImageRules.{rule_number}
use Rattle.persist_model.specs.Region.{Region, AreSettled}
use Rattle.persist_model.specs.Shape.{shape_of}
use Rattle.persist_model.specs.Sound.{IsSound}
use Rattle.lane_traits.specs.Device.{Counts, counted}
use Rattle.region_layout.specs.declared.reading.ImageFault.{ImageFault}
use Rattle.recovery_run.specs.Edges.{KeepsWords, IsPlainHeaderWord}
use Rattle.recovery_run.specs.Reached.{newest_at}
use Rattle.recovery_passes.specs.declared.recovering.Recovered.{Recovered}
use Rattle.recovery_passes.specs.declared.recovering.RecoverFault.{RecoverFault}
use Rattle.recovery_passes.specs.declared.recovering.RecoverFault.TheVariants.{Unsound, Stopped, NoMemory}
use Rattle.recovery_passes.specs.declared.recovering.Unfinished.{Unfinished}
use Rattle.recovery_passes.specs.declared.recovering.Unfinished.TheVariants as unfinished
use Rattle.recovery_passes.specs.Recovered.{IsFinished, Restores, EachStands, AreFates, AreFew}

-- The words were sound and are recovered and settled, each heap word has its standing value, and the transactions that ended and
-- those that ran are told. The events are counted and few. Words that were recovered already are as they were, with no event.
pub record HasFinished (before : Region) (counts : Counts) (after : Region) (counts_after : Counts) (done : Recovered) : Type 0 where
  pub sound : IsSound before.size (newest_at before)
  pub fates : AreFates (newest_at before) done.winners done.losers
  pub restored : Restores (newest_at before) (newest_at after)
  pub settled : AreSettled after
  pub finished : IsFinished after.size (newest_at after)
  pub events : counts_after ≡ record counts { events = counts.events + done.events }
  pub few : AreFew (newest_at before) done.events
  pub again : IsFinished before.size (newest_at before) → done.events ≡ 0
  pub same : IsFinished before.size (newest_at before) → after ≡ before

-- The device stopped: the words were sound, and each image of those that it has is sound with the same standing words. They
-- weren't recovered already, and the events up to the stop and one more are no more than a recovery may take.
pub record HasHalted (before : Region) (counts : Counts) (after : Region) (counts_after : Counts) : Type 0 where
  pub sound : IsSound before.size (newest_at before)
  pub stands : EachStands (newest_at before) after
  pub stopped : counts_after ≡ record counts { events = counts.budget; stopped = counted counts.stopped }
  pub early : (n : ℕ) → counts.events + n ≡ counts.budget → AreFew (newest_at before) (n + 1)
  pub unfinished : IsFinished before.size (newest_at before) → ⊥

-- no event was made
pub record IsUntouched (before : Region) (counts : Counts) (after : Region) (counts_after : Counts) : Type 0 where
  pub cells : after ≡ before
  pub unmade : counts_after ≡ counts

-- the words are no sound image, which was found before any event
pub record IsRefused (before : Region) (counts : Counts) (after : Region) (counts_after : Counts) (found : ImageFault) : Type 0 where
  pub first : IsFirstFault before.size (newest_at before) (rule_number found.rule) found.address
  pub untouched : IsUntouched before counts after counts_after

-- what is owed where the words are known to be sound
abbrev pub IsRecoveryOfSound : Region → Counts → Region → Counts → Result Recovered Unfinished → Type 0
IsRecoveryOfSound before counts after counts_after (Ok done) = HasFinished before counts after counts_after done
IsRecoveryOfSound before counts after counts_after (Err unfinished.Stopped) = HasHalted before counts after counts_after
IsRecoveryOfSound before counts after counts_after (Err unfinished.NoMemory) = IsUntouched before counts after counts_after

-- what is owed of words of any kind
abbrev pub IsRecovery : Region → Counts → Region → Counts → Result Recovered RecoverFault → Type 0
IsRecovery before counts after counts_after (Ok done) = HasFinished before counts after counts_after done
IsRecovery before counts after counts_after (Err (Unsound found)) = IsRefused before counts after counts_after found
IsRecovery before counts after counts_after (Err Stopped) = HasHalted before counts after counts_after
IsRecovery before counts after counts_after (Err NoMemory) = IsUntouched before counts after counts_after

-- Whatever is answered the region is as long as before, and the words of its header that are no list's stay.
pub record KeepsHeader (before after : Region) : Type 0 where
  pub size : after.size ≡ before.size
  pub words : KeepsWords (IsPlainHeaderWord (shape_of (newest_at before))) before after
