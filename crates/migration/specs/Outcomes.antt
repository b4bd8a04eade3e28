-- What a migration owes by its answer.
use Rattle.std.specs.Prelude.{◌⊎◌, ℕ, List, Result, Ok, Err}
use Rattle.persist_model.specs.Faults.{IsFirstFault}
use Rattle.persist_model.specs.ImageRules.{rule_number}
use Rattle.persist_model.specs.Region.{Region}
use Rattle.persist_model.specs.Sound.{IsSound}
use Rattle.lane_traits.specs.Device.{Counts}
use Rattle.region_layout.specs.declared.layout.Kind.{Kind}
use Rattle.region_layout.specs.declared.reading.ImageFault.{ImageFault}
use Rattle.recovery_run.specs.Reached.{newest_at}
use Rattle.recovery_passes.specs.declared.recovering.RecoverFault.{RecoverFault}
use Rattle.recovery_passes.specs.declared.recovering.RecoverFault.TheVariants.{Unsound, Stopped, NoMemory}
use Rattle.recovery_passes.specs.declared.recovering.Unfinished.{Unfinished}
use Rattle.recovery_passes.specs.declared.recovering.Unfinished.TheVariants as unfinished
use Rattle.recovery_passes.specs.Recovery.{IsUntouched}
use Rattle.migration.specs.Fits.{IsLineFault}
use Rattle.migration.specs.Owed.{HasMigrated, HasBrokenOff}

-- what is owed where the words are known to be sound, and the kinds to fit
abbrev pub IsMigrationOfSound : List Kind → Region → Counts → Region → Counts → Result ℕ Unfinished → Type 0
IsMigrationOfSound kinds before counts after counts_after (Ok events) = HasMigrated kinds before counts after counts_after events
IsMigrationOfSound kinds before counts after counts_after (Err unfinished.Stopped) = HasBrokenOff kinds before counts after counts_after
IsMigrationOfSound kinds before counts after counts_after (Err unfinished.NoMemory) = IsUntouched before counts after counts_after

-- The words break this rule first, or they are sound and the kinds don't fit them; which was found before any event.
pub record HasRefused (kinds : List Kind) (before : Region) (counts : Counts) (after : Region) (counts_after : Counts) (found : ImageFault) : Type 0 where
  pub why : IsFirstFault before.size (newest_at before) (rule_number found.rule) found.address ⊎
      (IsSound before.size (newest_at before) × IsLineFault (newest_at before) kinds (rule_number found.rule) found.address)
  pub untouched : IsUntouched before counts after counts_after

-- what is owed of words of any kind
abbrev pub IsMigration : List Kind → Region → Counts → Region → Counts → Result ℕ RecoverFault → Type 0
IsMigration kinds before counts after counts_after (Ok events) = HasMigrated kinds before counts after counts_after events
IsMigration kinds before counts after counts_after (Err (Unsound found)) = HasRefused kinds before counts after counts_after found
IsMigration kinds before counts after counts_after (Err Stopped) = HasBrokenOff kinds before counts after counts_after
IsMigration kinds before counts after counts_after (Err NoMemory) = IsUntouched before counts after counts_after
