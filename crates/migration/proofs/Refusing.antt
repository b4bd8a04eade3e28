-- What a migration owes where it was refused, of words of any kind.
use Rattle.std.proofs.Common.{◌≡◌, inl, inr, ℕ, List, length, refl, subst}
use Rattle.std.specs.Prelude.{slice_index, Err}
use Rattle.persist_model.specs.Faults.{IsFirstFault}
use Rattle.persist_model.specs.ImageRules.{rule_number}
use Rattle.persist_model.specs.Region.{Region, newest_words}
use Rattle.persist_model.specs.Sound.{IsSound}
use Rattle.lane_traits.specs.Device.{Counts}
use Rattle.region_layout.specs.declared.layout.Kind.{Kind}
use Rattle.region_layout.specs.declared.reading.ImageFault.{ImageFault}
use Rattle.recovery_run.specs.Reached.{newest_at}
use Rattle.sound_check.specs.declared.fault.CheckFault.{CheckFault}
use Rattle.sound_check.specs.declared.fault.CheckFault.TheVariants.{Unsound as Faulty, NoMemory as Refused}
use Rattle.sound_check.specs.Faulty.{IfUnsound}
use Rattle.recovery_passes.specs.declared.recovering.Unfinished.{Unfinished}
use Rattle.recovery_passes.specs.declared.recovering.Unfinished.TheVariants as unfinished
use Rattle.recovery_passes.specs.Refusals.{recover_fault, unfinished_fault}
use Rattle.recovery_passes.proofs.Results.{sound_read, refusal_owes}
use Rattle.migration.specs.Fits.{Fit, IsLineFault}
use Rattle.migration.specs.Outcomes.{HasRefused, IsMigrationOfSound, IsMigration}

-- a check that refused the words, before any event
pub check_owes : (kinds : List Kind) (words : List ℕ) (region : Region) (counts : Counts) → words ≡ newest_words region → (fault : CheckFault) →
    IfUnsound fault (IsFirstFault (length words) (slice_index words)) → IsMigration kinds region counts region counts (Err (recover_fault fault))
check_owes kinds words region counts is (Faulty found) there = record {
  why = inl (refusal_owes words region counts is (Faulty found) there).first;
  untouched = record { cells = refl; unmade = refl };
}
check_owes kinds words region counts is Refused there = record { cells = refl; unmade = refl }

-- kinds that don't fit
pub kinds_owe : (kinds : List Kind) (words : List ℕ) (region : Region) (counts : Counts) (found : ImageFault) → words ≡ newest_words region → IsSound (length words) (slice_index words) →
    IsLineFault (slice_index words) kinds (rule_number found.rule) found.address → HasRefused kinds region counts region counts found
kinds_owe kinds words region counts found is sound line = record {
  why = inr (sound_read words region is sound, subst (λ (xs : List ℕ). IsLineFault (slice_index xs) kinds (rule_number found.rule) found.address) is line);
  untouched = record { cells = refl; unmade = refl };
}

-- what was owed of words that are known to be sound
pub unfinished_owes : (kinds : List Kind) (before after : Region) (counts counts_after : Counts) (fault : Unfinished) → IsMigrationOfSound kinds before counts after counts_after (Err fault) →
    IsMigration kinds before counts after counts_after (Err (unfinished_fault fault))
unfinished_owes kinds before after counts counts_after unfinished.Stopped h = h
unfinished_owes kinds before after counts counts_after unfinished.NoMemory h = h

pub fit_read : (kinds : List Kind) (words : List ℕ) (region : Region) → words ≡ newest_words region → Fit (slice_index words) kinds → Fit (newest_at region) kinds
fit_read kinds words region is fit = subst (λ (xs : List ℕ). Fit (slice_index xs) kinds) is fit
