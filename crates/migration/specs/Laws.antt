-- What holds of the plan of a migration, in plain words.
use Rattle.std.specs.Prelude.{◌≡◌, ℕ, List}
use Rattle.persist_model.specs.Region.{Words}
use Rattle.persist_model.specs.Progress.{Reaches, start, advance_all}
use Rattle.persist_model.specs.Runs.{progress_at}
use Rattle.persist_model.specs.Shape.{FIRST_MAGIC}
use Rattle.region_layout.specs.declared.layout.Kind.{Kind}
use Rattle.recovery_passes.specs.Recovered.{IsFinished, StandsAsIn}
use Rattle.migration.specs.Fits.{Fit}
use Rattle.migration.specs.Plan.{migration_plan}
use Rattle.migration.specs.Migrated.{AreMigrated, IsOnTheWay}

-- Whatever a prefix of the plan has left of words of format 1 is on the way.
abbrev pub PlanIsOnTheWay : Type 0
PlanIsOnTheWay = (kinds : List Kind) (w i : Words) (k : ℕ) → w 0 ≡ FIRST_MAGIC → Reaches (λ a. Unit {0}) (progress_at w (migration_plan kinds) k) i →
    IsOnTheWay kinds w i

-- The whole plan leaves the words in format 2, with nothing pending.
abbrev pub PlanMigrates : Type 0
PlanMigrates = (kinds : List Kind) (w : Words) → (z : Words) × (advance_all (start w) (migration_plan kinds) ≡ start z) × AreMigrated kinds w z

-- Words on the way from recovered ones are sound and recovered too, with the same standing words, and the kinds fit them.
pub record Stands (size : ℕ) (kinds : List Kind) (w i : Words) : Type 0 where
  pub finished : IsFinished size i
  pub standing : StandsAsIn w i
  pub fit : Fit i kinds

abbrev pub WayStands : Type 0
WayStands = (size : ℕ) (kinds : List Kind) (w i : Words) → IsFinished size w → w 0 ≡ FIRST_MAGIC → Fit w kinds → IsOnTheWay kinds w i → Stands size kinds w i

-- They are migrated to the same words.
abbrev pub WayGoesOn : Type 0
WayGoesOn = (kinds : List Kind) (w i z : Words) → IsOnTheWay kinds w i → AreMigrated kinds i z → AreMigrated kinds w z
