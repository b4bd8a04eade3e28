-- What holds of the texts that migrations wrote.
use Rattle.std.specs.Prelude.{◌≡◌, ◌≤◌, ◌^◌, length, Option, None, Some}
use Rattle.image_runner.specs.declared.runner.Wanted.TheVariants as want
use Rattle.image_runner.specs.declared.migrating.Stop.{Stop}
use Rattle.image_runner.specs.Migrations.{IsMigrated, IsLeft}
use Rattle.rewind.specs.declared.status.Status.TheVariants as status
use Rattle.rewind.specs.Words.{IMAGE_LIMIT}
use Rattle.rewind.specs.Call.{Call, Written}
use Rattle.rewind.specs.Causes.{HasMigratedTo}
use Rattle.rewind.specs.Due.{IsDue}

-- What a migration wrote at its end is migrated by no event, and written again.
abbrev pub MigratedTextsStay : Type 0
MigratedTextsStay = (first second : Call) (w v : Written) (here : HasMigratedTo None first w) (there : HasMigratedTo None second v) → there.text ≡ here.out
    → IsLeft second.counts second.counts_after here.out there.out

-- The image that a migration wrote, at its end or behind a stop, may be migrated: where its text isn't too long, `Done` is due to it.
abbrev pub MigratedTextsAreDone : Type 0
MigratedTextsAreDone = (stop : Option Stop) (call : Call) (w : Written) (here : HasMigratedTo stop call w) → length here.out ≤ IMAGE_LIMIT → IsDue want.Image here.out status.Done

-- A stop behind 2^22 events comes behind the migration's end: what is then told is the migrated image.
abbrev pub FarStopsMigrate : Type 0
FarStopsMigrate = (stop : Stop) (call : Call) (w : Written) (here : HasMigratedTo (Some stop) call w) → 2 ^ 22 ≤ stop.events → IsMigrated here.image call.region_after
