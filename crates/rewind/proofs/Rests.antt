-- The texts that migrations wrote, as inputs.
use Rattle.std.proofs.Common.{◌≡◌, ◌<◌, ◌+◌, ℕ, List, length, refl, sym, subst, arith, slice_index, Option, Some, None}
use Rattle.persist_model.specs.Region.{Region, newest_words, restarted}
use Rattle.persist_model.proofs.Images.{newest_words_image}
use Rattle.image_text.specs.declared.image.Image.{Image}
use Rattle.image_text.specs.Grammar.{IsTextOf}
use Rattle.lane_traits.specs.Device.{Counts}
use Rattle.migration.specs.Owed.{MigratesAs}
use Rattle.image_runner.specs.declared.migrating.Stop.{Stop}
use Rattle.image_runner.specs.Ends.{words_of, IsAdmitted}
use Rattle.image_runner.specs.Migrations.{IsMigrated, HasComeTo, whole, stopped, IsWritten}
use Rattle.image_runner.proofs.Bounds.{not_many_in_all}
use Rattle.image_runner.proofs.MigrationEnds.{writes_rest, rest_stays}
use Rattle.rewind.specs.Due.{imaged}
use Rattle.rewind.specs.Rests.{MigratedTextsStay, MigratedTextsAreDone, FarStopsMigrate}

pub texts_stay : MigratedTextsStay
texts_stay first second w v here there same =
    let says : IsTextOf here.out there.image = subst (λ (t : List ℕ). IsTextOf t there.image) same there.says in
    rest_stays there.image here.out there.out second.counts second.counts_after second.region_after
    (writes_rest here.image there.image first.counts first.counts_after first.region_after here.out here.written says) there.written

-- the image that was written may be migrated
admitted_there : (stop : Option Stop) (i : Image) (counts counts_after : Counts) (region : Region) (out : List ℕ) → IsWritten stop i counts region counts_after out
    → IsAdmitted (record { kinds = i.kinds; words = newest_words region })
admitted_there None i counts counts_after region out h =
    (writes_rest i (record { kinds = i.kinds; words = newest_words region }) counts counts_after region out h h.told.reads).admitted
admitted_there (Some stop) i counts counts_after region out h =
    let full : (a : ℕ) → 0 < length (region.at a) = λ a. subst (λ (r : Region). 0 < length (r.at a)) (sym h.brought.region) (full_restarted a) in
    let there : MigratesAs i.kinds (words_of i) (length (newest_words region)) (slice_index (newest_words region)) = h.brought.each (newest_words region) (newest_words_image region full) in
    record { sound = there.sound; fit = there.fit }
  where
    full_restarted : (a : ℕ) → 0 < length ((restarted stop.pick h.brought.left).at a)
    full_restarted a = (let e : length ((restarted stop.pick h.brought.left).at a) ≡ 1 = refl in omega (arith, e))

pub texts_are_done : MigratedTextsAreDone
texts_are_done stop call w here short =
    imaged short (record { kinds = here.image.kinds; words = newest_words call.region_after }) here.written.told.reads
    (admitted_there stop here.image call.counts call.counts_after call.region_after here.out here.written) refl refl

pub far_stops : FarStopsMigrate
far_stops stop call w here far = by_end here.written.brought.far
  where
    by_end : HasComeTo here.image stop.events here.written.brought.before.events call.region_after → IsMigrated here.image call.region_after
    by_end (whole h) = h
    by_end (stopped at early) =
        absurd (not_many_in_all (length here.image.words) (words_of here.image) here.written.brought.before.admitted.sound (here.written.brought.before.events + 1) early (omega (arith, at, far)))
