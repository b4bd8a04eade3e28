use Rattle.std.proofs.Common.{map, reverse, refl, ap, ◌∙◌}
use Rattle.bucket_log.specs.Scans.{record_of_placed}
use Rattle.recovery_analysis.proofs.Soundly.{logs_of_image, state_of_image}
use Rattle.recovery_analysis.proofs.Whole.{merge_sound}
use Rattle.recovery_analysis.proofs.tests.work_of_image.Goals as goal

pub merge-requires : goal.merge-requires
merge-requires c = logs_of_image c.args.layout _ _ c.requires

pub work_of-requires : goal.work_of-requires
work_of-requires c = merge_sound c.args.layout _ _ _ c.requires
    (ap (λ xs. reverse (map record_of_placed xs)) c.as_slice.ensures ∙ c.in_ok-merged.ensures _ c.requires.sound.state (λ a lt. refl) (state_of_image c.args.layout _ _ c.requires))
