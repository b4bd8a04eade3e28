use Rattle.image_runner.proofs.Again.{never_unsound}
use Rattle.image_runner.proofs.laws.recovered_again_is_sound.Goals as goal

pub returns : goal.returns
returns c = never_unsound
