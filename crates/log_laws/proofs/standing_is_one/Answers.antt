use Rattle.log_laws.proofs.Soundness.{standing_is_one}
use Rattle.log_laws.proofs.standing_is_one.Goals as goal

pub returns : goal.returns
returns c = standing_is_one
