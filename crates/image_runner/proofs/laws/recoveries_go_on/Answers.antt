use Rattle.image_runner.proofs.Again.{recovers_again}
use Rattle.image_runner.proofs.laws.recoveries_go_on.Goals as goal

pub returns : goal.returns
returns c = recovers_again
