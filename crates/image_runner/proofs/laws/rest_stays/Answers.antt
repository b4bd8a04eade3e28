use Rattle.image_runner.proofs.MigrationEnds.{rest_stays}
use Rattle.image_runner.proofs.laws.rest_stays.Goals as goal

pub returns : goal.returns
returns c = rest_stays
