use Rattle.migration.proofs.Standing.{way_stands}
use Rattle.migration.proofs.laws.way_stands.Goals as goal

pub returns : goal.returns
returns c = way_stands
