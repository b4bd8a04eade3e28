use Rattle.migration.proofs.Plans.{way_goes_on}
use Rattle.migration.proofs.laws.way_goes_on.Goals as goal

pub returns : goal.returns
returns c = way_goes_on
