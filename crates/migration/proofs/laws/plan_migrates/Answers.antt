use Rattle.migration.proofs.Plans.{plan_migrates}
use Rattle.migration.proofs.laws.plan_migrates.Goals as goal

pub returns : goal.returns
returns c = plan_migrates
