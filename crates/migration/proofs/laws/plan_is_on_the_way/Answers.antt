use Rattle.migration.proofs.Plans.{plan_is_on_the_way}
use Rattle.migration.proofs.laws.plan_is_on_the_way.Goals as goal

pub returns : goal.returns
returns c = plan_is_on_the_way
