use Rattle.atomic_list.specs.Plans.{removal}
use Rattle.std.proofs.Common.{sym}
use Rattle.recovery_lists.proofs.PlanEvents.{event_out}
use Rattle.recovery_lists.proofs.dropping.RemovalPlanPlan.event.Goals as goal

pub returns : goal.returns
returns c = event_out c.args.self.now.p c.args.i (removal c.args.self.now.removal) c.in_ok-event.event c.region_event.result (sym c.in_ok-event.ensures) c.region_event.ensures
