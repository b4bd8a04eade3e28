use Rattle.std.proofs.Common.{sym}
use Rattle.atomic_list.specs.Plans.{repair_plan}
use Rattle.recovery_lists.proofs.PlanEvents.{event_out}
use Rattle.recovery_lists.proofs.repairing.RepairPlanPlan.event.Goals as goal

pub returns : goal.returns
returns c = event_out c.args.self.now.p c.args.i (repair_plan c.args.self.now.repair) c.in_ok-event.event c.region_event.result (sym c.in_ok-event.ensures) c.region_event.ensures
