use Rattle.std.proofs.Common.{◌≡◌, ◌≤◌, ◌+◌, ◌-◌, length, take, drop, sum_by}
use Rattle.log_laws.specs.Recovering.{RECOVERY_LANE}
use Rattle.lane_traits.specs.declared.device.Done.TheVariants.{Made}
use Rattle.lane_traits.specs.Device.{stores_of}
use Rattle.log_laws.specs.Parts.{after_plan}
use Rattle.recovery_run.specs.Edges.{counts_with}
use Rattle.recovery_run.proofs.runner.run.Given as goal

abbrev pub invariant-loop-event : goal.invariant-loop-event
invariant-loop-event g l = record {
  cells : g.D.Device.cells l.device ≡ after_plan RECOVERY_LANE (g.D.Device.cells l.initial.device) (take l.i (g.P.Plan.events l.plan));
  counts : g.D.Device.counts l.device ≡ counts_with (g.D.Device.counts l.initial.device) l.i Made;
  spare : g.D.Device.spare l.initial.device + sum_by stores_of (drop l.i (g.P.Plan.events l.plan)) ≤ g.D.Device.spare l.device + sum_by stores_of (g.P.Plan.events l.plan);
  size : (g.D.Device.cells l.device).size ≡ (g.D.Device.cells l.initial.device).size;
  within : l.i ≤ length (g.P.Plan.events l.plan);
}

abbrev pub decreases-loop-event : goal.decreases-loop-event
decreases-loop-event g l = length (g.P.Plan.events l.plan) - l.i
