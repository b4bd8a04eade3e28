use Rattle.std.proofs.Common.{◌≡◌, ◌≤◌, ◌*◌, ◌+◌, [], ℕ, ◌<◌}
use Rattle.lane_traits.specs.declared.device.Done.TheVariants.{Made}
use Rattle.persist_model.specs.State.{State}
use Rattle.region_layout.specs.Layout.{layout_shape}
use Rattle.recovery_run.specs.Edges.{HasCounted, KeepsWords, IsPlainHeaderWord}
use Rattle.recovery_run.specs.Reached.{newest_at, HasSettled, HasFewBuckets}
use Rattle.recovery_lists.specs.Lists.{HasDropped}
use Rattle.recovery_passes.specs.Stages.{AreQuiet, AreShort, IsIdle}
use Rattle.recovery_passes.proofs.Buckets.{buckets_before}
use Rattle.recovery_passes.proofs.list_stages.drop_all.Given as goal

abbrev pub invariant-loop-p : goal.invariant-loop-p
invariant-loop-p g l = record {
  dropped : (first y : State) → HasSettled (layout_shape l.layout) first y (g.D.Device.cells l.initial.device) → y.log ≡ [] → HasDropped (layout_shape l.layout) first y (g.D.Device.cells l.device);
  quiet : AreQuiet (layout_shape l.layout) (g.D.Device.cells l.device);
  few : (q : ℕ) → q < l.p → HasFewBuckets (layout_shape l.layout) q (newest_at (g.D.Device.cells l.device));
  counted : HasCounted (7 * buckets_before (layout_shape l.layout) l.p) Made (g.D.Device.counts l.initial.device) (g.D.Device.counts l.device);
  spare : g.D.Device.spare l.initial.device ≤ g.D.Device.spare l.device + 7 * buckets_before (layout_shape l.layout) l.p;
  header : KeepsWords (IsPlainHeaderWord (layout_shape l.layout)) (g.D.Device.cells l.initial.device) (g.D.Device.cells l.device);
  idle : AreShort (layout_shape l.layout) (g.D.Device.cells l.initial.device) →
      IsIdle Made (g.D.Device.cells l.initial.device) (g.D.Device.cells l.device) (g.D.Device.counts l.initial.device) (g.D.Device.counts l.device);
}
