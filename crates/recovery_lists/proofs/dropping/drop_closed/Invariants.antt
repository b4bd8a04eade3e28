use Rattle.region_layout.specs.Layout.{layout_shape}
use Rattle.recovery_lists.proofs.DropLoop.{buckets_in, IsDropping}
use Rattle.recovery_lists.proofs.dropping.drop_closed.Given as goal

abbrev pub invariant-loop-removal : goal.invariant-loop-removal
invariant-loop-removal g l = IsDropping (layout_shape l.layout) l.p (g.D.Device.cells l.initial.device) (g.D.Device.cells l.device) (g.D.Device.counts l.initial.device)
    (g.D.Device.counts l.device) (g.D.Device.spare l.initial.device) (g.D.Device.spare l.device)

abbrev pub decreases-loop-removal : goal.decreases-loop-removal
decreases-loop-removal g l = buckets_in (layout_shape l.layout) l.p (g.D.Device.cells l.device)
