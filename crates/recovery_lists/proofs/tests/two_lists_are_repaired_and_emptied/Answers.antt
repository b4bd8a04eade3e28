use Rattle.std.proofs.Common.{refl}
use Rattle.region_layout.specs.Layout.{layout_shape}
use Rattle.recovery_lists.proofs.Small.{small_state, settled_at, state_at, empty_at}
use Rattle.recovery_lists.proofs.tests.two_lists_are_repaired_and_emptied.Goals as goal

pub repair_both-requires-clause-settled : goal.repair_both-requires-clause-settled
repair_both-requires-clause-settled g c = state_at (layout_shape c.small_layout-layout.result) _ c.small_layout-layout.ensures c.in_ok-region.ensures.cells

pub drop_closed-requires-clause-empty : goal.drop_closed-requires-clause-empty
drop_closed-requires-clause-empty g c = empty_at (layout_shape c.small_layout-layout.result) _
    (c.in-Made.ensures.made refl small_state small_state (settled_at (layout_shape c.small_layout-layout.result) _ c.small_layout-layout.ensures c.in_ok-region.ensures.cells))
    (c.in-Made.ensures.quiet refl).1
