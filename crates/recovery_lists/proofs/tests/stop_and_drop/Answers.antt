use Rattle.std.proofs.Common.{refl, sym, ap, ◌∙◌, subst, arith}
use Rattle.persist_model.specs.Region.{Region, restarted}
use Rattle.region_layout.specs.Layout.{layout_shape}
use Rattle.word_region.specs.Places.{cells_of}
use Rattle.recovery_run.specs.Reached.{HasSettled}
use Rattle.recovery_lists.specs.Lists.{IsAtState, IsAtEmptyLog}
use Rattle.recovery_lists.proofs.Small.{small_state, settled_at, state_at, sound_at, empty_at}
use Rattle.recovery_lists.proofs.Restarting.{restarted_at}
use Rattle.recovery_lists.proofs.tests.stop_and_drop.Goals as goal

pub repair_both-requires-clause-settled : goal.repair_both-requires-clause-settled
repair_both-requires-clause-settled g c = state_at (layout_shape c.small_layout-layout.result) _ c.small_layout-layout.ensures c.in_ok-region.ensures.cells

pub drop_closed-requires-clause-empty : goal.drop_closed-requires-clause-empty
drop_closed-requires-clause-empty g c =
    let shape = layout_shape c.small_layout-layout.result in
    subst (λ (r : Region). IsAtEmptyLog shape 1 r) (sym c.new-cut.ensures.cells)
    (empty_at shape (cells_of c.repair_both.new.device.settled.items c.repair_both.new.device.stores.items)
    (c.in-Made.ensures.made refl small_state small_state (settled_at shape _ c.small_layout-layout.ensures c.in_ok-region.ensures.cells))
    (c.in-Made.ensures.quiet refl).1)

pub repair_both-requires-2-clause-settled : goal.repair_both-requires-2-clause-settled
repair_both-requires-2-clause-settled g c =
    let shape = layout_shape c.small_layout-layout.result in
    let before = cells_of c.new-cut.result.inner.settled.items c.new-cut.result.inner.stores.items in
    let later = cells_of c.drop_closed.new.device.inner.settled.items c.drop_closed.new.device.inner.stores.items in
    let settled = subst (λ (r : Region). HasSettled shape small_state small_state r) (sym c.new-cut.ensures.cells)
    (c.in-Made.ensures.made refl small_state small_state (settled_at shape _ c.small_layout-layout.ensures c.in_ok-region.ensures.cells)) in
    subst (λ (r : Region). IsAtState shape r) (sym (c.restart.ensures.cells ∙ ap (restarted c.args.pick) c.into_inner-region.ensures.cells))
    (restarted_at shape c.args.pick small_state small_state before later settled c.drop_closed.ensures.header c.drop_closed.ensures.size (λ a. omega arith)
    (c.in-Stopped-drop_closed.ensures.stopped refl small_state small_state (sound_at shape c.small_layout-layout.ensures) settled refl))
