use Rattle.std.proofs.Common.{refl, sym, ap, ◌∙◌, subst, arith}
use Rattle.persist_model.specs.Region.{Region, restarted}
use Rattle.region_layout.specs.Layout.{layout_shape}
use Rattle.word_region.specs.Places.{cells_of}
use Rattle.recovery_lists.specs.Lists.{IsAtState}
use Rattle.recovery_lists.proofs.Small.{small_state, settled_at, state_at, sound_at}
use Rattle.recovery_lists.proofs.Restarting.{restarted_at}
use Rattle.recovery_lists.proofs.tests.stop_and_repair.Goals as goal

pub repair_both-requires-clause-settled : goal.repair_both-requires-clause-settled
repair_both-requires-clause-settled g c = state_at (layout_shape c.small_layout-layout.result) _ c.small_layout-layout.ensures (c.new-cut.ensures.cells ∙ c.in_ok-small_region.ensures.cells)

pub repair_both-requires-2-clause-settled : goal.repair_both-requires-2-clause-settled
repair_both-requires-2-clause-settled g c =
    let shape = layout_shape c.small_layout-layout.result in
    let before = cells_of c.new-cut.result.inner.settled.items c.new-cut.result.inner.stores.items in
    let later = cells_of c.repair_both.new.device.inner.settled.items c.repair_both.new.device.inner.stores.items in
    let settled = settled_at shape before c.small_layout-layout.ensures (c.new-cut.ensures.cells ∙ c.in_ok-small_region.ensures.cells) in
    subst (λ (r : Region). IsAtState shape r) (sym (c.restart.ensures.cells ∙ ap (restarted c.args.pick) c.into_inner-region.ensures.cells))
    (restarted_at shape c.args.pick small_state small_state before later settled c.repair_both.ensures.header c.repair_both.ensures.size (λ a. omega arith)
    (c.in-Stopped.ensures.stopped refl small_state small_state (sound_at shape c.small_layout-layout.ensures) settled))
