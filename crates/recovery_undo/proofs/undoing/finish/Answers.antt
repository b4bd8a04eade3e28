use Rattle.std.proofs.Common.{refl, sym, ◌∙◌, arith}
use Rattle.region_layout.specs.Layout.{layout_shape}
use Rattle.recovery_undo.specs.UndoProgress.{seen}
use Rattle.recovery_undo.proofs.Chains.{log_words_kept, knows_kept}
use Rattle.recovery_undo.proofs.Ending.{fence_halts, fenced_quiet, end_take, end_steps, end_spare, end_fits, end_next, end_halts, finishes}
use Rattle.recovery_undo.proofs.undoing.finish.Goals as goal

pub returns-in-Stopped-clause-stopped : goal.returns-in-Stopped-clause-stopped
returns-in-Stopped-clause-stopped g c = λ same start counter h.
    let spare = c.in-Stopped.ensures.spare_left in
    fence_halts c.args.target start counter c.args.held.now _ h (seen (g.D.Device.cells c.fence.new.device) (g.D.Device.counts c.fence.new.device) (g.D.Device.spare c.fence.new.device))
    (c.in-Stopped.ensures.stopped refl (layout_shape c.args.target.layout) start.first h.state h.gone.sound h.gone.reached)
    (record { counted = c.in-Stopped.ensures.counted; spare = omega (arith, spare); header = λ a v is one. c.in-Stopped.ensures.aside a v tt one })

pub append_record-requires-clause-can : goal.append_record-requires-clause-can
append_record-requires-clause-can g c =
    let at = c.requires in (
      at.0.first,
      at.2.state,
      end_take c.args.target at.0 at.1 c.args.held.now _ at.2 (seen (g.D.Device.cells c.fence.new.device) (g.D.Device.counts c.fence.new.device) (g.D.Device.spare c.fence.new.device))
          (c.in-Made.ensures.made refl (layout_shape c.args.target.layout) at.0.first at.2.state at.2.gone.reached) c.in-Made.ensures.counted c.in-Made.ensures.spare_left c.in-Made.ensures.aside
          (g.met.D.Device.full c.fence.new.device) c.plain_cell-cell.result c.plain_cell-cell.ensures,
    )

pub append_record-requires-clause-spare : goal.append_record-requires-clause-spare
append_record-requires-clause-spare g c =
    let at = c.requires in
    end_spare c.args.target at.0 at.1 c.args.held.now _ at.2 (seen (g.D.Device.cells c.fence.new.device) (g.D.Device.counts c.fence.new.device) (g.D.Device.spare c.fence.new.device))
    (c.in-Made.ensures.made refl (layout_shape c.args.target.layout) at.0.first at.2.state at.2.gone.reached) c.in-Made.ensures.counted c.in-Made.ensures.spare_left c.in-Made.ensures.aside
    (g.met.D.Device.full c.fence.new.device) c.plain_cell-cell.result c.plain_cell-cell.ensures

pub append_record-requires-clause-table : goal.append_record-requires-clause-table
append_record-requires-clause-table g c =
    let at = c.requires in
    let before = g.D.Device.cells c.args.device.now in
    let later = g.D.Device.cells c.fence.new.device in
    let settled = c.in-Made.ensures.made refl (layout_shape c.args.target.layout) at.0.first at.2.state at.2.gone.reached in
    knows_kept c.args.target.layout at.0.first at.2.state before at.2.gone.reached c.args.held.now.table later
    (log_words_kept c.args.target.layout at.0.first at.2.state before at.2.gone.reached (λ b. Unit {0}) later (λ a lt. tt) c.in-Made.ensures.aside
    (settled.come.size ∙ sym at.2.gone.reached.come.size) (g.met.D.Device.full c.fence.new.device)) at.2.gone.holds.table

pub put_gate-requires : goal.put_gate-requires
put_gate-requires g c =
    let at = c.requires in
    end_fits c.args.target at.0 at.1 c.args.held.now _ at.2 (seen (g.D.Device.cells c.fence.new.device) (g.D.Device.counts c.fence.new.device) (g.D.Device.spare c.fence.new.device))
    (c.in-Made.ensures.made refl (layout_shape c.args.target.layout) at.0.first at.2.state at.2.gone.reached) c.in-Made.ensures.counted c.in-Made.ensures.spare_left c.in-Made.ensures.aside
    (g.met.D.Device.full c.fence.new.device) c.plain_cell-cell.result c.plain_cell-cell.ensures

pub overflow_add-held : goal.overflow_add-held
overflow_add-held g c =
    let at = c.requires in
    let lt = end_next c.args.target at.0 at.1 c.args.held.now _ at.2 (seen (g.D.Device.cells c.fence.new.device) (g.D.Device.counts c.fence.new.device) (g.D.Device.spare c.fence.new.device))
    (c.in-Made.ensures.made refl (layout_shape c.args.target.layout) at.0.first at.2.state at.2.gone.reached) c.in-Made.ensures.counted c.in-Made.ensures.spare_left c.in-Made.ensures.aside
    (g.met.D.Device.full c.fence.new.device) c.plain_cell-cell.result c.plain_cell-cell.ensures in
    omega (arith, lt)

pub returns-in-Stopped-append_record-clause-stopped : goal.returns-in-Stopped-append_record-clause-stopped
returns-in-Stopped-append_record-clause-stopped g c = λ same start counter h.
    let kept = seen (g.D.Device.cells c.fence.new.device) (g.D.Device.counts c.fence.new.device) (g.D.Device.spare c.fence.new.device) in
    let settled = c.in-Made.ensures.made refl (layout_shape c.args.target.layout) start.first h.state h.gone.reached in
    end_halts c.args.target start counter c.args.held.now _ h kept settled c.in-Made.ensures.counted c.in-Made.ensures.spare_left c.in-Made.ensures.aside
    (g.met.D.Device.full c.fence.new.device) c.plain_cell-cell.result c.plain_cell-cell.ensures
    (seen (g.D.Device.cells c.append_record.new.device) (g.D.Device.counts c.append_record.new.device) (g.D.Device.spare c.append_record.new.device))
    (c.in-Stopped-append_record.ensures.settled_stopped refl start.first h.state h.gone.sound
    (end_take c.args.target start counter c.args.held.now _ h kept settled c.in-Made.ensures.counted c.in-Made.ensures.spare_left c.in-Made.ensures.aside
    (g.met.D.Device.full c.fence.new.device) c.plain_cell-cell.result c.plain_cell-cell.ensures) settled
    (end_steps c.args.target start counter c.args.held.now _ h kept settled c.in-Made.ensures.counted c.in-Made.ensures.spare_left c.in-Made.ensures.aside
    (g.met.D.Device.full c.fence.new.device) c.plain_cell-cell.result c.plain_cell-cell.ensures))
    (record { counted = c.in-Stopped-append_record.ensures.counted; spare = c.in-Stopped-append_record.ensures.spare; header = c.in-Stopped-append_record.ensures.header })

pub returns-in-At-clause-made : goal.returns-in-At-clause-made
returns-in-At-clause-made g c = λ same start counter h.
    let kept = seen (g.D.Device.cells c.fence.new.device) (g.D.Device.counts c.fence.new.device) (g.D.Device.spare c.fence.new.device) in
    let settled = c.in-Made.ensures.made refl (layout_shape c.args.target.layout) start.first h.state h.gone.reached in
    let take = end_take c.args.target start counter c.args.held.now _ h kept settled c.in-Made.ensures.counted c.in-Made.ensures.spare_left c.in-Made.ensures.aside
    (g.met.D.Device.full c.fence.new.device) c.plain_cell-cell.result c.plain_cell-cell.ensures in
    finishes c.args.target start counter c.args.held.now _ h kept settled c.in-Made.ensures.counted c.in-Made.ensures.spare_left c.in-Made.ensures.aside
    (g.met.D.Device.full c.fence.new.device) c.plain_cell-cell.result c.plain_cell-cell.ensures c.in-At.at c.in-At.ensures.part _
    (seen (g.D.Device.cells c.append_record.new.device) (g.D.Device.counts c.append_record.new.device) (g.D.Device.spare c.append_record.new.device))
    (c.in-At.ensures.settled_made start.first h.state take settled
    (end_steps c.args.target start counter c.args.held.now _ h kept settled c.in-Made.ensures.counted c.in-Made.ensures.spare_left c.in-Made.ensures.aside
    (g.met.D.Device.full c.fence.new.device) c.plain_cell-cell.result c.plain_cell-cell.ensures))
    (λ q lt. c.in-At.ensures.quiet q lt (fenced_quiet c.args.target start counter c.args.held.now _ h kept settled c.in-Made.ensures.counted c.in-Made.ensures.spare_left c.in-Made.ensures.aside
    (g.met.D.Device.full c.fence.new.device) c.plain_cell-cell.result c.plain_cell-cell.ensures q lt))
    (record { counted = c.in-At.ensures.counted; spare = c.in-At.ensures.spare; header = c.in-At.ensures.header })
    (c.in-At.ensures.table) refl c.put_gate.ensures.items c.put_gate.ensures.len c.put_gate.ensures.capacity refl refl
