use Rattle.std.proofs.Common.{refl, arith}
use Rattle.recovery_undo.proofs.Checkpointing.{checkpoint_take, checkpoint_next, checkpoint_steps, checkpointed}
use Rattle.recovery_undo.proofs.checkpoint.append_checkpoint.Goals as goal

pub append_record-requires-clause-can : goal.append_record-requires-clause-can
append_record-requires-clause-can g c =
    let at = c.requires.can in
    (at.0, at.1, checkpoint_take c.args.layout c.args.held.now at.0 at.1 (g.D.Device.cells c.args.device.now) at.2 c.plain_cell-cell.result c.plain_cell-cell.ensures c.args.layout.partitions_within.0)

pub overflow_add-held : goal.overflow_add-held
overflow_add-held g c =
    let at = c.requires.can in
    let lt = checkpoint_next c.args.layout c.args.held.now at.0 at.1 (g.D.Device.cells c.args.device.now) at.2 c.plain_cell-cell.result c.plain_cell-cell.ensures c.args.layout.partitions_within.0 in
    omega (arith, lt)

pub returns-in-Stopped-clause-stopped : goal.returns-in-Stopped-clause-stopped
returns-in-Stopped-clause-stopped g c = λ same first y h.
    c.in-Stopped.ensures.settled_stopped refl first y h.sound
    (checkpoint_take c.args.layout c.args.held.now first y (g.D.Device.cells c.args.device.now) h c.plain_cell-cell.result c.plain_cell-cell.ensures c.args.layout.partitions_within.0) h.settled
    (checkpoint_steps c.args.layout c.args.held.now first y (g.D.Device.cells c.args.device.now) h c.plain_cell-cell.result c.plain_cell-cell.ensures c.args.layout.partitions_within.0)

pub returns-in-At-clause-made : goal.returns-in-At-clause-made
returns-in-At-clause-made g c = λ same first y h.
    checkpointed c.args.layout c.args.held.now first y (g.D.Device.cells c.args.device.now) h c.plain_cell-cell.result c.plain_cell-cell.ensures c.args.layout.partitions_within.0
    c.in-At.at c.in-At.ensures.part _ (g.D.Device.cells c.append_record.new.device)
    (c.in-At.ensures.settled_made first y
    (checkpoint_take c.args.layout c.args.held.now first y (g.D.Device.cells c.args.device.now) h c.plain_cell-cell.result c.plain_cell-cell.ensures c.args.layout.partitions_within.0) h.settled
    (checkpoint_steps c.args.layout c.args.held.now first y (g.D.Device.cells c.args.device.now) h c.plain_cell-cell.result c.plain_cell-cell.ensures c.args.layout.partitions_within.0))
    (λ q lt. c.in-At.ensures.quiet q lt (h.quiet q lt))
    (c.in-At.ensures.table) refl c.put_gate.ensures.items c.put_gate.ensures.len c.put_gate.ensures.capacity refl refl

pub returns-in-At-clause-next : goal.returns-in-At-clause-next
returns-in-At-clause-next g c = λ same. (c.in-At.at, c.put_gate.ensures.items, c.in-At.ensures.next)
