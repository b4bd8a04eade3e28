use Rattle.std.proofs.Common.{length, sym}
use Rattle.recovery_undo.proofs.Beginning.{rolled_passes, can_roll, roll_goes}
use Rattle.recovery_undo.proofs.undoing.begin.Goals as goal

pub returns-then-has_rollback-clause-made : goal.returns-then-has_rollback-clause-made
returns-then-has_rollback-clause-made g c = λ same start h. rolled_passes c.args.target start c.args.records.now c.args.held.now _ h (sym c.if-has_rollback.ensures)

pub append_note-requires : goal.append_note-requires
append_note-requires g c =
    let at = c.requires in
    (at.0, at.0.state, length c.args.records.now, at.1.gone, can_roll c.args.target at.0 c.args.records.now c.args.held.now _ at.1 (sym c.if-has_rollback.ensures) c.plain_cell-cell.result c.plain_cell-cell.ensures)

pub returns-clause-made : goal.returns-clause-made
returns-clause-made g c = λ made start h.
    let came = c.append_note.ensures.made made start start.state (length c.args.records.now) h.gone
    (can_roll c.args.target start c.args.records.now c.args.held.now _ h (sym c.if-has_rollback.ensures) c.plain_cell-cell.result c.plain_cell-cell.ensures) in
    roll_goes c.args.target start c.args.records.now c.args.held.now _ h (sym c.if-has_rollback.ensures) c.plain_cell-cell.result c.plain_cell-cell.ensures came.0 _ _ came.1 came.2

pub returns-clause-stopped : goal.returns-clause-stopped
returns-clause-stopped g c = λ stopped start h.
    c.append_note.ensures.stopped stopped start start.state (length c.args.records.now) h.gone
    (can_roll c.args.target start c.args.records.now c.args.held.now _ h (sym c.if-has_rollback.ensures) c.plain_cell-cell.result c.plain_cell-cell.ensures)
