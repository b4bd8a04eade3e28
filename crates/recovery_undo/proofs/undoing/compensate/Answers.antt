use Rattle.std.proofs.Common.{ℕ, ◌∷◌, length}
use Rattle.bucket_log.specs.Scans.{record_of_placed}
use Rattle.recovery_undo.proofs.Stepping.{can_compensate, compensate_goes}
use Rattle.recovery_undo.proofs.undoing.compensate.Goals as goal

pub append_note-requires : goal.append_note-requires
append_note-requires g c =
    let at = c.requires.passes in (
      at.0,
      at.2.state,
      length (record_of_placed c.args.update.now ∷ at.1),
      at.2.gone,
      can_compensate c.args.target at.0 (record_of_placed c.args.update.now) at.1 c.args.held.now _ at.2 c.requires.update
          c.compensation_cell-cell.result (λ a. c.compensation_cell-cell.ensures a c.args.update.now.at),
    )

pub returns-clause-made : goal.returns-clause-made
returns-clause-made g c = λ made start left h.
    let cell_is = λ (a : ℕ). c.compensation_cell-cell.ensures a c.args.update.now.at in
    let can = can_compensate c.args.target start (record_of_placed c.args.update.now) left c.args.held.now _ h c.requires.update c.compensation_cell-cell.result cell_is in
    let came = c.append_note.ensures.made made start h.state (length (record_of_placed c.args.update.now ∷ left)) h.gone can in
    compensate_goes c.args.target start (record_of_placed c.args.update.now) left c.args.held.now _ h c.requires.update c.compensation_cell-cell.result cell_is
    came.0 _ _ came.1 came.2

pub returns-clause-stopped : goal.returns-clause-stopped
returns-clause-stopped g c = λ stopped start left h.
    let cell_is = λ (a : ℕ). c.compensation_cell-cell.ensures a c.args.update.now.at in
    let can = can_compensate c.args.target start (record_of_placed c.args.update.now) left c.args.held.now _ h c.requires.update c.compensation_cell-cell.result cell_is in
    c.append_note.ensures.stopped stopped start h.state (length (record_of_placed c.args.update.now ∷ left)) h.gone can
