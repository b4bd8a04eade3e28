use Rattle.std.proofs.Common.{refl, arith}
use Rattle.recovery_undo.proofs.Going.{note_take, note_spare, note_fits, note_next, note_halts, note_goes}
use Rattle.recovery_undo.proofs.undoing.append_note.Goals as goal

pub append_record-requires-clause-can : goal.append_record-requires-clause-can
append_record-requires-clause-can g c =
    let at = c.requires in
    (at.0.first, at.1, note_take c.args.target at.0 at.1 at.2 c.args.held.now _ at.3 c.args.cell.now at.4)

pub append_record-requires-clause-spare : goal.append_record-requires-clause-spare
append_record-requires-clause-spare g c =
    let at = c.requires in
    note_spare c.args.target at.0 at.1 at.2 c.args.held.now _ at.3 c.args.cell.now at.4

pub append_record-requires-clause-table : goal.append_record-requires-clause-table
append_record-requires-clause-table g c = c.requires.3.holds.table

pub put_gate-requires : goal.put_gate-requires
put_gate-requires g c =
    let at = c.requires in
    note_fits c.args.target at.0 at.1 at.2 c.args.held.now _ at.3 c.args.cell.now at.4

pub overflow_add-held : goal.overflow_add-held
overflow_add-held g c =
    let at = c.requires in
    let lt = note_next c.args.target at.0 at.1 at.2 c.args.held.now _ at.3 c.args.cell.now at.4 in
    omega (arith, lt)

pub returns-in-Stopped-clause-stopped : goal.returns-in-Stopped-clause-stopped
returns-in-Stopped-clause-stopped g c = λ same start z left h can.
    note_halts c.args.target start z left c.args.held.now _ h c.args.cell.now can _
    (c.in-Stopped.ensures.stopped refl start.first z h.sound (note_take c.args.target start z left c.args.held.now _ h c.args.cell.now can) can.comes)
    (record { counted = c.in-Stopped.ensures.counted; spare = c.in-Stopped.ensures.spare; header = c.in-Stopped.ensures.header })

pub returns-in-At-clause-made : goal.returns-in-At-clause-made
returns-in-At-clause-made g c = λ same start z left h can.
    let take = note_take c.args.target start z left c.args.held.now _ h c.args.cell.now can in (
      c.in-At.at,
      c.in-At.ensures.part,
      note_goes c.args.target start z left c.args.held.now _ h c.args.cell.now can c.in-At.at _ _
          (c.in-At.ensures.made start.first z take can.comes)
          (λ q lt. c.in-At.ensures.quiet q lt (h.quiet q lt))
          (record { counted = c.in-At.ensures.counted; spare = c.in-At.ensures.spare; header = c.in-At.ensures.header })
          (c.in-At.ensures.table) refl c.put_gate.ensures.items c.put_gate.ensures.len c.put_gate.ensures.capacity refl refl,
    )
