use Rattle.std.proofs.Common.{sym, ap, ◌∙◌, Some}
use Rattle.plan_records.specs.declared.parts.Part.TheVariants.{Append, Word}
use Rattle.plan_records.proofs.PartNumbers.{undo_even, undo_odd, undo_past}
use Rattle.plan_records.proofs.sequences.undo_part.Goals as goal

pub returns-in-None : goal.returns-in-None
returns-in-None c = sym (undo_past c.args.policy c.args.updates.now c.args.i (sym c.in-None.ensures))

pub returns-then-i-eq0 : goal.returns-then-i-eq0
returns-then-i-eq0 c = ap (λ x. Some (Append x)) c.compensation_cell.ensures
    ∙ sym (undo_even c.args.policy c.args.updates.now c.args.i c.in-Some.update.now (sym c.in-Some.ensures) c.if-i-eq0.true)

pub returns-else-i-eq0 : goal.returns-else-i-eq0
returns-else-i-eq0 c = ap (λ x. Some (Word x)) c.word_store.ensures
    ∙ sym (undo_odd c.args.policy c.args.updates.now c.args.i c.in-Some.update.now (sym c.in-Some.ensures) c.if-i-eq0.false)
