use Rattle.std.proofs.Common.{◌*◌, ◌-◌, ◌≤◌, sym, ap, ◌∙◌, arith, List, [], ◌∷◌, ℕ, Some}
use Rattle.std.specs.Prelude.{slice_get}
use Rattle.std.proofs.lemmas.Option.{slice_get_past}
use Rattle.region_layout.specs.declared.layout.Policy.TheVariants.{Force}
use Rattle.plan_records.specs.declared.parts.Part.{Part}
use Rattle.plan_records.specs.declared.parts.Part.TheVariants.{Append, Fence, Clear}
use Rattle.persist_model.specs.declared.kinds.Outcome.TheVariants.{RolledBack}
use Rattle.region_layout.specs.RecordCells.{cell_of_rollback, cell_of_end}
use Rattle.plan_records.proofs.PartNumbers.{behind_undo, undo_within}
use Rattle.force_policy.proofs.ending.abort_part.Goals as goal

abbrev rest : ℕ → List Part
rest t = Fence ∷ Append (cell_of_end t RolledBack) ∷ Clear ∷ []

within : (c : goal.After-len) → 2 * c.len.result ≤ c.args.i - 1
within c = undo_within Force c.args.undoing.now.updates c.args.i c.len.result c.if-i-eq0.false c.len.ensures (sym c.undo_part.ensures ∙ c.in_default.is)

pub overflow_mul-len : goal.overflow_mul-len
overflow_mul-len c = let h = within c in let r = c.ranges.i.fits in omega (arith, h, r)

pub overflow_sub-step-2 : goal.overflow_sub-step-2
overflow_sub-step-2 c = within c

pub returns-in-0 : goal.returns-in-0
returns-in-0 c = sym (behind_undo Force (Append (cell_of_rollback c.args.undoing.now.transaction)) c.args.undoing.now.updates (rest c.args.undoing.now.transaction) c.args.i c.len.result
    c.if-i-eq0.false c.len.ensures (sym c.undo_part.ensures ∙ c.in_default.is) ∙ ap (slice_get (rest c.args.undoing.now.transaction)) c.in-0.is)

pub returns-in-1 : goal.returns-in-1
returns-in-1 c = ap (λ x. Some (Append x)) c.end_cell.ensures ∙
    sym (behind_undo Force (Append (cell_of_rollback c.args.undoing.now.transaction)) c.args.undoing.now.updates (rest c.args.undoing.now.transaction) c.args.i c.len.result
    c.if-i-eq0.false c.len.ensures (sym c.undo_part.ensures ∙ c.in_default.is) ∙ ap (slice_get (rest c.args.undoing.now.transaction)) c.in-1.is)

pub returns-in-2 : goal.returns-in-2
returns-in-2 c = sym (behind_undo Force (Append (cell_of_rollback c.args.undoing.now.transaction)) c.args.undoing.now.updates (rest c.args.undoing.now.transaction) c.args.i c.len.result
    c.if-i-eq0.false c.len.ensures (sym c.undo_part.ensures ∙ c.in_default.is) ∙ ap (slice_get (rest c.args.undoing.now.transaction)) c.in-2.is)

pub returns-in_default-2 : goal.returns-in_default-2
returns-in_default-2 c = sym (behind_undo Force (Append (cell_of_rollback c.args.undoing.now.transaction)) c.args.undoing.now.updates (rest c.args.undoing.now.transaction) c.args.i c.len.result
    c.if-i-eq0.false c.len.ensures (sym c.undo_part.ensures ∙ c.in_default.is) ∙ slice_get_past (rest c.args.undoing.now.transaction) (c.args.i - 1 - 2 * c.len.result) (omega arith))
