use Rattle.std.proofs.Common.{◌*◌, ◌≤◌, sym, ◌∙◌, arith}
use Rattle.plan_records.specs.Sequences.{undo_parts}
use Rattle.save_point.specs.Plans.{gate_parts}
use Rattle.save_point.proofs.Numbers.{undo_within, behind_undo}
use Rattle.plan_records.proofs.PartNumbers.{slice_get-left}
use Rattle.save_point.proofs.plan.back_part.Goals as goal

within : (c : goal.After-len) → 2 * c.len.result ≤ c.args.i
within c = undo_within c.args.policy c.args.undoing.now.updates c.args.i c.len.result c.len.ensures (sym c.undo_part.ensures ∙ c.in_default.is)

pub overflow_mul-len : goal.overflow_mul-len
overflow_mul-len c = let h = within c in let r = c.ranges.i.fits in omega (arith, h, r)

pub overflow_sub-i : goal.overflow_sub-i
overflow_sub-i c = within c

pub returns : goal.returns
returns c = c.owner_part.ensures ∙ sym (behind_undo c.args.policy c.args.undoing.now.updates (gate_parts c.args.gates.now) c.args.i c.len.result
    c.len.ensures (sym c.undo_part.ensures ∙ c.in_default.is))

pub returns-in-Some : goal.returns-in-Some
returns-in-Some c = sym (slice_get-left (undo_parts c.args.policy c.args.undoing.now.updates) (gate_parts c.args.gates.now) c.args.i c.in-Some.part
    (sym c.undo_part.ensures ∙ c.in-Some.is))
