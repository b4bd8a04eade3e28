use Rattle.std.proofs.Common.{sym, arith}
use Rattle.log_clearing.proofs.PlanEvents.{group_at, group_fence, group_past}
use Rattle.log_keeper.proofs.closing.group_event.Goals as goal

pub returns-then-i-count : goal.returns-then-i-count
returns-then-i-count c = let lt = c.if-i-count.true in sym (group_at c.args.gates.now c.args.i (omega (arith, lt)))

pub returns-then-i-count-2 : goal.returns-then-i-count-2
returns-then-i-count-2 c = sym (group_fence c.args.gates.now c.args.i c.if-i-count-2.true c.if-count-eq0.false)

pub returns : goal.returns
returns c = let ge = c.if-i-count.false in sym (group_past c.args.gates.now c.args.i (omega (arith, ge)) (λ e. absurd (c.if-i-count-2.false e)))
