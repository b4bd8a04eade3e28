use Rattle.std.proofs.Common.{drop}
use Rattle.sound_check.proofs.Chains.{IsSplitLeft}
use Rattle.sound_check.proofs.points.stands_before.Given as goal

abbrev pub invariant-loop-x : goal.invariant-loop-x
invariant-loop-x l = IsSplitLeft l.chain l.p l.q l.before (drop l.x-index l.chain)
