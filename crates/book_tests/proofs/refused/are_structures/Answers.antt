use Rattle.std.proofs.Common.{arith}
use Rattle.book_tests.proofs.Guarding.{one_more}
use Rattle.book_tests.proofs.refused.are_structures.Goals as goal

pub loop-k-init : goal.loop-k-init
loop-k-init c = λ block s lt e. absurd (omega (arith, lt))

pub loop-k-preserved : goal.loop-k-preserved
loop-k-preserved c = one_more c.args.blocks.now c.loop-k.k c.standing.result c.loop-k.invariant c.standing.ensures (c.is_structure.ensures c.if-not-is_structure.false)
