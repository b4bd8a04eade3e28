use Rattle.book_tests.proofs.Guarding.{AreStructuresBelow}
use Rattle.book_tests.proofs.refused.are_structures.Given as goal

abbrev pub invariant-loop-k : goal.invariant-loop-k
invariant-loop-k l = AreStructuresBelow l.blocks l.k
