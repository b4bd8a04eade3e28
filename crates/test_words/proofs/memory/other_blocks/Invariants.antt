use Rattle.test_words.specs.Blocks.{AreOthers}
use Rattle.test_words.proofs.memory.other_blocks.Given as goal

abbrev pub invariant-loop-k : goal.invariant-loop-k
invariant-loop-k l = AreOthers l.k l.found
