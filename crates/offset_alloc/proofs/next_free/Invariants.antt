use Rattle.offset_alloc.specs.Blocks.{NoneIsFreeBelow}
use Rattle.offset_alloc.proofs.next_free.Given as goal

abbrev pub invariant-loop-k : goal.invariant-loop-k
invariant-loop-k l = NoneIsFreeBelow l.standings l.k
