use Rattle.std.specs.Prelude.{slice_index}
use Rattle.atomic_list.specs.Reads.{IsInChain}
use Rattle.log_tests.proofs.list_tests.reads.Given as goal

abbrev pub invariant-loop-bucket : goal.invariant-loop-bucket
invariant-loop-bucket g l = IsInChain (slice_index (g.W.Look.words l.words)) l.node
