use Rattle.std.specs.Prelude.{slice_index}
use Rattle.rest_check.specs.Rest.{AreQuiet}
use Rattle.rest_check.proofs.reading.first_asked.Given as goal

abbrev pub invariant-loop-p : goal.invariant-loop-p
invariant-loop-p g l = AreQuiet l.p (slice_index (g.W.Look.words l.words))
