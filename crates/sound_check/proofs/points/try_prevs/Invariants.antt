use Rattle.std.specs.Prelude.{slice_index}
use Rattle.std.proofs.Common.{drop}
use Rattle.sound_check.proofs.Chains.{IsBackLeft}
use Rattle.sound_check.proofs.points.try_prevs.Given as goal

abbrev pub invariant-loop-b : goal.invariant-loop-b
invariant-loop-b g l = IsBackLeft (slice_index (g.W.Look.words l.words)) l.chain l.before (drop l.b-index l.chain)
