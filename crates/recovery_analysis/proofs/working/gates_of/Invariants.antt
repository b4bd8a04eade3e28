use Rattle.std.proofs.Common.{◌+◌, ◌-◌, length, take}
use Rattle.recovery_analysis.specs.Works.{HasSpare}
use Rattle.recovery_analysis.proofs.Gathering.{HasGates}
use Rattle.recovery_analysis.proofs.working.gates_of.Given as goal

abbrev pub invariant-loop-placed : goal.invariant-loop-placed
invariant-loop-placed l = record {
  gates : HasGates (take l.placed-index l.merged) l.made.gates.items l.made.ends.items l.made.checkpoints.items;
  spare : HasSpare l.made (l.more + (length l.merged - l.placed-index)) (l.ends + (length l.merged - l.placed-index)) (1 + (length l.merged - l.placed-index));
}
