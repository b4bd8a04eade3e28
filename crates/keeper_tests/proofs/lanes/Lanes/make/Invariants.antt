use Rattle.keeper_tests.specs.Kept.{IsKeeperOf}
use Rattle.keeper_tests.proofs.lanes.Lanes.make.Given as goal

abbrev pub invariant-loop-i : goal.invariant-loop-i
invariant-loop-i g l = IsKeeperOf l.self.layout.partitions l.self.keeper
