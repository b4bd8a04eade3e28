use Rattle.lane_traits.specs.Draft.{drafted}
use Rattle.persist_cells.specs.Calls.{HoldsMap}
use Rattle.persist_cells.proofs.Fresh.{memory_space}
use Rattle.persist_cells.proofs.tests.follow.Given as goal

abbrev pub invariant-loop-step : goal.invariant-loop-step
invariant-loop-step g l = HoldsMap (drafted l.words.structure l.words.log.items l.words.gives l.words.spare (memory_space l.words.base.words.items)) 16
