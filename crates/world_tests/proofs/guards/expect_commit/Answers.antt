use Rattle.std.proofs.Common.{arith}
use Rattle.world_tests.proofs.SmallWorlds.{may_commit}
use Rattle.world_tests.proofs.guards.expect_commit.Goals as goal

pub returns : goal.returns
returns g c = λ base sorts. may_commit _ c.face.result c.args.deed.now (c.face.ensures base) (omega arith) sorts
