use Rattle.std.proofs.Common.{arith}
use Rattle.std.proofs.lemmas.Grind.{common_steps}
use Rattle.world_tests.proofs.SmallWorlds.{may_begin}
use Rattle.world_tests.proofs.guards.expect_begin.Goals as goal

pub returns : goal.returns
returns g c = λ base two. may_begin _ c.face.result _ (c.face.ensures base) (grind (arith, common_steps)) (omega arith) (omega arith) two
