use Rattle.std.proofs.Common.{length, ap}
use Rattle.persist_model.specs.Region.{Region}
use Rattle.world_tests.proofs.regions.loaded.Goals as goal

pub returns-clause-settled : goal.returns-clause-settled
returns-clause-settled g c = λ a inside. ap (λ (r : Region). length (r.at a)) c.in-Ok.ensures.cells
