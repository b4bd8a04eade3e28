use Rattle.std.proofs.Common.{length, ap}
use Rattle.persist_model.specs.Region.{Region}
use Rattle.migration.proofs.tests.loaded.Goals as goal

pub returns : goal.returns
returns g c = λ a inside. ap (λ (r : Region). length (r.at a)) c.in-Ok.ensures.cells
