use Rattle.std.proofs.Common.{length, ap, sym, subst}
use Rattle.persist_model.specs.Region.{Region, AreSettled}
use Rattle.migration.proofs.tests.cut_short.Goals as goal

pub migrate-requires-clause-settled : goal.migrate-requires-clause-settled
migrate-requires-clause-settled g c = subst AreSettled (sym c.new-cut.ensures.cells) c.requires.settled

pub returns : goal.returns
returns g c = λ a inside. ap (λ (r : Region). length (r.at a)) c.restart.ensures.cells
