use Rattle.std.proofs.Common.{length, ap, sym, subst}
use Rattle.persist_model.specs.Region.{Region, AreSettled}
use Rattle.recovery_tests.proofs.stop_tests.cut_short.Goals as goal

pub recover-requires : goal.recover-requires
recover-requires g c = record { settled = subst AreSettled (sym c.new-cut.ensures.cells) c.requires }

pub returns : goal.returns
returns g c = λ a inside. ap (λ (r : Region). length (r.at a)) c.restart.ensures.cells
