use Rattle.std.proofs.Common.{length, ap, ◌∙◌}
use Rattle.persist_model.proofs.Images.{length-newest_words}
use Rattle.log_tests.proofs.recovery_tests.ready.Goals as goal

pub returns-clause-size : goal.returns-clause-size
returns-clause-size g c = c.size.ensures ∙ ap length (g.met.D.Device.reads c.reserve.new.self) ∙ length-newest_words (g.D.Device.cells c.reserve.new.self)
