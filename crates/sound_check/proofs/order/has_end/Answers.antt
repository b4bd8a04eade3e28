use Rattle.std.proofs.Common.{◌∙◌}
use Rattle.sound_check.proofs.Ordering.{end_tells}
use Rattle.sound_check.proofs.order.has_end.Goals as goal

pub returns : goal.returns
returns c = λ part t log own. end_tells log t c.is_some.result (c.is_some.ensures ∙ own.end)
