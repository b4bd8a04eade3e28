use Rattle.std.proofs.Common.{◌∙◌}
use Rattle.sound_check.proofs.Marked.{marked_tells}
use Rattle.sound_check.proofs.walk.is_marked.Goals as goal

pub returns : goal.returns
returns c = λ visited marks. marked_tells visited c.args.b c.contains.result (c.contains.ensures ∙ marks c.args.b)
