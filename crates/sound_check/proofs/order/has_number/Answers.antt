use Rattle.std.proofs.Common.{true, sym, ◌∙◌}
use Rattle.sound_check.proofs.Ordering.{number_tells, some_holds}
use Rattle.sound_check.proofs.order.has_number.Goals as goal

pub returns : goal.returns
returns c = λ part marks earlier past. number_tells earlier c.args.number c.is_some.result (c.is_some.ensures ∙ some_holds c.numbered.result ∙ sym (c.numbered.ensures part marks earlier past (λ r. true)))
