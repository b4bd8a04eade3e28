use Rattle.std.proofs.Common.{◌∙◌}
use Rattle.recovery_analysis.proofs.Redoing.{search_is}
use Rattle.recovery_analysis.proofs.changing.contains.Goals as goal

pub returns : goal.returns
returns c = c.is_ok.ensures.value ∙ search_is c.args.numbers.now c.args.number c.binary_search.result c.requires c.binary_search.ensures.position
