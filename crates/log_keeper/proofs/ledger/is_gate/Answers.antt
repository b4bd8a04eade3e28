use Rattle.std.proofs.Common.{◌∙◌}
use Rattle.log_keeper.proofs.Searching.{search_is}
use Rattle.log_keeper.proofs.ledger.is_gate.Goals as goal

pub returns : goal.returns
returns c = c.is_ok.ensures.value ∙ search_is c.args.gates.now c.args.a c.binary_search.result c.requires c.binary_search.ensures.position
