use Rattle.std.proofs.Common.{ap, ◌∙◌}
use Rattle.log_keeper.specs.Noting.{ledger_of}
use Rattle.log_keeper.proofs.Noting.{ledger-push}
use Rattle.log_keeper.proofs.ledger.note.Goals as goal

pub returns-clause-ledger : goal.returns-clause-ledger
returns-clause-ledger c = ap ledger_of c.put.ensures.items ∙ ledger-push c.args.ledger.now.items c.args.entry
