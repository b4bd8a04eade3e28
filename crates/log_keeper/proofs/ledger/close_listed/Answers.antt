use Rattle.std.proofs.Common.{ap, ◌∙◌}
use Rattle.log_keeper.specs.Noting.{ledger_of}
use Rattle.log_keeper.proofs.Noting.{ledger-kept}
use Rattle.log_keeper.proofs.ledger.close_listed.Goals as goal

pub returns-clause-ledger : goal.returns-clause-ledger
returns-clause-ledger c = ap ledger_of c.keep_open.ensures.items
    ∙ ledger-kept c.args.gates.now c.args.ends.now c.args.checkpoints.now c.args.ledger.now.items
