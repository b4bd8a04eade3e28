use Rattle.std.proofs.Common.{rules}
use Rattle.std.proofs.lemmas.Fn.{filter_same}
use Rattle.log_keeper.specs.Noting.{is_kept}
use Rattle.log_keeper.proofs.ledger.keep_open.Goals as goal

pub returns-clause-items : goal.returns-clause-items
returns-clause-items c =
    filter_same _ (is_kept c.args.gates.now c.args.ends.now c.args.checkpoints.now) _ (λ x b f k. search rules) _ _ c.retain.ensures.filtered
