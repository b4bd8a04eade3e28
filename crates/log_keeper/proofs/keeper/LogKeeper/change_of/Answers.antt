use Rattle.std.proofs.Common.{None, sym, ap, ◌∙◌, subst}
use Rattle.log_keeper.specs.Noting.{ledger_of}
use Rattle.log_keeper.specs.Changes.{all_records, left_behind, IsLastChange}
use Rattle.log_keeper.proofs.LastChanges.{last_change_is}
use Rattle.log_keeper.proofs.keeper.LogKeeper.change_of.Goals as goal

pub returns : goal.returns
returns c = λ first. subst (IsLastChange c.args.transaction c.args.word (all_records (ledger_of c.args.self.now.ledger.items)))
    (sym (c.last_change.ensures ∙ ap (λ xs. left_behind c.args.transaction c.args.word (all_records (ledger_of xs)) None) c.as_slice.ensures.value))
    (last_change_is c.args.transaction c.args.word (ledger_of c.args.self.now.ledger.items) first)
