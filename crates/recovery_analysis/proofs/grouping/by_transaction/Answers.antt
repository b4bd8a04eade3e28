use Rattle.std.proofs.Common.{rules}
use Rattle.std.proofs.lemmas.List.Sorted.{IsNonDecreasingBy-from_sort_by_key, answers_always}
use Rattle.recovery_analysis.proofs.Runs.{transaction_of, rises_from, stable_keeps}
use Rattle.recovery_analysis.proofs.grouping.by_transaction.Goals as goal

pub returns-clause-rises : goal.returns-clause-rises
returns-clause-rises c = rises_from c.sort_by_key.new.self.items
    (IsNonDecreasingBy-from_sort_by_key transaction_of _ c.in_ok-sort_by_key.ensures.sorted (λ a r q k. search rules))

pub returns-clause-kept : goal.returns-clause-kept
returns-clause-kept c = stable_keeps c.args.found.items c.sort_by_key.new.self.items
    (c.in_ok-sort_by_key.ensures.stable transaction_of (answers_always _ _ _ (λ f a r k h. search rules)))
