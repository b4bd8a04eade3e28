use Rattle.atomic_list.proofs.RulesToCases.{list_of_rules}
use Rattle.atomic_list.proofs.CasesToRules.{rules_of_list}
use Rattle.atomic_list.proofs.laws.rules_are_cases.Goals as goal

pub returns : goal.returns
returns c = λ shape p w chain. (list_of_rules shape p w chain, rules_of_list shape p w chain)
