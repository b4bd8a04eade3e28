use Rattle.std.proofs.Common.{arith}
use Rattle.lane_traits.proofs.Held.{given_keeps, root_given}
use Rattle.lane_traits.proofs.draft_tests.give.Goals as goal

pub give-requires-clause-not_root : goal.give-requires-clause-not_root
give-requires-clause-not_root c = λ e. let root = c.requires.root in let positive = c.requires.own.0.positive in omega (arith, e, root, positive)

pub returns-clause-kept : goal.returns-clause-kept
returns-clause-kept c = given_keeps _ _ _ _ c.give.ensures.given c.give.ensures.refused

pub returns-clause-root : goal.returns-clause-root
returns-clause-root c = root_given _ _ _ _ c.give.ensures.given c.give.ensures.refused c.requires.root
