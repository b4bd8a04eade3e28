use Rattle.std.proofs.Common.{subst, rules}
use Rattle.lane_traits.specs.Draft.{of_structure, AreSetAside}
use Rattle.lane_traits.proofs.Held.{numbered, three_aside}
use Rattle.lane_traits.proofs.draft_tests.fresh.Goals as goal

pub new-requires-clause-set_aside : goal.new-requires-clause-set_aside
new-requires-clause-set_aside c = subst (AreSetAside (of_structure 0 numbered.land)) (search rules) three_aside
