use Rattle.lane_traits.proofs.Held.{own_taken, own_kept, root_taken}
use Rattle.lane_traits.proofs.draft_tests.take.Goals as goal

pub returns-clause-taken : goal.returns-clause-taken
returns-clause-taken c = own_taken _ _ _ c.take.ensures.taken

pub returns-clause-kept : goal.returns-clause-kept
returns-clause-kept c = own_kept _ _ _ c.take.ensures.taken c.take.ensures.refused

pub returns-clause-root : goal.returns-clause-root
returns-clause-root c = root_taken _ _ _ c.take.ensures.taken c.take.ensures.refused
