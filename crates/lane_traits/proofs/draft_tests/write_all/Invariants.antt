use Rattle.lane_traits.specs.Space.{IsOwn}
use Rattle.lane_traits.specs.Draft.{drafted}
use Rattle.lane_traits.proofs.Held.{numbered}
use Rattle.lane_traits.proofs.draft_tests.write_all.Given as goal

abbrev pub invariant-loop-a : goal.invariant-loop-a
invariant-loop-a g l = IsOwn (drafted l.draft.structure l.draft.log.items l.draft.gives l.draft.spare numbered).land 16
