use Rattle.std.proofs.Common.{sym, subst, arith}
use Rattle.lane_traits.specs.Space.{Space, IsOwn}
use Rattle.lane_traits.proofs.Held.{within_first}
use Rattle.lane_traits.proofs.draft_tests.write.Goals as goal

pub write-requires : goal.write-requires
write-requires g c = within_first _ _ (subst (λ (s : Space). IsOwn s.land 16) (sym c.read-before.ensures.same) c.requires) (omega arith) (omega arith)
