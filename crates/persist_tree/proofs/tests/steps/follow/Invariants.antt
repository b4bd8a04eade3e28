use Rattle.std.specs.Prelude.{◌≡◌}
use Rattle.lane_traits.specs.Space.{root_block}
use Rattle.lane_traits.specs.Draft.{drafted}
use Rattle.persist_tree.specs.Calls.{HoldsMap}
use Rattle.persist_tree.proofs.Fresh.{memory_space}
use Rattle.persist_tree.proofs.tests.steps.follow.Given as goal

abbrev pub invariant-loop-step : goal.invariant-loop-step
invariant-loop-step g l =
    let s = drafted l.words.structure l.words.log.items l.words.gives l.words.spare (memory_space l.words.base.words.items) in
    HoldsMap s 16 × (root_block s.land ≡ 16)
