use Rattle.std.specs.Prelude.{◌≡◌}
use Rattle.lane_traits.specs.Space.{root_block}
use Rattle.persist_hash.specs.Calls.{HasMap}
use Rattle.persist_hash.proofs.tests.steps.follow.Given as goal

abbrev pub invariant-loop-step : goal.invariant-loop-step
invariant-loop-step g l = HasMap (g.W.Reads.space l.words) 16 × (root_block (g.W.Reads.space l.words).land ≡ 16)
