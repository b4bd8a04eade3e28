use Rattle.std.proofs.Common.{refl, ◌∙◌}
use Rattle.hub_tests.proofs.runs.asks_until_heard.Goals as goal

pub loop-init : goal.loop-init
loop-init g c = (tt, tt, refl, refl)

pub loop-preserved : goal.loop-preserved
loop-preserved g c =
    let i = c.loop.invariant in
    (tt, tt, c.asks.ensures.lane ∙ i.2, c.asks.ensures.hub ∙ i.3)
