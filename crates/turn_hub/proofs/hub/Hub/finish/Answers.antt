use Rattle.std.proofs.Common.{refl, ◌∙◌}
use Rattle.turn_hub.specs.Hub.{here}
use Rattle.turn_hub.proofs.Runs.{through}
use Rattle.turn_hub.proofs.hub.Hub.finish.Goals as goal

pub loop-init : goal.loop-init
loop-init g c = (tt, tt, refl, refl, here _)

pub loop-preserved : goal.loop-preserved
loop-preserved g c =
    let i = c.loop.invariant in
    (tt, tt, c.in_default.ensures.lane ∙ i.2, c.in_default.ensures.hub ∙ i.3, through _ i.4 (c.in_default.ensures.on refl))
