use Rattle.std.proofs.Common.{◌≡◌}
use Rattle.region_tests.proofs.tests.replay.Given as goal

abbrev pub invariant-loop-made : goal.invariant-loop-made
invariant-loop-made g l = (g.D.Device.cells l.device).size ≡ 64
