use Rattle.std.proofs.Common.{◌≡◌}
use Rattle.pooled_region.specs.Pool.{place_at}
use Rattle.pooled_region.proofs.walks.place_behind.Given as goal

abbrev pub invariant-loop-step : goal.invariant-loop-step
invariant-loop-step l = l.place ≡ place_at l.places l.start l._step
