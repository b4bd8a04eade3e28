use Rattle.std.proofs.Common.{◌≡◌, sym, subst}
use Rattle.lane_traits.specs.Device.{IsWithin}
use Rattle.region_tests.proofs.tests.replay.Goals as goal

pub make-requires-clause-address : goal.make-requires-clause-address
make-requires-clause-address g c = subst (λ n. IsWithin n c.draw_event-event.result.0) (sym c.loop-made.invariant) c.draw_event-event.ensures.address
