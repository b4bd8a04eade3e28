use Rattle.std.proofs.Common.{All, take}
use Rattle.lane_traits.specs.Device.{IsWithin}
use Rattle.log_tests.proofs.recovery_tests.are_inside.Given as goal

abbrev pub invariant-loop-event : goal.invariant-loop-event
invariant-loop-event l = All (IsWithin l.size) (take l.event-index l.events)
