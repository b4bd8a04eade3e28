use Rattle.std.proofs.Common.{sym, arith}
use Rattle.std.proofs.lemmas.List.{take_all}
use Rattle.std.proofs.lemmas.List.Elements.{All-more, All-same}
use Rattle.lane_traits.specs.Device.{IsWithin}
use Rattle.log_tests.proofs.recovery_tests.are_inside.Goals as goal

pub loop-event-preserved : goal.loop-event-preserved
loop-event-preserved c = All-more (IsWithin c.args.size) c.args.events.now c.loop-event.event-index _ (omega arith) c.loop-event.invariant
    (c.is_inside.ensures c.if-not-is_inside.false)

pub returns : goal.returns
returns c = λ _. All-same (IsWithin c.args.size) c.args.events.now _ (sym (take_all c.loop-event.event-index c.args.events.now (omega arith))) c.loop-event.invariant
