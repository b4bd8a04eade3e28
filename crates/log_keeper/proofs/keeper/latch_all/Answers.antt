use Rattle.std.proofs.Common.{◌<◌, arith, length, get_or}
use Rattle.std.proofs.lemmas.List.{get_or_default}
use Rattle.std.proofs.lemmas.List.Edits.{map_over_more}
use Rattle.log_keeper.specs.Keeper.{held_by}
use Rattle.log_keeper.proofs.keeper.latch_all.Goals as goal

pub loop-slot-preserved : goal.loop-slot-preserved
loop-slot-preserved c =
    let s = c.loop-slot.slots in
    let i = c.loop-slot.slot-index in
    let within : i < length s = omega arith in
    let x = get_or s i c.slot-item.result in
    map_over_more (held_by c.args.lane) c.args.slots.now s i x c.loop-slot-test.true c.loop-slot.invariant (get_or_default s i c.slot-item.result x within)
