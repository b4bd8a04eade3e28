use Rattle.std.proofs.Common.{◌^◌, arith}
use Rattle.log_keeper.specs.Fitting.{FitsLayout}
use Rattle.keeper_tests.proofs.Kept.{part_of_slot, made_of_slot}
use Rattle.keeper_tests.proofs.lanes.Lanes.step.Goals as goal

pub next_event-requires-clause-fits : goal.next_event-requires-clause-fits
next_event-requires-clause-fits g c = part_of_slot (FitsLayout c.args.self.now.layout) c.args.self.now.keeper.slots.items c.args.p c.index-slot.result.now (omega arith) c.index-slot.ensures (c.fits.ensures c.if-not-fits.false)

pub made-requires-clause-fits : goal.made-requires-clause-fits
made-requires-clause-fits g c = part_of_slot (FitsLayout c.args.self.now.layout) c.args.self.now.keeper.slots.items c.args.p c.index-slot.result.now (omega arith) c.index-slot.ensures (c.fits.ensures c.if-not-fits.false)

pub made-requires-clause-few : goal.made-requires-clause-few
made-requires-clause-few g c = (let small = made_of_slot (2 ^ 62) c.args.self.now.keeper.slots.items c.args.p c.index-slot.result.now (omega arith) c.index-slot.ensures (let few = c.if-slot-gt1000.false in omega (arith, few)) in omega (arith, small))
