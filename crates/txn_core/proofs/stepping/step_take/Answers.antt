use Rattle.std.proofs.Common.{◌∙◌, ◌+◌, ap, sym}
use Rattle.lane_book.specs.FacesOf.{lane_at}
use Rattle.txn_core.proofs.Stagings.{take_storing, take_naming}
use Rattle.txn_core.proofs.Taking.{taken_inside, takes_it}
use Rattle.txn_core.proofs.stepping.step_take.Goals as goal

pub store_owner-requires-clause-inside : goal.store_owner-requires-clause-inside
store_owner-requires-clause-inside g c = taken_inside g.E.Deed.meaning c.args.layout c.args.book.now c.args.log.now (g.D.Device.cells c.args.device.now) (g.D.Device.spare c.args.device.now)
    (g.D.Device.counts c.args.device.now) c.args.lane c.args.structure c.args.block c.requires.doing c.requires.world

pub store_owner-requires-clause-stage : goal.store_owner-requires-clause-stage
store_owner-requires-clause-stage g c = take_storing (lane_at c.args.book.now c.args.lane) c.args.structure c.args.block c.requires.doing (sym c.part-part.ensures ∙ c.if-part-eq-STORE.true)

pub block-requires : goal.block-requires
block-requires g c = taken_inside g.E.Deed.meaning c.args.layout c.args.book.now c.args.log.now (g.D.Device.cells c.args.device.now) (g.D.Device.spare c.args.device.now)
    (g.D.Device.counts c.args.device.now) c.args.lane c.args.structure c.args.block c.requires.doing c.requires.world

pub append_update-requires-clause-puts : goal.append_update-requires-clause-puts
append_update-requires-clause-puts g c = takes_it c.args.layout _ c.args.structure c.args.block _ _ c.requires.doing c.block.ensures (ap (λ n. n + 1) c.from-owner.ensures)

pub append_update-requires-clause-stage : goal.append_update-requires-clause-stage
append_update-requires-clause-stage g c = take_naming (lane_at c.args.book.now c.args.lane) c.args.structure c.args.block c.requires.doing (λ is. c.if-part-eq-STORE.false (c.part-part.ensures ∙ is))
