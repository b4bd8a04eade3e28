use Rattle.lane_book.proofs.Asking.{on_ok}
use Rattle.std.proofs.Common.{◌≡◌, true, refl, sym, subst, arith}
use Rattle.offset_alloc.specs.Blocks.{IsFree}
use Rattle.lane_book.specs.declared.lane.Lane.{Lane}
use Rattle.lane_types.specs.Heaps.{has_bit}
use Rattle.txn_core.proofs.AskedEnds.{is_between}
use Rattle.txn_core.proofs.AskedFaces.{owed_phases, either_way}
use Rattle.txn_core.proofs.Facts.{is_book}
use Rattle.txn_core.proofs.Reading.{read_of}
use Rattle.txn_core.proofs.AskedWriting.{on_ok_three, on_err_two, lacks_at_once, lacks_behind}
use Rattle.txn_core.proofs.AskedTake.{take_asked, take_asked_at, block_there, block_mid}
use Rattle.txn_core.proofs.AskedExactly.{beside_taken, beside_roomier, beside_goes, take_owes}
use Rattle.lane_book.specs.FacesOf.{lane_at}
use Rattle.lane_book.specs.Lanes.{owing}
use Rattle.lane_book.proofs.Asking.{on_err}
use Rattle.txn_core.proofs.Unasked.{unasked_at_once, unasked_behind}
use Rattle.txn_core.proofs.ask_takes.ask_take.Goals as goal

pub take_memory-requires-clause-book : goal.take_memory-requires-clause-book
take_memory-requires-clause-book g c = is_book g.E.Deed.meaning c.args.layout c.args.book.now c.args.log.now (g.D.Device.cells c.args.device.now) (g.D.Device.spare c.args.device.now)
    (g.D.Device.counts c.args.device.now) c.requires.world

pub returns-in-Ok-clause-asked : goal.returns-in-Ok-clause-asked
returns-in-Ok-clause-asked g c =
    let events = c.write_wants.ensures.events in
    let records = c.write_wants.ensures.records in
    on_ok_three c.ask_take.result (λ has reserves asks. take_asked g.E.Deed.meaning c.args.layout c.args.book.now c.take_memory.new.book c.ask_take.new.self c.args.log.now c.take_memory.new.log
    (g.D.Look.words c.args.device.now) (g.D.Device.cells c.args.device.now) (g.D.Device.spare c.args.device.now) (g.D.Device.spare c.take_memory.new.device) (g.D.Device.counts c.args.device.now) c.args.lane
    (read_of _ _ (g.D.Device.counts c.args.device.now) (g.met.D.Device.reads c.args.device.now) (g.met.D.Device.full c.args.device.now) (g.met.D.Device.within c.args.device.now)
    (g.met.D.Device.budget_fits c.args.device.now)) c.requires.lane c.requires.nothing c.requires.phase
    (owed_phases c.args.book.now c.take_memory.new.book c.args.lane _ _ c.in-Ok.ensures.owes) c.take_memory.ensures.stays c.write_wants.result.events c.write_wants.result.records c.in-Ok.ensures.owes
    c.ask_take.ensures.book c.args.structure c.in-Some.block c.requires.room (omega (arith, events)) (omega (arith, records))
    (take_asked_at c.args.layout c.take_memory.new.book c.ask_take.new.self c.args.lane c.args.structure c.in-Some.block _ (subst (λ bs. IsFree bs c.in-Some.block) (sym c.in-Ok.ensures.owes.goes.lanes.blocks) c.in-Some.ensures.least.free)
    (subst (λ (x : Lane _). has_bit x.held c.args.structure ≡ true) (sym c.in-Ok.ensures.owes.goes.lanes.here) c.requires.held)
    (let most = c.args.layout.structures_within in let few = c.requires.structure in omega (arith, most, few)) c.block.ensures has)
    (reserves c.args.layout.cells) asks)
    c.ask_take.ensures.asked c.ask_take.ensures.reserved c.ask_take.ensures.ok

pub returns-in-Ok-clause-lacks : goal.returns-in-Ok-clause-lacks
returns-in-Ok-clause-lacks g c = on_err_two c.ask_take.result (λ roomier asks. lacks_behind g.E.Deed.meaning c.args.layout c.args.book.now c.take_memory.new.book c.ask_take.new.self c.args.log.now c.take_memory.new.log
    (g.D.Look.words c.args.device.now) (g.D.Device.cells c.args.device.now) (g.D.Device.spare c.args.device.now) (g.D.Device.spare c.take_memory.new.device) (g.D.Device.counts c.args.device.now) c.args.lane
    (read_of _ _ (g.D.Device.counts c.args.device.now) (g.met.D.Device.reads c.args.device.now) (g.met.D.Device.full c.args.device.now) (g.met.D.Device.within c.args.device.now)
    (g.met.D.Device.budget_fits c.args.device.now)) c.requires.lane c.requires.nothing c.requires.phase
    (owed_phases c.args.book.now c.take_memory.new.book c.args.lane _ _ c.in-Ok.ensures.owes) c.take_memory.ensures.stays c.write_wants.result.events c.write_wants.result.records c.in-Ok.ensures.owes
    c.ask_take.ensures.book roomier asks) c.ask_take.ensures.roomier c.ask_take.ensures.err

pub returns-in-Err-clause-lacks : goal.returns-in-Err-clause-lacks
returns-in-Err-clause-lacks g c = lacks_at_once g.E.Deed.meaning c.args.layout c.args.book.now c.take_memory.new.book c.take_memory.new.book c.args.log.now c.take_memory.new.log
    (g.D.Look.words c.args.device.now) (g.D.Device.cells c.args.device.now) (g.D.Device.spare c.args.device.now) (g.D.Device.spare c.take_memory.new.device) (g.D.Device.counts c.args.device.now) c.args.lane
    (read_of _ _ (g.D.Device.counts c.args.device.now) (g.met.D.Device.reads c.args.device.now) (g.met.D.Device.full c.args.device.now) (g.met.D.Device.within c.args.device.now)
    (g.met.D.Device.budget_fits c.args.device.now)) c.requires.lane c.requires.nothing c.requires.phase
    (owed_phases c.args.book.now c.take_memory.new.book c.args.lane _ _ c.in-Err.ensures.owes_nothing) c.take_memory.ensures.stays c.in-Err.ensures.owes_nothing

pub returns-in-Ok-clause-beside : goal.returns-in-Ok-clause-beside
returns-in-Ok-clause-beside g c = either_way c.ask_take.result
    (λ asked. beside_taken c.args.book.now c.take_memory.new.book c.ask_take.new.self c.args.lane c.write_wants.result.events c.write_wants.result.records c.args.structure c.in-Some.block _ _ _ c.requires.lane c.in-Ok.ensures.owes c.in-Some.ensures.least asked)
    (λ roomier. beside_roomier c.args.book.now c.take_memory.new.book c.ask_take.new.self c.args.lane c.write_wants.result.events c.write_wants.result.records c.requires.lane c.in-Ok.ensures.owes roomier)
    c.ask_take.ensures.asked c.ask_take.ensures.roomier

pub returns-in-Ok-clause-owes : goal.returns-in-Ok-clause-owes
returns-in-Ok-clause-owes g c = on_ok c.ask_take.result
    (λ asked. take_owes c.args.layout c.args.book.now c.take_memory.new.book c.ask_take.new.self c.args.lane c.write_wants.result.events c.write_wants.result.records c.args.structure c.in-Some.block _ _ _ c.in-Ok.ensures.owes c.write_wants.ensures.events asked)
    c.ask_take.ensures.asked

pub returns-in-Err-clause-beside : goal.returns-in-Err-clause-beside
returns-in-Err-clause-beside g c = beside_goes c.args.book.now c.take_memory.new.book c.args.lane (owing 0 0 (lane_at c.args.book.now c.args.lane)) c.in-Err.ensures.owes_nothing.goes c.in-Err.ensures.owes_nothing.stopped

pub returns-in-Ok-clause-unasked : goal.returns-in-Ok-clause-unasked
returns-in-Ok-clause-unasked g c = on_err c.ask_take.result
    (λ roomier. unasked_behind c.args.book.now c.ask_take.new.self c.args.log.now c.take_memory.new.log (g.D.Device.spare c.args.device.now) (g.D.Device.spare c.take_memory.new.device) c.args.lane
    c.take_memory.new.book c.write_wants.result.events c.write_wants.result.records c.in-Ok.ensures.owes (is_between (lane_at c.args.book.now c.args.lane) c.requires.nothing c.requires.phase)
    roomier c.take_memory.ensures.more) c.ask_take.ensures.roomier

pub returns-in-Err-clause-unasked : goal.returns-in-Err-clause-unasked
returns-in-Err-clause-unasked g c = unasked_at_once c.args.book.now c.take_memory.new.book c.args.log.now c.take_memory.new.log (g.D.Device.spare c.args.device.now)
    (g.D.Device.spare c.take_memory.new.device) c.args.lane 0 0 c.in-Err.ensures.owes_nothing (is_between (lane_at c.args.book.now c.args.lane) c.requires.nothing c.requires.phase) c.take_memory.ensures.more

pub returns-in_default-clause-lacks : goal.returns-in_default-clause-lacks
returns-in_default-clause-lacks g c = absurd (c.requires.free (c.in_default.ensures.none.0 refl))

-- the block is one of the heap's
pub block-requires : goal.block-requires
block-requires g c = block_there g.E.Deed.meaning c.args.layout c.args.book.now c.args.log.now (g.D.Device.cells c.args.device.now) (g.D.Device.spare c.args.device.now)
    (g.D.Device.counts c.args.device.now) c.in-Some.block c.in-Some.ensures.least.free c.requires.world

pub ask_take-requires-clause-block : goal.ask_take-requires-clause-block
ask_take-requires-clause-block g c = block_mid c.args.book.now c.take_memory.new.book c.args.lane c.write_wants.result.events c.write_wants.result.records c.in-Some.block c.in-Ok.ensures.owes c.in-Some.ensures.least.free
