use Rattle.std.proofs.Common.{◌≡◌, ◌<◌, length, sym, ap, subst}
use Rattle.lane_book.specs.declared.lane.Lane.{Lane}
use Rattle.lane_book.specs.FacesOf.{lane_at}
use Rattle.lane_book.proofs.Faces.{lane_read}
use Rattle.txn_core.proofs.Facts.{is_book}
use Rattle.txn_core.proofs.Unasked.{still_world, restored, restored_lane, restored_beside}
use Rattle.txn_core.proofs.asking.ask_whole.Goals as goal
use Rattle.txn_core.proofs.asking.ask_whole.Goals.{In-Err}

-- the book where the call isn't asked has the lane
inside : (g : _) (c : In-Err g) → c.args.lane < length c.ask_fitting.new.book.lanes.items
inside g c = subst (λ n. c.args.lane < n) (sym c.in-Err.ensures.lacks.face.many) c.requires.can.lane

-- the numbers are the lane's
lane_is : (g : _) (c : In-Err g) → c.index-kept.result.now ≡ lane_at c.args.book.now c.args.lane
lane_is g c = lane_read c.args.book.now c.args.lane c.index-kept.result.now c.requires.can.lane c.index-kept.ensures

pub owe-requires-clause-lane : goal.owe-requires-clause-lane
owe-requires-clause-lane g c = inside g (goal.at.owe-requires-clause-lane g c).In-Err

pub owe-requires-clause-book : goal.owe-requires-clause-book
owe-requires-clause-book g c = is_book g.E.Deed.meaning c.args.layout c.ask_fitting.new.book c.ask_fitting.new.log (g.D.Device.cells c.args.device.now) (g.D.Device.spare c.ask_fitting.new.device)
    (g.D.Device.counts c.args.device.now)
    (still_world g.E.Deed.meaning c.args.layout c.args.book.now c.ask_fitting.new.book c.args.log.now c.ask_fitting.new.log (g.D.Device.cells c.args.device.now) (g.D.Device.spare c.args.device.now)
    (g.D.Device.spare c.ask_fitting.new.device) (g.D.Device.counts c.args.device.now) c.args.lane c.requires.world c.in-Err.ensures.lacks)

pub returns-in-Err-clause-lacks : goal.returns-in-Err-clause-lacks
returns-in-Err-clause-lacks g c =
    let at = (goal.at.returns-in-Err-clause-lacks g c).In-Err in
    restored c.args.book.now c.ask_fitting.new.book c.owe.new.self c.args.lane _ _ (inside g at) (ap (λ (x : Lane _). x.owed_events) (lane_is g at)) (ap (λ (x : Lane _). x.owed_records) (lane_is g at))
    c.owe.ensures.is c.ask_fitting.ensures.beside c.in-Err.ensures.lacks.face.many c.in-Err.ensures.unasked.blocks g.E.Deed.meaning c.args.layout c.args.log.now c.ask_fitting.new.log (g.D.Device.cells c.args.device.now)
    (g.D.Device.spare c.args.device.now) (g.D.Device.spare c.ask_fitting.new.device) (g.D.Device.counts c.args.device.now) c.owe.ensures.book c.in-Err.ensures.unasked c.in-Err.ensures.lacks
    c.owe.ensures.faces

pub returns-in-Err-clause-leaves : goal.returns-in-Err-clause-leaves
returns-in-Err-clause-leaves g c =
    let at = (goal.at.returns-in-Err-clause-leaves g c).In-Err in
    restored_lane c.args.book.now c.ask_fitting.new.book c.owe.new.self c.args.lane _ _ (inside g at) (ap (λ (x : Lane _). x.owed_events) (lane_is g at)) (ap (λ (x : Lane _). x.owed_records) (lane_is g at))
    c.owe.ensures.is c.ask_fitting.ensures.beside c.in-Err.ensures.lacks.face.many c.in-Err.ensures.unasked.blocks c.in-Err.ensures.unasked

pub returns-in-Err-clause-beside : goal.returns-in-Err-clause-beside
returns-in-Err-clause-beside g c =
    let at = (goal.at.returns-in-Err-clause-beside g c).In-Err in
    restored_beside c.args.book.now c.ask_fitting.new.book c.owe.new.self c.args.lane _ _ (inside g at) (ap (λ (x : Lane _). x.owed_events) (lane_is g at)) (ap (λ (x : Lane _). x.owed_records) (lane_is g at))
    c.owe.ensures.is c.ask_fitting.ensures.beside c.in-Err.ensures.lacks.face.many c.in-Err.ensures.unasked.blocks
