use Rattle.persist_model.specs.declared.event.Event.TheVariants.{Fence}
use Rattle.txn_core.proofs.Facts.{is_book, owes_event}
use Rattle.txn_core.proofs.Calling.{is_calling}
use Rattle.txn_core.proofs.Paid.{lanes_paid}
use Rattle.txn_core.proofs.Ending.{fenced_world, fence_makes, paid_calls, made_pays, made_stops}
use Rattle.txn_core.proofs.ends.fence.Goals as goal
use Rattle.txn_core.proofs.Exactly.{unblocked_own}
use Rattle.std.proofs.Common.{refl}
use Rattle.lane_book.specs.FacesOf.{lane_at}
use Rattle.txn_state.specs.Stages.{stage_of}
use Rattle.txn_core.proofs.ExactJoins.{fences_make, fences_own}
use Rattle.txn_core.proofs.ExactParts.{make_paid, make_stops, paid_moves}

pub make-requires-clause-owed : goal.make-requires-clause-owed
make-requires-clause-owed g c =
    (owes_event _ _ _ _ _ _ (g.D.Device.counts c.args.device.now) c.args.lane c.requires.lane (fence_makes _ c.requires.stage) c.requires.world).0

pub make-requires-clause-spare : goal.make-requires-clause-spare
make-requires-clause-spare g c =
    (owes_event _ _ _ _ _ _ (g.D.Device.counts c.args.device.now) c.args.lane c.requires.lane (fence_makes _ c.requires.stage) c.requires.world).1

pub make-requires-clause-book : goal.make-requires-clause-book
make-requires-clause-book g c = is_book _ _ _ _ _ _ (g.D.Device.counts c.args.device.now) c.requires.world

pub go_on-requires : goal.go_on-requires
go_on-requires g c =
    let paid = made_pays _ _ _ (g.D.Device.counts c.args.device.now) (g.D.Device.counts c.make.new.device) _ _ _ _ _ c.in-Made.ensures.makes in record {
      inside = lanes_paid c.args.book.now _ c.args.lane paid c.requires.lane;
      calling = paid_calls c.args.book.now _ c.args.lane c.requires.lane paid
          (is_calling _ _ _ _ _ _ (g.D.Device.counts c.args.device.now) c.args.lane (fence_makes _ c.requires.stage) c.requires.world);
      kept = c.make.ensures.book;
    }

pub returns-in-Stopped-clause-steps : goal.returns-in-Stopped-clause-steps
returns-in-Stopped-clause-steps g c = made_stops g.E.Deed.meaning c.args.layout c.args.log.now Fence _ _ _ _ _ _ c.args.book.now c.make.new.book _ c.args.lane _ c.stop.ensures.result
    c.requires.lane c.in-Stopped.ensures.makes c.stop.ensures.is c.stop.ensures.step c.stop.ensures.book

pub returns-in-Made-clause-steps : goal.returns-in-Made-clause-steps
returns-in-Made-clause-steps g c = fenced_world g.E.Deed.meaning c.args.layout c.args.book.now c.make.new.book _ c.args.log.now _ _ _ _ _ _ c.args.lane _ c.go_on.ensures.result
    c.requires.lane c.requires.stage c.in-Made.ensures.makes c.go_on.ensures.moves

pub returns-in-Stopped-clause-exact : goal.returns-in-Stopped-clause-exact
returns-in-Stopped-clause-exact g c = make_stops c.args.layout c.args.book.now c.make.new.book c.stop.new.self c.args.log.now _ _ _ (g.D.Device.counts c.args.device.now) (g.D.Device.counts c.make.new.device) _ _ c.args.lane _ c.stop.ensures.result c.requires.lane
    (unblocked_own c.args.layout c.args.book.now c.args.log.now c.args.lane (fences_make (stage_of (lane_at c.args.book.now c.args.lane)) c.requires.stage) (fences_own (stage_of (lane_at c.args.book.now c.args.lane)) c.requires.stage)) (fences_make (stage_of (lane_at c.args.book.now c.args.lane)) c.requires.stage) c.in-Stopped.ensures.makes c.stop.ensures.is

pub returns-in-Made-clause-exact : goal.returns-in-Made-clause-exact
returns-in-Made-clause-exact g c = paid_moves g.E.Deed.meaning c.args.layout c.args.book.now c.make.new.book c.go_on.new.self c.args.log.now (g.D.Device.counts c.args.device.now) (g.D.Device.counts c.make.new.device) c.args.lane _ _ _ c.go_on.ensures.result
    (make_paid c.args.layout c.args.book.now c.make.new.book c.args.log.now _ _ _ (g.D.Device.counts c.args.device.now) (g.D.Device.counts c.make.new.device) _ _ c.args.lane c.requires.lane (unblocked_own c.args.layout c.args.book.now c.args.log.now c.args.lane (fences_make (stage_of (lane_at c.args.book.now c.args.lane)) c.requires.stage) (fences_own (stage_of (lane_at c.args.book.now c.args.lane)) c.requires.stage))
    (owes_event _ _ _ _ _ _ (g.D.Device.counts c.args.device.now) c.args.lane c.requires.lane (fences_make (stage_of (lane_at c.args.book.now c.args.lane)) c.requires.stage) c.requires.world).0 c.in-Made.ensures.makes)
    (fences_make (stage_of (lane_at c.args.book.now c.args.lane)) c.requires.stage) (g.met.D.Device.within c.make.new.device) refl refl c.go_on.ensures.moves
