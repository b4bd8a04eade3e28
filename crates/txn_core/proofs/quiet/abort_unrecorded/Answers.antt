use Rattle.txn_core.proofs.Facts.{is_book}
use Rattle.txn_core.proofs.QuietSteps.{aborts_so}
use Rattle.txn_core.proofs.quiet.abort_unrecorded.Goals as goal
use Rattle.std.proofs.Common.{refl, None, ap}
use Rattle.lane_book.specs.FacesOf.{lane_at}
use Rattle.lane_book.specs.Lanes.{left as left_lane}
use Rattle.lane_book.specs.declared.lane.Doing.TheVariants as Doing
use Rattle.lane_types.specs.declared.call.Reply.TheVariants as Reply
use Rattle.txn_state.specs.ReadLaws.{makes_events, appends_in}
use Rattle.txn_core.proofs.ExactJoins.{quiet_call}

pub aborted-requires : goal.aborted-requires
aborted-requires g c = record {
  inside = c.requires.lane;
  calling = c.requires.calling;
  call = c.requires.doing;
  kept = is_book _ _ _ _ _ _ (g.D.Device.counts c.args.device.now) c.requires.world;
}

pub returns-clause-steps : goal.returns-clause-steps
returns-clause-steps g c = aborts_so g.E.Deed.meaning c.args.layout c.args.book.now c.aborted.new.self c.args.log.now (g.D.Device.cells c.args.device.now) (g.D.Device.spare c.args.device.now)
    (g.D.Device.counts c.args.device.now) c.args.lane c.requires.lane
    c.aborted.ensures.moves.kept c.aborted.result c.requires.stage c.requires.doing c.aborted.ensures.moves

pub returns-clause-exact : goal.returns-clause-exact
returns-clause-exact g c = quiet_call c.args.layout c.args.book.now c.aborted.new.self c.args.log.now (g.D.Device.counts c.args.device.now) c.args.lane Doing.Abort
    (left_lane Reply.Aborted (lane_at c.args.book.now c.args.lane)) None _ Reply.Aborted c.aborted.ensures.result c.requires.lane c.requires.doing (λ k. k)
    (ap makes_events c.requires.stage) (ap appends_in c.requires.stage) refl c.aborted.ensures.moves.is
