use Rattle.txn_core.proofs.Facts.{is_book}
use Rattle.txn_core.proofs.QuietSteps.{checkpoints}
use Rattle.txn_core.proofs.quiet.checkpoint.Goals as goal
use Rattle.std.proofs.Common.{refl, None}
use Rattle.lane_book.specs.FacesOf.{lane_at}
use Rattle.lane_book.specs.Lanes.{closed}
use Rattle.lane_book.specs.declared.lane.Doing.TheVariants as Doing
use Rattle.lane_types.specs.declared.call.Reply.TheVariants as Reply
use Rattle.txn_core.proofs.ExactJoins.{quiet_call, quiet_doing, own_doing}

pub checkpointed-requires : goal.checkpointed-requires
checkpointed-requires g c = record {
  inside = c.requires.lane;
  calling = c.requires.calling;
  call = c.requires.doing;
  kept = is_book _ _ _ _ _ _ (g.D.Device.counts c.args.device.now) c.requires.world;
}

pub returns-clause-steps : goal.returns-clause-steps
returns-clause-steps g c = checkpoints g.E.Deed.meaning c.args.layout c.args.book.now c.checkpointed.new.self c.args.log.now (g.D.Device.cells c.args.device.now) (g.D.Device.spare c.args.device.now)
    (g.D.Device.counts c.args.device.now) c.args.lane c.requires.lane
    c.checkpointed.ensures.moves.kept c.checkpointed.result c.requires.doing c.checkpointed.ensures.moves

pub returns-clause-exact : goal.returns-clause-exact
returns-clause-exact g c = quiet_call c.args.layout c.args.book.now c.checkpointed.new.self c.args.log.now (g.D.Device.counts c.args.device.now) c.args.lane Doing.Checkpoint
    (closed Reply.Checkpointed (lane_at c.args.book.now c.args.lane)) None _ Reply.Checkpointed c.checkpointed.ensures.result c.requires.lane c.requires.doing (λ k. k)
    (quiet_doing (lane_at c.args.book.now c.args.lane) Doing.Checkpoint c.requires.doing) (own_doing (lane_at c.args.book.now c.args.lane) Doing.Checkpoint c.requires.doing) refl c.checkpointed.ensures.moves.is
