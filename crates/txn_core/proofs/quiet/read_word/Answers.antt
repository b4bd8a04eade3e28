use Rattle.txn_core.proofs.Facts.{is_book}
use Rattle.txn_core.proofs.QuietSteps.{reads}
use Rattle.txn_core.proofs.Reading.{read_of, read_inside, value_held}
use Rattle.txn_core.proofs.quiet.read_word.Goals as goal
use Rattle.std.proofs.Common.{refl, None}
use Rattle.lane_book.specs.FacesOf.{lane_at}
use Rattle.lane_book.specs.Lanes.{closed}
use Rattle.lane_book.specs.declared.lane.Doing.TheVariants as Doing
use Rattle.lane_types.specs.declared.call.Reply.TheVariants as Reply
use Rattle.txn_core.proofs.ExactJoins.{quiet_call, quiet_doing, own_doing}

pub word-value-requires : goal.word-value-requires
word-value-requires g c = read_inside g.E.Deed.meaning c.args.layout c.args.book.now c.args.log.now (g.D.Look.words c.args.device.now) (g.D.Device.cells c.args.device.now)
    (g.D.Device.spare c.args.device.now) (g.D.Device.counts c.args.device.now) c.args.lane c.args.a
    (read_of _ _ (g.D.Device.counts c.args.device.now) (g.met.D.Device.reads c.args.device.now) (g.met.D.Device.full c.args.device.now) (g.met.D.Device.within c.args.device.now)
    (g.met.D.Device.budget_fits c.args.device.now)) c.requires.lane c.requires.doing c.requires.world

pub read-requires : goal.read-requires
read-requires g c = record {
  inside = c.requires.lane;
  calling = c.requires.calling;
  call = c.requires.doing;
  kept = is_book _ _ _ _ _ _ (g.D.Device.counts c.args.device.now) c.requires.world;
}

pub returns-clause-steps : goal.returns-clause-steps
returns-clause-steps g c = reads g.E.Deed.meaning c.args.layout c.args.book.now c.read.new.self c.args.log.now (g.D.Device.cells c.args.device.now) (g.D.Device.spare c.args.device.now)
    (g.D.Device.counts c.args.device.now) c.args.lane c.requires.lane
    c.read.ensures.book c.args.a c.word-value.result c.read.result c.requires.calling c.requires.doing c.read.ensures.is
    (λ base kept. value_held g.E.Deed.meaning c.args.layout c.args.book.now c.args.log.now (g.D.Look.words c.args.device.now) (g.D.Device.cells c.args.device.now)
    (g.D.Device.spare c.args.device.now) (g.D.Device.counts c.args.device.now) c.args.lane c.args.a
    (read_of _ _ (g.D.Device.counts c.args.device.now) (g.met.D.Device.reads c.args.device.now) (g.met.D.Device.full c.args.device.now) (g.met.D.Device.within c.args.device.now)
    (g.met.D.Device.budget_fits c.args.device.now)) c.requires.lane c.requires.doing base c.word-value.result c.word-value.ensures kept)
    c.read.ensures.step c.requires.world

pub returns-clause-exact : goal.returns-clause-exact
returns-clause-exact g c = quiet_call c.args.layout c.args.book.now c.read.new.self c.args.log.now (g.D.Device.counts c.args.device.now) c.args.lane (Doing.Read c.args.a)
    (closed (Reply.Word c.word-value.result) (lane_at c.args.book.now c.args.lane)) None _ (Reply.Word c.word-value.result) c.read.ensures.result c.requires.lane c.requires.doing (λ k. k)
    (quiet_doing (lane_at c.args.book.now c.args.lane) (Doing.Read c.args.a) c.requires.doing) (own_doing (lane_at c.args.book.now c.args.lane) (Doing.Read c.args.a) c.requires.doing) refl c.read.ensures.is
