use Rattle.txn_core.proofs.Facts.{is_book}
use Rattle.txn_core.proofs.QuietSteps.{idles}
use Rattle.txn_core.proofs.quiet.idle.Goals as goal
use Rattle.std.proofs.Common.{refl, None}
use Rattle.lane_book.specs.FacesOf.{lane_at}
use Rattle.txn_core.proofs.Paying.{goes_lane}
use Rattle.lane_book.specs.Lanes.{noted}
use Rattle.lane_types.specs.declared.call.Stepped.TheVariants as Stepped
use Rattle.txn_core.proofs.Exactly.{idle_exactly}

pub idle-requires-clause-book : goal.idle-requires-clause-book
idle-requires-clause-book g c = is_book _ _ _ _ _ _ (g.D.Device.counts c.args.device.now) c.requires.world

pub returns-clause-steps : goal.returns-clause-steps
returns-clause-steps g c = idles g.E.Deed.meaning c.args.layout c.args.book.now c.idle.new.self c.args.log.now (g.D.Device.cells c.args.device.now) (g.D.Device.spare c.args.device.now)
    (g.D.Device.counts c.args.device.now) c.args.lane c.requires.lane c.idle.ensures.book c.idle.result c.requires.doing c.idle.ensures.is c.idle.ensures.step

pub returns-clause-exact : goal.returns-clause-exact
returns-clause-exact g c = idle_exactly c.args.layout c.args.book.now c.idle.new.self c.args.log.now (g.D.Device.counts c.args.device.now) c.args.lane (noted Stepped.Idle (lane_at c.args.book.now c.args.lane)) _
    c.idle.ensures.result c.requires.doing (goes_lane c.args.book.now c.idle.new.self c.args.lane (noted Stepped.Idle (lane_at c.args.book.now c.args.lane)) None c.requires.lane c.idle.ensures.is) refl refl c.requires.running
