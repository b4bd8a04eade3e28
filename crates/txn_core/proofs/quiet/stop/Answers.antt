use Rattle.txn_core.proofs.Facts.{is_book}
use Rattle.txn_core.proofs.QuietSteps.{stops}
use Rattle.txn_core.proofs.quiet.stop.Goals as goal
use Rattle.std.proofs.Common.{ap, refl, None}
use Rattle.lane_book.specs.declared.book.Book.{Book}
use Rattle.txn_core.proofs.WorldLatches.{stopped_begun}
use Rattle.lane_book.specs.FacesOf.{lane_at}
use Rattle.txn_core.proofs.Paying.{goes_stopped}
use Rattle.lane_book.specs.Lanes.{noted}
use Rattle.lane_types.specs.declared.call.Stepped.TheVariants as Stepped
use Rattle.txn_core.proofs.Exactly.{stop_exactly}

pub stop-requires-clause-book : goal.stop-requires-clause-book
stop-requires-clause-book g c = is_book _ _ _ _ _ _ (g.D.Device.counts c.args.device.now) c.requires.world

pub returns-clause-steps : goal.returns-clause-steps
returns-clause-steps g c = stops g.E.Deed.meaning c.args.layout c.args.book.now c.stop.new.self c.args.log.now (g.D.Device.cells c.args.device.now) (g.D.Device.spare c.args.device.now)
    (g.D.Device.counts c.args.device.now) c.args.lane c.requires.lane c.stop.ensures.book c.stop.result c.requires.stopped c.stop.ensures.is c.stop.ensures.step

pub returns-clause-exact : goal.returns-clause-exact
returns-clause-exact g c = stop_exactly c.args.layout c.args.book.now c.stop.new.self c.args.log.now (g.D.Device.counts c.args.device.now) c.args.lane (noted Stepped.Stopped (lane_at c.args.book.now c.args.lane)) _
    c.stop.ensures.result c.requires.stopped (goes_stopped c.args.book.now c.stop.new.self c.args.lane (noted Stepped.Stopped (lane_at c.args.book.now c.args.lane)) None c.requires.lane c.stop.ensures.is) refl refl

pub returns-clause-begins : goal.returns-clause-begins
returns-clause-begins g c = stopped_begun c.args.layout c.stop.new.self c.args.log.now (ap (λ (b : Book _). b.stopped) c.stop.ensures.is)
