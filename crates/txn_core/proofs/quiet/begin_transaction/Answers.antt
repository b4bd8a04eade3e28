use Rattle.txn_core.proofs.Facts.{few_lanes, is_book}
use Rattle.txn_core.proofs.QuietFacts.{few_begun, number_is_left, lawful_from}
use Rattle.txn_core.proofs.QuietSteps.{begins}
use Rattle.txn_core.proofs.quiet.begin_transaction.Goals as goal
use Rattle.txn_core.proofs.ExactJoins.{begin_exactly}

pub begin-requires-clause-lanes : goal.begin-requires-clause-lanes
begin-requires-clause-lanes g c = few_lanes _ _ _ _ _ _ (g.D.Device.counts c.args.device.now) c.requires.world

pub begin-requires-clause-few : goal.begin-requires-clause-few
begin-requires-clause-few g c = few_begun _ _ _ _ _ _ (g.D.Device.counts c.args.device.now) c.args.lane c.args.set c.requires.doing c.requires.world

pub begin-requires-clause-numbers : goal.begin-requires-clause-numbers
begin-requires-clause-numbers g c = number_is_left _ _ _ _ _ _ (g.D.Device.counts c.args.device.now) c.requires.world

pub begin-requires-clause-book : goal.begin-requires-clause-book
begin-requires-clause-book g c = is_book _ _ _ _ _ _ (g.D.Device.counts c.args.device.now) c.requires.world

pub returns-clause-steps : goal.returns-clause-steps
returns-clause-steps g c = begins g.E.Deed.meaning c.args.layout c.args.book.now c.begin.new.self c.args.log.now (g.D.Device.cells c.args.device.now) (g.D.Device.spare c.args.device.now)
    (g.D.Device.counts c.args.device.now) c.args.lane c.requires.lane
    c.begin.ensures.book c.args.set c.begin.result c.requires.doing
    (few_begun _ _ _ _ _ _ (g.D.Device.counts c.args.device.now) c.args.lane c.args.set c.requires.doing c.requires.world) (is_book _ _ _ _ _ _ (g.D.Device.counts c.args.device.now) c.requires.world) c.begin.ensures.ends
    (λ base kept. c.begin.ensures.step base (lawful_from _ _ _ _ _ _ (g.D.Device.counts c.args.device.now) base kept))

pub returns-clause-exact : goal.returns-clause-exact
returns-clause-exact g c = begin_exactly c.args.layout c.args.book.now c.begin.new.self c.args.log.now (g.D.Device.counts c.args.device.now) c.args.lane c.args.set _ c.requires.lane c.requires.doing c.begin.ensures.ends
