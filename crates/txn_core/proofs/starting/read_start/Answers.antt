use Rattle.txn_core.proofs.StartParts.{starts}
use Rattle.txn_core.proofs.starting.read_start.Goals as goal

pub returns-in-Ok-prepare-clause-starts : goal.returns-in-Ok-prepare-clause-starts
returns-in-Ok-prepare-clause-starts g c = starts g.E.Deed.meaning c.args.lanes c.args.sorts (g.D.Look.words c.args.device.now) (g.D.Device.cells c.args.device.now)
    (g.D.Device.spare c.args.device.now) (g.D.Device.counts c.args.device.now) c.in-Ok.layout c.in-Ok-prepare.book c.in-Ok-prepare.log
    c.requires.some c.requires.few c.in-Ok-prepare.ensures (g.met.D.Device.reads c.args.device.now) c.in-Ok.ensures.shape c.requires.settled c.requires.force c.in-Ok.ensures.finished
