use Rattle.txn_core.proofs.Reading.{read_of}
use Rattle.txn_core.proofs.WorldRooms.{rooms_are_enough}
use Rattle.txn_core.proofs.world.World.rooms_are_enough.Goals as goal

pub returns : goal.returns
returns g c = rooms_are_enough g.E.Deed.meaning c.args.self.now.layout _ c.args.self.now.book c.args.self.now.log (g.D.Look.words c.args.self.now.device)
    (g.D.Device.cells c.args.self.now.device) (g.D.Device.spare c.args.self.now.device) (g.D.Device.counts c.args.self.now.device)
    (read_of _ _ (g.D.Device.counts c.args.self.now.device) (g.met.D.Device.reads c.args.self.now.device) (g.met.D.Device.full c.args.self.now.device)
    (g.met.D.Device.within c.args.self.now.device) (g.met.D.Device.budget_fits c.args.self.now.device)) c.args.self.now.kept
