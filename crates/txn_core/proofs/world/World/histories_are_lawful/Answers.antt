use Rattle.txn_core.specs.States.{base_of}
use Rattle.txn_core.proofs.WorldImages.{history_is_lawful, some_flights_are_lawful}
use Rattle.txn_core.proofs.world.World.histories_are_lawful.Goals as goal

pub returns-clause-history : goal.returns-clause-history
returns-clause-history g c = history_is_lawful g.E.Deed.meaning c.args.self.now.layout
    (base_of c.args.self.now.layout c.args.self.now.sorts.value (g.D.Look.words c.args.self.now.begun.value) (g.D.Device.counts c.args.self.now.begun.value))
    c.args.self.now.book c.args.self.now.log (g.D.Device.cells c.args.self.now.device) (g.D.Device.spare c.args.self.now.device) (g.D.Device.counts c.args.self.now.device)
    c.args.self.now.kept

pub returns-clause-flights : goal.returns-clause-flights
returns-clause-flights g c = some_flights_are_lawful g.E.Deed.meaning c.args.self.now.layout
    (base_of c.args.self.now.layout c.args.self.now.sorts.value (g.D.Look.words c.args.self.now.begun.value) (g.D.Device.counts c.args.self.now.begun.value))
    c.args.self.now.book c.args.self.now.log (g.D.Device.cells c.args.self.now.device) (g.D.Device.spare c.args.self.now.device) (g.D.Device.counts c.args.self.now.device)
    c.args.self.now.kept g.met.E.Deed.depends
