use Rattle.txn_core.specs.States.{base_of}
use Rattle.txn_core.proofs.WorldLatches.{latches_are_held, have_made_one}
use Rattle.txn_core.proofs.world.World.latches_are_held.Goals as goal

pub returns-clause-made : goal.returns-clause-made
returns-clause-made g c = have_made_one g.E.Deed.meaning c.args.self.now.layout
    (base_of c.args.self.now.layout c.args.self.now.sorts.value (g.D.Look.words c.args.self.now.begun.value) (g.D.Device.counts c.args.self.now.begun.value))
    c.args.self.now.book c.args.self.now.log (g.D.Device.cells c.args.self.now.device) (g.D.Device.spare c.args.self.now.device) (g.D.Device.counts c.args.self.now.device)
    c.args.self.now.kept c.args.self.now.begins

pub returns-clause-held : goal.returns-clause-held
returns-clause-held g c = latches_are_held g.E.Deed.meaning c.args.self.now.layout
    (base_of c.args.self.now.layout c.args.self.now.sorts.value (g.D.Look.words c.args.self.now.begun.value) (g.D.Device.counts c.args.self.now.begun.value))
    c.args.self.now.book c.args.self.now.log (g.D.Device.cells c.args.self.now.device) (g.D.Device.spare c.args.self.now.device) (g.D.Device.counts c.args.self.now.device)
    c.args.self.now.kept
