use Rattle.txn_core.specs.States.{base_of}
use Rattle.txn_core.proofs.Reading.{read_of, look_inside, value_seen}
use Rattle.txn_core.proofs.world.World.look.Goals as goal

pub word-requires : goal.word-requires
word-requires g c = look_inside g.E.Deed.meaning c.args.self.now.layout c.args.self.now.book c.args.self.now.log (g.D.Look.words c.args.self.now.device) (g.D.Device.cells c.args.self.now.device)
    (g.D.Device.spare c.args.self.now.device) (g.D.Device.counts c.args.self.now.device) c.args.lane c.args.a
    (read_of _ _ (g.D.Device.counts c.args.self.now.device) (g.met.D.Device.reads c.args.self.now.device) (g.met.D.Device.full c.args.self.now.device)
    (g.met.D.Device.within c.args.self.now.device) (g.met.D.Device.budget_fits c.args.self.now.device)) c.requires.lane c.requires.phase c.requires.rests
    (base_of c.args.self.now.layout c.args.self.now.sorts.value (g.D.Look.words c.args.self.now.begun.value) (g.D.Device.counts c.args.self.now.begun.value)) c.requires.own c.args.self.now.kept

pub returns : goal.returns
returns g c = value_seen g.E.Deed.meaning c.args.self.now.layout c.args.self.now.book c.args.self.now.log (g.D.Look.words c.args.self.now.device) (g.D.Device.cells c.args.self.now.device)
    (g.D.Device.spare c.args.self.now.device) (g.D.Device.counts c.args.self.now.device) c.args.lane c.args.a
    (read_of _ _ (g.D.Device.counts c.args.self.now.device) (g.met.D.Device.reads c.args.self.now.device) (g.met.D.Device.full c.args.self.now.device)
    (g.met.D.Device.within c.args.self.now.device) (g.met.D.Device.budget_fits c.args.self.now.device)) c.requires.lane c.requires.phase c.requires.rests
    (base_of c.args.self.now.layout c.args.self.now.sorts.value (g.D.Look.words c.args.self.now.begun.value) (g.D.Device.counts c.args.self.now.begun.value)) c.requires.own c.args.self.now.kept c.word.result c.word.ensures
