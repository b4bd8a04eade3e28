use Rattle.txn_core.specs.States.{base_of}
use Rattle.txn_core.proofs.laned.WorldLaned.face.Goals as goal

pub returns : goal.returns
returns g c = c.face.ensures (base_of c.args.self.now.layout c.args.self.now.sorts.value (g.D.Look.words c.args.self.now.begun.value) (g.D.Device.counts c.args.self.now.begun.value))
