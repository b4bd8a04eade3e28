use Rattle.txn_core.specs.States.{base_of}
use Rattle.txn_core.proofs.Laning.{stepped_so}
use Rattle.txn_core.proofs.laned.WorldLaned.step.Goals as goal

pub returns : goal.returns
returns g c = stepped_so g.E.Deed.meaning c.args.self.now.layout (g.D.Look.words c.args.self.now.device) (g.D.Look.words c.step.new.self.device)
    (base_of c.args.self.now.layout c.args.self.now.sorts.value (g.D.Look.words c.args.self.now.begun.value) (g.D.Device.counts c.args.self.now.begun.value))
    (base_of c.step.new.self.layout c.step.new.self.sorts.value (g.D.Look.words c.step.new.self.begun.value) (g.D.Device.counts c.step.new.self.begun.value))
    c.args.self.now.book c.step.new.self.book c.args.self.now.log (g.D.Device.cells c.args.self.now.device) (g.D.Device.cells c.step.new.self.device)
    (g.D.Device.spare c.args.self.now.device) (g.D.Device.counts c.args.self.now.device) (g.met.D.Device.reads c.args.self.now.device) (g.met.D.Device.reads c.step.new.self.device)
    c.args.self.now.kept c.step.ensures.touches c.args.lane c.step.result
    (λ i. base_of (c.step.ensures.layout i) (c.step.ensures.sorts i).value (g.D.Look.words (c.step.ensures.begun i).value) (g.D.Device.counts (c.step.ensures.begun i).value))
    c.step.ensures.count c.step.ensures.face
