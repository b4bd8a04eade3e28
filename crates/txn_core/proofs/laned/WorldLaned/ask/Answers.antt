use Rattle.txn_core.specs.States.{base_of}
use Rattle.txn_core.proofs.Laning.{same_words, ok_then, err_then, accepted, refused_so}
use Rattle.txn_core.proofs.laned.WorldLaned.ask.Goals as goal

pub returns-clause-ok : goal.returns-clause-ok
returns-clause-ok g c = ok_then c.ask.result (accepted c.args.lane c.args.call (g.D.Look.words c.args.self.now.device) (g.D.Look.words c.ask.new.self.device)
    (base_of c.args.self.now.layout c.args.self.now.sorts.value (g.D.Look.words c.args.self.now.begun.value) (g.D.Device.counts c.args.self.now.begun.value))
    (base_of c.ask.new.self.layout c.ask.new.self.sorts.value (g.D.Look.words c.ask.new.self.begun.value) (g.D.Device.counts c.ask.new.self.begun.value))
    c.args.self.now.book c.ask.new.self.book
    (same_words (g.D.Look.words c.args.self.now.device) (g.D.Look.words c.ask.new.self.device) (g.D.Device.cells c.args.self.now.device) (g.D.Device.cells c.ask.new.self.device)
    (g.met.D.Device.reads c.args.self.now.device) (g.met.D.Device.reads c.ask.new.self.device) c.ask.ensures.cells)
    (λ i. base_of (c.ask.ensures.layout i) (c.ask.ensures.sorts i).value (g.D.Look.words (c.ask.ensures.begun i).value) (g.D.Device.counts (c.ask.ensures.begun i).value)))
    c.ask.ensures.accepts

pub returns-clause-err : goal.returns-clause-err
returns-clause-err g c = err_then c.ask.result (λ refused is. refused_so c.args.lane c.args.call (g.D.Look.words c.args.self.now.device) (g.D.Look.words c.ask.new.self.device)
    (base_of c.args.self.now.layout c.args.self.now.sorts.value (g.D.Look.words c.args.self.now.begun.value) (g.D.Device.counts c.args.self.now.begun.value))
    (base_of c.ask.new.self.layout c.ask.new.self.sorts.value (g.D.Look.words c.ask.new.self.begun.value) (g.D.Device.counts c.ask.new.self.begun.value))
    c.args.self.now.book c.ask.new.self.book
    (same_words (g.D.Look.words c.args.self.now.device) (g.D.Look.words c.ask.new.self.device) (g.D.Device.cells c.args.self.now.device) (g.D.Device.cells c.ask.new.self.device)
    (g.met.D.Device.reads c.args.self.now.device) (g.met.D.Device.reads c.ask.new.self.device) c.ask.ensures.cells)
    (λ i. base_of (c.ask.ensures.layout i) (c.ask.ensures.sorts i).value (g.D.Look.words (c.ask.ensures.begun i).value) (g.D.Device.counts (c.ask.ensures.begun i).value))
    c.args.self.now.layout (g.D.Look.words c.args.self.now.device) refused.0 is) c.ask.ensures.refuses
