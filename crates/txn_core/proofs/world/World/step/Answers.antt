use Rattle.txn_core.proofs.Agreeing.{agreement}
use Rattle.txn_core.proofs.Facts.{any_start}
use Rattle.txn_core.proofs.Reading.{read_of}
use Rattle.txn_core.specs.States.{base_of}
use Rattle.txn_core.proofs.Gone.{leaves_nothing}
use Rattle.txn_core.proofs.world.World.step.Goals as goal

pub step-requires-clause-world : goal.step-requires-clause-world
step-requires-clause-world g c = any_start _ _ _ _ _ _ _ (g.D.Device.counts c.args.self.now.device) c.args.self.now.kept

pub invariant_of-self : goal.invariant_of-self
invariant_of-self g c = record {
  kept = c.step.ensures.steps.stays _ c.args.self.now.kept;
  phased = c.step.ensures.steps.phased c.args.self.now.phased;
  agreed = agreement g.E.Deed.meaning c.args.self.now.layout _ _ _ (g.D.Look.words c.step.new.device) (g.D.Device.cells c.step.new.device) (g.D.Device.spare c.step.new.device)
      (g.D.Device.counts c.step.new.device)
      (read_of _ _ (g.D.Device.counts c.step.new.device) (g.met.D.Device.reads c.step.new.device) (g.met.D.Device.full c.step.new.device) (g.met.D.Device.within c.step.new.device)
      (g.met.D.Device.budget_fits c.step.new.device)) (c.step.ensures.steps.phased c.args.self.now.phased) (c.step.ensures.steps.stays _ c.args.self.now.kept);
  begins = c.step.ensures.begins c.args.self.now.begins;
  none_put = c.args.self.now.none_put;
  room = c.args.self.now.room;
}

pub returns-clause-gone : goal.returns-clause-gone
returns-clause-gone g c =
    let base = base_of c.args.self.now.layout c.args.self.now.sorts.value (g.D.Look.words c.args.self.now.begun.value) (g.D.Device.counts c.args.self.now.begun.value) in
    leaves_nothing g.E.Deed.meaning c.args.self.now.layout base c.args.self.now.book c.step.new.book c.args.self.now.log c.step.new.log (g.D.Device.cells c.args.self.now.device)
    (g.D.Device.cells c.step.new.device) (g.D.Device.spare c.args.self.now.device) (g.D.Device.spare c.step.new.device) (g.D.Device.counts c.args.self.now.device)
    (g.D.Device.counts c.step.new.device) c.args.lane c.requires c.step.ensures.exact.others c.args.self.now.kept (c.step.ensures.steps.stays base c.args.self.now.kept)
    c.step.result (c.step.ensures.steps.face base c.args.self.now.kept)
