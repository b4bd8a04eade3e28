use Rattle.std.proofs.Common.{inl, inr, ap}
use Rattle.lane_book.specs.declared.lane.Lane.{Lane}
use Rattle.lane_book.specs.FacesOf.{lane_at}
use Rattle.txn_state.specs.Stages.{stage_of}
use Rattle.txn_core.proofs.Agreeing.{agreement}
use Rattle.txn_core.proofs.Facts.{any_start}
use Rattle.txn_core.proofs.WorldLatches.{asks_begin, asked_unlatched, either_answer}
use Rattle.txn_core.proofs.Reading.{read_of}
use Rattle.txn_core.specs.States.{base_of}
use Rattle.txn_core.proofs.AskedExactly.{at_most_then}
use Rattle.txn_core.proofs.AskedFaces.{on_ok_two}
use Rattle.txn_core.proofs.EventBounds.{call_within}
use Rattle.txn_core.proofs.world.World.ask.Goals as goal

pub invariant_of-self : goal.invariant_of-self
invariant_of-self g c = record {
  kept = c.ask.ensures.kept;
  phased = c.ask.ensures.phased;
  agreed = agreement g.E.Deed.meaning c.args.self.now.layout _ _ _ (g.D.Look.words c.ask.new.device) (g.D.Device.cells c.ask.new.device) (g.D.Device.spare c.ask.new.device)
      (g.D.Device.counts c.ask.new.device)
      (read_of _ _ (g.D.Device.counts c.ask.new.device) (g.met.D.Device.reads c.ask.new.device) (g.met.D.Device.full c.ask.new.device) (g.met.D.Device.within c.ask.new.device)
      (g.met.D.Device.budget_fits c.ask.new.device)) c.ask.ensures.phased c.ask.ensures.kept;
  begins = either_answer c.ask.result
      (λ accepts. asks_begin g.E.Deed.meaning c.args.self.now.layout c.args.self.now.book c.ask.new.book c.args.self.now.log c.ask.new.log (g.D.Device.cells c.args.self.now.device)
      (g.D.Device.spare c.args.self.now.device) (g.D.Device.counts c.args.self.now.device) c.args.lane
      (any_start _ _ _ _ _ _ _ (g.D.Device.counts c.args.self.now.device) c.args.self.now.kept) accepts.face.many c.ask.ensures.beside.others c.ask.ensures.beside.stopped c.ask.ensures.log
      (inr (asked_unlatched (lane_at c.args.self.now.book c.args.lane) c.args.call (c.args.self.now.phased c.args.lane) accepts.fits.phase)) c.args.self.now.begins)
      (λ refused is. asks_begin g.E.Deed.meaning c.args.self.now.layout c.args.self.now.book c.ask.new.book c.args.self.now.log c.ask.new.log (g.D.Device.cells c.args.self.now.device)
      (g.D.Device.spare c.args.self.now.device) (g.D.Device.counts c.args.self.now.device) c.args.lane
      (any_start _ _ _ _ _ _ _ (g.D.Device.counts c.args.self.now.device) c.args.self.now.kept) is.face.many c.ask.ensures.beside.others c.ask.ensures.beside.stopped c.ask.ensures.log
      (inl (ap (λ (x : Lane _). stage_of x) is.lane.is)) c.args.self.now.begins)
      c.ask.ensures.accepts c.ask.ensures.refuses;
  none_put = c.args.self.now.none_put;
  room = c.args.self.now.room;
}

pub returns-clause-within : goal.returns-clause-within
returns-clause-within g c = on_ok_two c.ask.result
    (λ accepts owes. at_most_then _ _ _ owes (call_within g.E.Deed.meaning c.args.self.now.layout
    (base_of c.args.self.now.layout c.args.self.now.sorts.value (g.D.Look.words c.args.self.now.begun.value) (g.D.Device.counts c.args.self.now.begun.value))
    c.args.self.now.book c.args.self.now.log (g.D.Look.words c.args.self.now.device) (g.D.Device.cells c.args.self.now.device) (g.D.Device.spare c.args.self.now.device)
    (g.D.Device.counts c.args.self.now.device) c.args.lane
    (read_of _ _ (g.D.Device.counts c.args.self.now.device) (g.met.D.Device.reads c.args.self.now.device) (g.met.D.Device.full c.args.self.now.device) (g.met.D.Device.within c.args.self.now.device)
    (g.met.D.Device.budget_fits c.args.self.now.device)) c.requires.lane c.args.self.now.kept (c.args.self.now.phased c.args.lane) c.args.call accepts.fits.phase))
    c.ask.ensures.accepts c.ask.ensures.owes
