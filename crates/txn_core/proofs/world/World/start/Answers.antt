use Rattle.txn_core.proofs.Agreeing.{agreement}
use Rattle.txn_core.proofs.Phasing.{fresh_phased}
use Rattle.txn_core.proofs.Reading.{read_of}
use Rattle.txn_core.proofs.WorldBegun.{kept_begun}
use Rattle.txn_core.proofs.WorldImages.{fresh_is_new}
use Rattle.txn_core.proofs.WorldLatches.{fresh_begun}
use Rattle.txn_core.proofs.world.World.start.Goals as goal

pub invariant_of-result : goal.invariant_of-result
invariant_of-result g c =
    let kept = kept_begun g.E.Deed.meaning g.D.Look.words g.D.Device.cells g.D.Device.spare g.D.Device.counts c.in-Ok-start.field-0.layout c.in-Ok-start.field-0.book c.in-Ok-start.field-0.log
    c.args.device c.in-Ok-start.field-0.device c.of-begun.result.value c.args.sorts c.of-common.result.value c.in-Ok-start.ensures.same c.of-begun.ensures c.of-common.ensures
    c.in-Ok-start.ensures.starts.stands in
    let phased = fresh_phased c.in-Ok-start.field-0.book c.in-Ok-start.ensures.starts.prepared.fresh.idle in
    let device = c.in-Ok-start.field-0.device in
    record {
      kept = kept;
      phased = phased;
      agreed = agreement g.E.Deed.meaning c.in-Ok-start.field-0.layout _ _ _ (g.D.Look.words device) (g.D.Device.cells device) (g.D.Device.spare device) (g.D.Device.counts device)
          (read_of _ _ (g.D.Device.counts device) (g.met.D.Device.reads device) (g.met.D.Device.full device) (g.met.D.Device.within device) (g.met.D.Device.budget_fits device)) phased kept;
      begins = fresh_begun c.in-Ok-start.field-0.layout c.in-Ok-start.field-0.book c.in-Ok-start.field-0.log c.in-Ok-start.ensures.starts.prepared.fresh.idle;
      none_put = c.in-Ok.ensures.none;
      room = c.in-Ok.ensures.room;
    }

pub returns-in-Ok-start-clause-is_new : goal.returns-in-Ok-start-clause-is_new
returns-in-Ok-start-clause-is_new g c = fresh_is_new _ _ _ _ c.in-Ok-start.ensures.starts.prepared.fresh
