use Rattle.txn_core.proofs.Facts.{any_start, few_lanes}
use Rattle.txn_core.proofs.world.World.finish.Goals as goal

pub finish-commits-requires-clause-lanes : goal.finish-commits-requires-clause-lanes
finish-commits-requires-clause-lanes g c = few_lanes g.E.Deed.meaning c.args.self.layout c.args.self.book c.args.self.log (g.D.Device.cells c.args.self.device)
    (g.D.Device.spare c.args.self.device) (g.D.Device.counts c.args.self.device)
    (any_start _ _ _ _ _ _ _ (g.D.Device.counts c.args.self.device) c.args.self.kept)
