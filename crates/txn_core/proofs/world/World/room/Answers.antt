use Rattle.std.proofs.Common.{List, length, slice_index, sym, subst}
use Rattle.bucket_log.specs.Reads.{IsLogOfPart}
use Rattle.txn_core.proofs.WorldRooms.{logs_there, words_there}
use Rattle.txn_core.proofs.Reading.{read_of}
use Rattle.txn_core.proofs.world.World.room.Goals as goal

pub new-view-requires-clause-words : goal.new-view-requires-clause-words
new-view-requires-clause-words g c = words_there c.args.self.now.layout (g.D.Look.words c.args.self.now.device)
    (logs_there g.E.Deed.meaning c.args.self.now.layout _ c.args.self.now.book c.args.self.now.log (g.D.Look.words c.args.self.now.device) (g.D.Device.cells c.args.self.now.device)
    (g.D.Device.spare c.args.self.now.device) (g.D.Device.counts c.args.self.now.device)
    (read_of _ _ (g.D.Device.counts c.args.self.now.device) (g.met.D.Device.reads c.args.self.now.device) (g.met.D.Device.full c.args.self.now.device)
    (g.met.D.Device.within c.args.self.now.device) (g.met.D.Device.budget_fits c.args.self.now.device)) c.args.self.now.kept)

pub room-requires : goal.room-requires
room-requires g c = subst (λ (xs : List _). IsLogOfPart c.args.self.now.layout c.part.result (length xs) (slice_index xs)) (sym c.new-view.ensures)
    ((logs_there g.E.Deed.meaning c.args.self.now.layout _ c.args.self.now.book c.args.self.now.log (g.D.Look.words c.args.self.now.device) (g.D.Device.cells c.args.self.now.device)
    (g.D.Device.spare c.args.self.now.device) (g.D.Device.counts c.args.self.now.device)
    (read_of _ _ (g.D.Device.counts c.args.self.now.device) (g.met.D.Device.reads c.args.self.now.device) (g.met.D.Device.full c.args.self.now.device)
    (g.met.D.Device.within c.args.self.now.device) (g.met.D.Device.budget_fits c.args.self.now.device)) c.args.self.now.kept).logs c.args.p c.part.result c.requires c.part.ensures)
