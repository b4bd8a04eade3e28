use Rattle.std.proofs.Common.{◌%◌, List, length, slice_index, sym, subst}
use Rattle.bucket_log.specs.Reads.{IsLogOfPart}
use Rattle.txn_core.proofs.Latches.{part_of_lane}
use Rattle.txn_core.proofs.ask_refusals.lane_room.Goals as goal

pub room-requires : goal.room-requires
room-requires g c = subst (λ (xs : List _). IsLogOfPart c.args.layout c.part.result (length xs) (slice_index xs)) (sym c.new-view.ensures)
    (c.requires.logs.logs (c.args.lane % c.args.layout.partitions) c.part.result (part_of_lane c.args.layout c.args.lane) c.part.ensures)
