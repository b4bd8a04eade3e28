use Rattle.std.proofs.Common.{add-one}
use Rattle.lane_book.specs.FacesOf.{lane_at}
use Rattle.lane_book.specs.Reserved.{reserved_below, share_of}
use Rattle.lane_book.proofs.Reserving.{saturated_both}
use Rattle.lane_book.proofs.book.Book.shares.Goals as goal

pub loop-l-preserved : goal.loop-l-preserved
loop-l-preserved g c =
    rw add-one (saturated_both 18446744073709551615 (reserved_below c.args.self.now c.args.partitions c.args.p c.loop-l.l)
    (share_of c.args.partitions c.args.p c.loop-l.l (lane_at c.args.self.now c.loop-l.l)) c.loop-l.sum c.share.result c.saturating_add-sum.result
    c.loop-l.invariant c.share.ensures c.saturating_add-sum.ensures)
