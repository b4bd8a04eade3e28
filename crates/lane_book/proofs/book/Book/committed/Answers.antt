use Rattle.std.proofs.Common.{None}
use Rattle.lane_book.specs.FacesOf.{lane_at}
use Rattle.lane_types.specs.declared.call.Reply.TheVariants as Reply
use Rattle.lane_types.specs.declared.call.Stepped.TheVariants as Stepped
use Rattle.lane_book.proofs.Rows.{committed_row}
use Rattle.lane_book.proofs.Keeps.{left_keeps}
use Rattle.lane_book.specs.Lanes.{left}
use Rattle.lane_book.proofs.Moving.{moves_so}
use Rattle.lane_book.proofs.book.Book.committed.Goals as goal

pub returns-clause-moves : goal.returns-clause-moves
returns-clause-moves g c =
    let book = c.args.self.now in
    let lane = lane_at book c.args.lane in
    moves_so g.E.Deed.meaning book _ c.args.lane None (Stepped.Answered Reply.Committed) (left Reply.Committed lane) c.requires.lane.inside c.requires.lane.kept
    c.leave.ensures
    (committed_row g.E.Deed.meaning book c.args.lane c.requires.lane.inside c.requires.lane.calling c.requires.lane.call c.requires.entered)
    (λ is. left_keeps _ _ lane)
