use Rattle.std.proofs.Common.{None}
use Rattle.lane_book.specs.FacesOf.{lane_at}
use Rattle.lane_types.specs.declared.call.Reply.TheVariants as Reply
use Rattle.lane_types.specs.declared.call.Stepped.TheVariants as Stepped
use Rattle.lane_book.proofs.Rows.{abort_row}
use Rattle.lane_book.proofs.Keeps.{left_keeps}
use Rattle.lane_book.specs.Lanes.{left}
use Rattle.lane_book.proofs.Moving.{moves_so}
use Rattle.lane_book.proofs.book.Book.aborted.Goals as goal

pub returns-clause-moves : goal.returns-clause-moves
returns-clause-moves g c =
    let book = c.args.self.now in
    let lane = lane_at book c.args.lane in
    moves_so g.E.Deed.meaning book _ c.args.lane None (Stepped.Answered Reply.Aborted) (left Reply.Aborted lane) c.requires.inside c.requires.kept c.leave.ensures
    (abort_row g.E.Deed.meaning book c.args.lane c.requires.inside c.requires.calling c.requires.call)
    (λ is. left_keeps _ _ lane)
