use Rattle.std.proofs.Common.{None}
use Rattle.lane_book.specs.FacesOf.{lane_at}
use Rattle.lane_types.specs.declared.call.Stepped.TheVariants as Stepped
use Rattle.lane_book.proofs.Rows.{wait_row}
use Rattle.lane_book.proofs.Keeps.{noted_keeps}
use Rattle.lane_book.specs.Lanes.{noted}
use Rattle.lane_book.proofs.Moving.{moves_so}
use Rattle.lane_book.proofs.book.Book.wait.Goals as goal

pub returns-clause-moves : goal.returns-clause-moves
returns-clause-moves g c =
    let book = c.args.self.now in
    let lane = lane_at book c.args.lane in
    moves_so g.E.Deed.meaning book _ c.args.lane None (Stepped.Waiting c.args.what c.args.holder) (noted (Stepped.Waiting c.args.what c.args.holder) lane) c.requires.inside c.requires.kept c.note.ensures
    (wait_row g.E.Deed.meaning book c.args.lane c.args.what c.args.holder c.requires.inside c.requires.calling)
    (noted_keeps _ _ lane)
