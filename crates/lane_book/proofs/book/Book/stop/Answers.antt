use Rattle.lane_book.specs.FacesOf.{lane_at}
use Rattle.std.proofs.Common.{ap, None}
use Rattle.lane_types.specs.declared.call.Stepped.TheVariants as Stepped
use Rattle.lane_book.specs.declared.book.Book.{Book}
use Rattle.lane_book.proofs.Rows.{steps_at, stop_row}
use Rattle.std.specs.Prelude.{true}
use Rattle.lane_book.proofs.Keeps.{keeps_lane, noted_keeps}
use Rattle.lane_book.proofs.book.Book.stop.Goals as goal

pub returns-clause-is : goal.returns-clause-is
returns-clause-is g c = ap (λ (b : Book _). record b { stopped = true }) c.note.ensures

pub returns-clause-step : goal.returns-clause-step
returns-clause-step g c = steps_at g.E.Deed.meaning c.args.self.now _ _ c.args.lane Stepped.Stopped (returns-clause-is g c)
    (stop_row g.E.Deed.meaning c.args.self.now c.args.lane c.requires.lane)

pub returns-clause-book : goal.returns-clause-book
returns-clause-book g c =
    let book = c.args.self.now in
    let lane = lane_at book c.args.lane in
    keeps_lane book _ c.args.lane _ None c.requires.lane c.note.ensures c.requires.book (noted_keeps _ _ lane)
