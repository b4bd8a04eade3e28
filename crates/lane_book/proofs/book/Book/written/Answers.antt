use Rattle.std.proofs.Common.{ap}
use Rattle.lane_book.specs.FacesOf.{lane_at}
use Rattle.lane_types.specs.declared.call.Reply.TheVariants as Reply
use Rattle.lane_types.specs.declared.call.Stepped.TheVariants as Stepped
use Rattle.lane_book.specs.Books.{ends}
use Rattle.lane_book.proofs.Rows.{steps_if_at}
use Rattle.lane_book.proofs.WordRows.{written_row}
use Rattle.lane_book.proofs.Keeps.{keeps_lane, stored_keeps, next_of}
use Rattle.lane_book.proofs.book.Book.written.Goals as goal

pub returns-clause-step : goal.returns-clause-step
returns-clause-step g c = steps_if_at _ g.E.Deed.meaning c.args.self.now _ _ c.args.lane (Stepped.Answered Reply.Written) c.store.ensures
    (written_row g.E.Deed.meaning c.args.self.now c.args.lane c.args.a c.args.v c.args.touched c.requires.lane.inside c.requires.lane.calling c.requires.lane.call (next_of _ (lane_at c.args.self.now c.args.lane) c.args.a c.args.v c.requires.lane.call (c.requires.lane.kept c.args.lane)))

pub returns-clause-book : goal.returns-clause-book
returns-clause-book g c =
    let book = c.args.self.now in
    let lane = lane_at book c.args.lane in
    keeps_lane book _ c.args.lane _ c.args.touched c.requires.lane.inside c.store.ensures c.requires.lane.kept (stored_keeps _ _ lane _ (next_of _ (lane_at c.args.self.now c.args.lane) c.args.a c.args.v c.requires.lane.call (c.requires.lane.kept c.args.lane)) (λ e. cc) (ap ends c.requires.lane.call))
