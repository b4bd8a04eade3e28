use Rattle.std.proofs.Common.{None, ap}
use Rattle.lane_book.specs.FacesOf.{lane_at}
use Rattle.lane_types.specs.declared.call.Reply.TheVariants as Reply
use Rattle.lane_types.specs.declared.call.Stepped.TheVariants as Stepped
use Rattle.lane_book.specs.Books.{ends}
use Rattle.lane_book.proofs.Rows.{steps_if_at}
use Rattle.lane_book.proofs.WordRows.{take_row}
use Rattle.lane_book.proofs.Keeps.{keeps_lane, stored_keeps}
use Rattle.lane_book.proofs.book.Book.taken.Goals as goal

pub returns-clause-step : goal.returns-clause-step
returns-clause-step g c = steps_if_at _ g.E.Deed.meaning c.args.self.now _ _ c.args.lane (Stepped.Answered (Reply.Block c.args.block)) c.store.ensures
    (take_row g.E.Deed.meaning c.args.self.now c.args.lane c.args.structure c.args.block c.args.a c.requires.lane.inside c.requires.lane.calling c.requires.lane.call c.requires.next)

pub returns-clause-book : goal.returns-clause-book
returns-clause-book g c =
    let book = c.args.self.now in
    let lane = lane_at book c.args.lane in
    keeps_lane book _ c.args.lane _ None c.requires.lane.inside c.store.ensures c.requires.lane.kept (stored_keeps _ _ lane _ c.requires.next (λ e. cc) (ap ends c.requires.lane.call))
