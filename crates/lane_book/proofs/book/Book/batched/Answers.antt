use Rattle.std.proofs.Common.{◌∙◌, ap}
use Rattle.lane_types.specs.declared.call.Reply.TheVariants as Reply
use Rattle.lane_types.specs.declared.call.Stepped.TheVariants as Stepped
use Rattle.lane_book.specs.declared.lane.Lane.{Lane}
use Rattle.lane_book.specs.Lanes.{closed, stored_all, with_lane}
use Rattle.lane_book.specs.FacesOf.{lane_at}
use Rattle.lane_book.specs.Books.{ends}
use Rattle.lane_book.proofs.Faces.{lane_read}
use Rattle.lane_book.proofs.Rows.{steps_if_at}
use Rattle.lane_book.proofs.Keeps.{keeps_lane}
use Rattle.lane_book.proofs.BatchRows.{batch_row, waiting_of, batched_keeps}
use Rattle.lane_book.proofs.book.Book.batched.Goals as goal

pub returns-clause-is : goal.returns-clause-is
returns-clause-is g c =
    let book = c.args.self.now in
    ap (λ (x : Lane _). with_lane book c.args.lane x c.args.touched)
    (c.store_all.ensures ∙ ap (λ (x : Lane _). closed Reply.Written (stored_all x))
    (lane_read book c.args.lane c.index_mut.result.now c.requires.inside c.index_mut.ensures.value))

pub returns-clause-step : goal.returns-clause-step
returns-clause-step g c =
    let book = c.args.self.now in
    steps_if_at _ g.E.Deed.meaning book _ _ c.args.lane (Stepped.Answered Reply.Written) (returns-clause-is g c)
    (batch_row g.E.Deed.meaning book c.args.lane c.args.count c.args.touched c.requires.inside c.requires.calling c.requires.call
    (waiting_of _ (lane_at book c.args.lane) c.args.count c.requires.call (c.requires.kept c.args.lane)))

pub returns-clause-book : goal.returns-clause-book
returns-clause-book g c =
    let book = c.args.self.now in
    keeps_lane book _ c.args.lane _ c.args.touched c.requires.inside (returns-clause-is g c) c.requires.kept
    (batched_keeps _ (lane_at book c.args.lane) (ap ends c.requires.call))
