use Rattle.std.proofs.Common.{◌∙◌, ap}
use Rattle.lane_types.specs.Asks as Asks
use Rattle.lane_book.specs.declared.lane.Lane.{Lane}
use Rattle.lane_book.specs.Lanes.{refused_lane, with_lane}
use Rattle.lane_book.proofs.Faces.{lane_read}
use Rattle.lane_book.proofs.Asking.{asks_at, refuse_row}
use Rattle.lane_book.specs.FacesOf.{lane_at}
use Rattle.lane_book.proofs.Keeps.{keeps_lane, refused_keeps}
use Rattle.lane_book.proofs.book.Book.refuse.Goals as goal

pub returns-clause-is : goal.returns-clause-is
returns-clause-is g c =
    let book = c.args.self.now in
    ap (λ (x : Lane _). with_lane book c.args.lane x book.touched) (c.refuse.ensures ∙ ap (refused_lane c.args.call.now c.args.refusal) (lane_read book c.args.lane c.index_mut.result.now c.requires.lane c.index_mut.ensures.value))

pub returns-clause-ask : goal.returns-clause-ask
returns-clause-ask g c = asks_at (Asks.refused c.args.call.now c.args.refusal) c.args.self.now _ _ c.args.lane (returns-clause-is g c)
    (refuse_row c.args.call.now c.args.refusal c.args.self.now c.args.lane c.args.self.now.touched c.requires.lane)

pub returns-clause-book : goal.returns-clause-book
returns-clause-book g c =
    let book = c.args.self.now in
    keeps_lane book _ c.args.lane _ book.touched c.requires.lane (returns-clause-is g c) c.requires.book
    (refused_keeps _ c.args.call.now c.args.refusal (lane_at book c.args.lane))
