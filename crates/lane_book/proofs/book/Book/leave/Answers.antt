use Rattle.std.proofs.Common.{◌∙◌, ap, None}
use Rattle.lane_book.specs.declared.lane.Lane.{Lane}
use Rattle.lane_book.specs.Lanes.{left, with_lane}
use Rattle.lane_book.proofs.Faces.{lane_read}
use Rattle.lane_book.proofs.book.Book.leave.Goals as goal

pub returns : goal.returns
returns g c =
    let book = c.args.self.now in
    ap (λ (x : Lane _). with_lane book c.args.lane x None) (c.leave.ensures ∙ ap (left c.args.reply) (lane_read book c.args.lane c.index_mut.result.now c.requires c.index_mut.ensures.value))
