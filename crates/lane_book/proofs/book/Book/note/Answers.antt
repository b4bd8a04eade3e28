use Rattle.std.proofs.Common.{◌∙◌, ap, None}
use Rattle.lane_book.specs.declared.lane.Lane.{Lane}
use Rattle.lane_book.specs.Lanes.{noted, with_lane}
use Rattle.lane_book.proofs.Faces.{lane_read}
use Rattle.lane_book.proofs.book.Book.note.Goals as goal

pub returns : goal.returns
returns g c =
    let book = c.args.self.now in
    ap (λ (x : Lane _). with_lane book c.args.lane x None) (c.note.ensures ∙ ap (noted c.args.answer) (lane_read book c.args.lane c.index_mut.result.now c.requires c.index_mut.ensures.value))
