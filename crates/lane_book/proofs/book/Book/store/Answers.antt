use Rattle.std.proofs.Common.{◌∙◌, ap}
use Rattle.lane_book.specs.declared.lane.Lane.{Lane}
use Rattle.lane_book.specs.Lanes.{closed, stored_one, with_lane}
use Rattle.lane_book.proofs.Faces.{lane_read}
use Rattle.lane_book.proofs.book.Book.store.Goals as goal

pub returns : goal.returns
returns g c =
    let book = c.args.self.now in
    ap (λ (x : Lane _). with_lane book c.args.lane x c.args.touched) (c.store.ensures ∙ ap (λ (x : Lane _). closed c.args.reply (stored_one x)) (lane_read book c.args.lane c.index_mut.result.now c.requires.lane c.index_mut.ensures.value))
