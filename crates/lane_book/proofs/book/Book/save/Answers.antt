use Rattle.lane_book.specs.FacesOf.{lane_at}
use Rattle.std.proofs.Common.{◌∙◌, ap, None}
use Rattle.lane_book.specs.declared.lane.Lane.{Lane}
use Rattle.lane_book.specs.Lanes.{saved, with_lane}
use Rattle.lane_book.proofs.Faces.{lane_read}
use Rattle.lane_book.proofs.Keeps.{keeps_lane, saved_keeps}
use Rattle.lane_book.proofs.book.Book.save.Goals as goal

pub returns-clause-is : goal.returns-clause-is
returns-clause-is g c =
    let book = c.args.self.now in
    ap (λ (x : Lane _). with_lane book c.args.lane x None) (c.save.ensures ∙ ap saved (lane_read book c.args.lane c.index_mut.result.now c.requires.lane.inside c.index_mut.ensures.value))

pub returns-clause-book : goal.returns-clause-book
returns-clause-book g c =
    let book = c.args.self.now in
    let lane = lane_at book c.args.lane in
    keeps_lane book _ c.args.lane _ None c.requires.lane.inside (returns-clause-is g c) c.requires.lane.kept (saved_keeps _ lane c.requires.lane.call)
