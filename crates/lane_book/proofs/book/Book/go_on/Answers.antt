use Rattle.lane_book.specs.FacesOf.{lane_at}
use Rattle.std.proofs.Common.{◌∙◌, ap, None}
use Rattle.lane_types.specs.declared.call.Stepped.TheVariants as Stepped
use Rattle.lane_book.specs.declared.lane.Lane.{Lane}
use Rattle.lane_book.specs.Lanes.{moved, with_lane}
use Rattle.lane_book.proofs.Faces.{lane_read}
use Rattle.lane_book.proofs.Rows.{move_row}
use Rattle.lane_book.proofs.Keeps.{moved_keeps}
use Rattle.lane_book.proofs.Moving.{moves_so}
use Rattle.lane_book.proofs.book.Book.go_on.Goals as goal

pub returns-clause-moves : goal.returns-clause-moves
returns-clause-moves g c =
    let book = c.args.self.now in
    let lane = lane_at book c.args.lane in
    moves_so g.E.Deed.meaning book _ c.args.lane None Stepped.Moved (moved c.args.part lane) c.requires.inside c.requires.kept (ap (λ (x : Lane _). with_lane book c.args.lane x None) (c.go_on.ensures ∙ ap (moved c.args.part) (lane_read book c.args.lane c.index_mut.result.now c.requires.inside c.index_mut.ensures.value)))
    (move_row g.E.Deed.meaning book c.args.lane c.args.part c.requires.inside c.requires.calling)
    (moved_keeps _ _ lane)
