use Rattle.std.proofs.Common.{◌∙◌, ap, None}
use Rattle.lane_types.specs.declared.call.Reply.TheVariants as Reply
use Rattle.lane_types.specs.declared.call.Stepped.TheVariants as Stepped
use Rattle.lane_book.specs.declared.lane.Lane.{Lane}
use Rattle.lane_book.specs.Lanes.{rolled_back, with_lane}
use Rattle.lane_book.specs.FacesOf.{lane_at}
use Rattle.lane_book.proofs.Faces.{lane_read}
use Rattle.lane_book.proofs.BackRows.{can_back, back_row, back_keeps, back_inside}
use Rattle.lane_book.proofs.Moving.{moves_so}
use Rattle.lane_book.proofs.book.Book.rolled_back.Goals as goal

pub roll_back-requires : goal.roll_back-requires
roll_back-requires g c =
    back_inside c.args.n c.index_mut.result.now (lane_at c.args.self.now c.args.lane)
    (lane_read c.args.self.now c.args.lane c.index_mut.result.now c.requires.lane.inside c.index_mut.ensures.value) c.requires.inside

pub returns-clause-moves : goal.returns-clause-moves
returns-clause-moves g c =
    let book = c.args.self.now in
    let lane = lane_at book c.args.lane in
    moves_so g.E.Deed.meaning book _ c.args.lane None (Stepped.Answered Reply.RolledBack) (rolled_back c.args.n lane) c.requires.lane.inside c.requires.lane.kept
    (ap (λ (x : Lane _). with_lane book c.args.lane x None) (c.roll_back.ensures ∙ ap (rolled_back c.args.n) (lane_read book c.args.lane c.index_mut.result.now c.requires.lane.inside c.index_mut.ensures.value)))
    (back_row g.E.Deed.meaning book c.args.lane c.args.n c.requires.lane.inside c.requires.lane.calling c.requires.lane.call (can_back _ c.args.n lane c.requires.inside c.requires.stored (c.requires.lane.kept c.args.lane)))
    (back_keeps _ c.args.n lane c.requires.lane.call (can_back _ c.args.n lane c.requires.inside c.requires.stored (c.requires.lane.kept c.args.lane)))
