use Rattle.std.proofs.Common.{◌∙◌, refl, ap, None}
use Rattle.lane_types.specs.declared.call.Stepped.TheVariants as Stepped
use Rattle.lane_book.specs.declared.lane.Lane.{Lane}
use Rattle.lane_book.specs.Lanes.{moved, with_lane}
use Rattle.lane_book.specs.FacesOf.{lane_at}
use Rattle.lane_book.specs.Appends.{with_rollback}
use Rattle.lane_book.proofs.Faces.{lane_read}
use Rattle.lane_book.proofs.Reserving.{falls}
use Rattle.lane_book.proofs.Appending.{rolled_cells, logged_row, rollback_cells}
use Rattle.lane_book.proofs.Moving.{moves_so}
use Rattle.lane_book.proofs.book.Book.rollback_stored.Goals as goal

pub returns-clause-moves : goal.returns-clause-moves
returns-clause-moves g c =
    let book = c.args.self.now in
    let lane = lane_at book c.args.lane in
    moves_so g.E.Deed.meaning book _ c.args.lane None Stepped.Moved (moved c.args.part (with_rollback lane)) c.requires.lane.inside c.requires.lane.kept
    (ap (λ (x : Lane _). with_lane book c.args.lane x None) (c.log_rollback.ensures ∙ ap (λ (x : Lane _). moved c.args.part (with_rollback x)) (lane_read book c.args.lane c.index_mut.result.now c.requires.lane.inside c.index_mut.ensures.value)))
    (logged_row g.E.Deed.meaning book c.args.lane (moved c.args.part (with_rollback lane)) c.requires.lane.inside c.requires.lane.calling (λ base. refl))
    (λ is. record { behind = is.behind; points = is.points; rising = is.rising; about = is.about; cells = rolled_cells c.requires.rollback.is_open.records is.cells; out = is.out; calling = is.calling })

pub returns-clause-reserved : goal.returns-clause-reserved
returns-clause-reserved g c =
    let book = c.args.self.now in
    let lane = lane_at book c.args.lane in
    falls book _ c.args.lane (moved c.args.part (with_rollback lane)) None 1 c.requires.lane.inside (returns-clause-moves g c).is (rollback_cells lane c.args.part c.requires.rollback)
