use Rattle.std.proofs.Common.{◌∙◌, refl, ap, None, sym, subst}
use Rattle.lane_types.specs.declared.call.Stepped.TheVariants as Stepped
use Rattle.lane_book.specs.declared.lane.Lane.{Lane}
use Rattle.lane_book.specs.Lanes.{moved, with_lane}
use Rattle.lane_book.specs.FacesOf.{lane_at}
use Rattle.lane_book.specs.Appends.{with_update, CanUpdate}
use Rattle.lane_book.proofs.Faces.{lane_read}
use Rattle.lane_book.proofs.Reserving.{falls}
use Rattle.lane_book.proofs.Appending.{write_goes_on, logged_cells, logged_row, update_cells}
use Rattle.lane_book.proofs.Moving.{moves_so}
use Rattle.lane_book.proofs.book.Book.update_stored.Goals as goal

pub log_update-requires : goal.log_update-requires
log_update-requires g c =
    let book = c.args.self.now in
    subst (λ (x : Lane _). CanUpdate x) (sym (lane_read book c.args.lane c.index_mut.result.now c.requires.lane.inside c.index_mut.ensures.value)) c.requires.update

pub returns-clause-moves : goal.returns-clause-moves
returns-clause-moves g c =
    let book = c.args.self.now in
    let lane = lane_at book c.args.lane in
    moves_so g.E.Deed.meaning book _ c.args.lane None Stepped.Moved (moved c.args.part (with_update c.args.update lane)) c.requires.lane.inside c.requires.lane.kept
    (ap (λ (x : Lane _). with_lane book c.args.lane x None) (c.log_update.ensures ∙ ap (λ (x : Lane _). moved c.args.part (with_update c.args.update x)) (lane_read book c.args.lane c.index_mut.result.now c.requires.lane.inside c.index_mut.ensures.value)))
    (logged_row g.E.Deed.meaning book c.args.lane (moved c.args.part (with_update c.args.update lane)) c.requires.lane.inside c.requires.lane.calling (λ base. refl))
    (λ is. record { behind = is.behind; points = is.points; rising = is.rising; about = is.about; cells = logged_cells _ is.cells; out = is.out; calling = is.calling })

pub returns-clause-reserved : goal.returns-clause-reserved
returns-clause-reserved g c =
    let book = c.args.self.now in
    let lane = lane_at book c.args.lane in
    falls book _ c.args.lane (moved c.args.part (with_update c.args.update lane)) None 1 c.requires.lane.inside (returns-clause-moves g c).is (update_cells lane c.args.update c.args.part c.requires.update
    ((c.requires.lane.kept c.args.lane).cells.going (write_goes_on lane.doing c.requires.update.call)))
