use Rattle.std.proofs.Common.{◌∙◌, refl, ap, None, sym, subst}
use Rattle.lane_types.specs.declared.call.Stepped.TheVariants as Stepped
use Rattle.lane_book.specs.declared.lane.Lane.{Lane}
use Rattle.lane_book.specs.Lanes.{moved, with_lane}
use Rattle.lane_book.specs.FacesOf.{lane_at}
use Rattle.lane_book.specs.Appends.{with_deletion, CanDelete}
use Rattle.lane_book.proofs.Faces.{lane_read}
use Rattle.lane_book.proofs.Reserving.{falls}
use Rattle.lane_book.proofs.Appending.{give_goes_on, logged_cells, logged_row, deletion_cells}
use Rattle.lane_book.proofs.Moving.{moves_so}
use Rattle.lane_book.proofs.book.Book.deletion_stored.Goals as goal

pub log_deletion-requires : goal.log_deletion-requires
log_deletion-requires g c =
    let book = c.args.self.now in
    subst (λ (x : Lane _). CanDelete x) (sym (lane_read book c.args.lane c.index_mut.result.now c.requires.lane.inside c.index_mut.ensures.value)) c.requires.deletion

pub returns-clause-moves : goal.returns-clause-moves
returns-clause-moves g c =
    let book = c.args.self.now in
    let lane = lane_at book c.args.lane in
    moves_so g.E.Deed.meaning book _ c.args.lane None Stepped.Moved (moved c.args.part (with_deletion c.args.gate lane)) c.requires.lane.inside c.requires.lane.kept
    (ap (λ (x : Lane _). with_lane book c.args.lane x None) (c.log_deletion.ensures ∙ ap (λ (x : Lane _). moved c.args.part (with_deletion c.args.gate x)) (lane_read book c.args.lane c.index_mut.result.now c.requires.lane.inside c.index_mut.ensures.value)))
    (logged_row g.E.Deed.meaning book c.args.lane (moved c.args.part (with_deletion c.args.gate lane)) c.requires.lane.inside c.requires.lane.calling (λ base. refl))
    (λ is. record { behind = is.behind; points = is.points; rising = is.rising; about = is.about; cells = logged_cells _ is.cells; out = is.out; calling = is.calling })

pub returns-clause-reserved : goal.returns-clause-reserved
returns-clause-reserved g c =
    let book = c.args.self.now in
    let lane = lane_at book c.args.lane in
    falls book _ c.args.lane (moved c.args.part (with_deletion c.args.gate lane)) None 1 c.requires.lane.inside (returns-clause-moves g c).is (deletion_cells lane c.args.gate c.args.part c.requires.deletion
    ((c.requires.lane.kept c.args.lane).cells.going (give_goes_on lane.doing c.requires.deletion.call)))
