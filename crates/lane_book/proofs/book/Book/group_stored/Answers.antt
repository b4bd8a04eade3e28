use Rattle.std.proofs.Common.{◌∙◌, refl, ap, None, sym, subst, length, ◌+◌}
use Rattle.lane_types.specs.declared.call.Stepped.TheVariants as Stepped
use Rattle.lane_book.specs.declared.lane.Lane.{Lane}
use Rattle.lane_book.specs.Lanes.{moved, with_lane}
use Rattle.lane_book.specs.FacesOf.{lane_at}
use Rattle.lane_book.specs.Appends.{with_group, CanGroup}
use Rattle.lane_book.proofs.Faces.{lane_read}
use Rattle.lane_book.proofs.Reserving.{falls}
use Rattle.lane_book.proofs.Appending.{batch_goes_on, logged_cells, logged_row, group_cells}
use Rattle.lane_book.proofs.Moving.{moves_so}
use Rattle.lane_book.proofs.book.Book.group_stored.Goals as goal

pub log_group-requires : goal.log_group-requires
log_group-requires g c =
    let book = c.args.self.now in
    subst (λ (x : Lane _). CanGroup (length c.args.updates.now) c.args.spare x) (sym (lane_read book c.args.lane c.index_mut.result.now c.requires.lane.inside c.index_mut.ensures.value)) c.requires.group

pub returns-clause-moves : goal.returns-clause-moves
returns-clause-moves g c =
    let book = c.args.self.now in
    let lane = lane_at book c.args.lane in
    moves_so g.E.Deed.meaning book _ c.args.lane None Stepped.Moved (moved c.args.part (with_group c.args.updates.now c.args.spare lane)) c.requires.lane.inside c.requires.lane.kept
    (ap (λ (x : Lane _). with_lane book c.args.lane x None) (c.log_group.ensures ∙ ap (λ (x : Lane _). moved c.args.part (with_group c.args.updates.now c.args.spare x)) (lane_read book c.args.lane c.index_mut.result.now c.requires.lane.inside c.index_mut.ensures.value)))
    (logged_row g.E.Deed.meaning book c.args.lane (moved c.args.part (with_group c.args.updates.now c.args.spare lane)) c.requires.lane.inside c.requires.lane.calling (λ base. refl))
    (λ is. record { behind = is.behind; points = is.points; rising = is.rising; about = is.about; cells = logged_cells _ is.cells; out = is.out; calling = is.calling })

pub returns-clause-reserved : goal.returns-clause-reserved
returns-clause-reserved g c =
    let book = c.args.self.now in
    let lane = lane_at book c.args.lane in
    falls book _ c.args.lane (moved c.args.part (with_group c.args.updates.now c.args.spare lane)) None (length c.args.updates.now + c.args.spare) c.requires.lane.inside (returns-clause-moves g c).is (group_cells lane c.args.updates.now c.args.spare c.args.part c.requires.group
    ((c.requires.lane.kept c.args.lane).cells.going (batch_goes_on lane.doing c.requires.group.call)))
