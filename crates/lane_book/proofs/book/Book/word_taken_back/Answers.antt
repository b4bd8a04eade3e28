use Rattle.std.proofs.Common.{◌∙◌, ap, subst, sym, ◌≤◌}
use Rattle.lane_types.specs.declared.call.Stepped.TheVariants as Stepped
use Rattle.lane_book.specs.declared.lane.Lane.{Lane}
use Rattle.lane_book.specs.Lanes.{moved, with_lane}
use Rattle.lane_book.specs.FacesOf.{lane_at}
use Rattle.lane_book.specs.Stores.{unstored_one}
use Rattle.lane_book.proofs.Faces.{lane_read}
use Rattle.lane_book.proofs.StoreRows.{back_word_row, back_word_keeps}
use Rattle.lane_book.proofs.Moving.{moves_so}
use Rattle.lane_book.proofs.book.Book.word_taken_back.Goals as goal

pub take_word_back-requires : goal.take_word_back-requires
take_word_back-requires g c =
    let book = c.args.self.now in
    subst (λ (x : Lane _). 1 ≤ x.stored) (sym (lane_read book c.args.lane c.index_mut.result.now c.requires.lane.inside c.index_mut.ensures.value)) c.requires.some

pub returns-clause-moves : goal.returns-clause-moves
returns-clause-moves g c =
    let book = c.args.self.now in
    let lane = lane_at book c.args.lane in
    moves_so g.E.Deed.meaning book _ c.args.lane c.args.touched Stepped.Moved (moved c.args.part (unstored_one lane)) c.requires.lane.inside c.requires.lane.kept
    (ap (λ (x : Lane _). with_lane book c.args.lane x c.args.touched) (c.take_word_back.ensures ∙ ap (λ (x : Lane _). moved c.args.part (unstored_one x)) (lane_read book c.args.lane c.index_mut.result.now c.requires.lane.inside c.index_mut.ensures.value)))
    (back_word_row g.E.Deed.meaning book c.args.lane c.args.part c.args.touched c.requires.lane.inside c.requires.lane.calling c.requires.undoing)
    (back_word_keeps _ c.args.part lane c.requires.undoing)
