use Rattle.std.proofs.Common.{◌∙◌, ap, subst, sym, ◌<◌, ◌^◌}
use Rattle.lane_types.specs.declared.call.Stepped.TheVariants as Stepped
use Rattle.lane_book.specs.declared.lane.Lane.{Lane}
use Rattle.lane_book.specs.Lanes.{moved, stored_one, with_lane}
use Rattle.lane_book.specs.FacesOf.{lane_at}
use Rattle.lane_book.proofs.Faces.{lane_read}
use Rattle.lane_book.proofs.Rows.{steps_if_at}
use Rattle.lane_book.proofs.Keeps.{keeps_lane}
use Rattle.lane_book.proofs.BatchRows.{waiting_of}
use Rattle.lane_book.proofs.StoreRows.{store_row, store_keeps}
use Rattle.lane_book.proofs.book.Book.word_stored.Goals as goal

pub store_word-requires : goal.store_word-requires
store_word-requires g c =
    let book = c.args.self.now in
    subst (λ (x : Lane _). x.stored < 2 ^ 62) (sym (lane_read book c.args.lane c.index_mut.result.now c.requires.lane.inside c.index_mut.ensures.value)) c.requires.few

pub returns-clause-is : goal.returns-clause-is
returns-clause-is g c =
    let book = c.args.self.now in
    ap (λ (x : Lane _). with_lane book c.args.lane x c.args.touched)
    (c.store_word.ensures ∙ ap (λ (x : Lane _). moved c.args.part (stored_one x))
    (lane_read book c.args.lane c.index_mut.result.now c.requires.lane.inside c.index_mut.ensures.value))

pub returns-clause-step : goal.returns-clause-step
returns-clause-step g c =
    let book = c.args.self.now in
    steps_if_at _ g.E.Deed.meaning book _ _ c.args.lane Stepped.Moved (returns-clause-is g c)
    (store_row g.E.Deed.meaning book c.args.lane c.args.count c.args.part c.args.touched c.requires.lane.inside c.requires.lane.calling c.requires.lane.call
    (waiting_of _ (lane_at book c.args.lane) c.args.count c.requires.lane.call (c.requires.lane.kept c.args.lane)) c.requires.next)

pub returns-clause-book : goal.returns-clause-book
returns-clause-book g c =
    let book = c.args.self.now in
    keeps_lane book _ c.args.lane _ c.args.touched c.requires.lane.inside (returns-clause-is g c) c.requires.lane.kept
    (store_keeps _ c.args.count c.args.part (lane_at book c.args.lane) c.requires.lane.call c.requires.next)
