use Rattle.std.proofs.Common.{◌∙◌, ap, ℕ, ◌+◌, None}
use Rattle.lane_book.specs.declared.lane.Lane.{Lane}
use Rattle.lane_book.specs.Lanes.{begun_lane, with_lane}
use Rattle.lane_book.specs.FacesOf.{lane_at}
use Rattle.lane_book.proofs.Faces.{lane_read}
use Rattle.lane_book.proofs.book.Book.take_structures.Goals as goal

pub returns-clause-is : goal.returns-clause-is
returns-clause-is g c =
    let book = c.args.self.now in
    ap (λ (x : Lane _). record (with_lane book c.args.lane x None) { next_transaction = book.next_transaction + 1 })
    (c.begin.ensures ∙
    ap (begun_lane book.next_transaction c.args.set c.len-joined.result) (lane_read book c.args.lane c.index_mut.result.now c.requires.lane c.index_mut.ensures.value) ∙
    ap (λ (n : ℕ). begun_lane book.next_transaction c.args.set n (lane_at book c.args.lane)) c.len-joined.ensures)
