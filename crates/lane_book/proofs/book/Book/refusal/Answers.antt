use Rattle.std.proofs.Common.{subst}
use Rattle.lane_book.specs.declared.lane.Lane.{Lane}
use Rattle.lane_book.specs.Refusals.{Decides}
use Rattle.lane_book.proofs.Faces.{lane_read}
use Rattle.lane_book.proofs.AskRows.{told_of}
use Rattle.lane_book.proofs.book.Book.refusal.Goals as goal

pub returns-clause-told : goal.returns-clause-told
returns-clause-told g c = λ base shows inside.
    let book = c.args.self.now in
    told_of c.args.layout book c.args.lane base shows c.args.room c.args.need c.args.call.now c.refusal_of.result inside
    (subst (λ (x : Lane _). Decides c.args.layout c.args.room c.args.need book.blocks x c.args.call.now c.refusal_of.result)
    (lane_read book c.args.lane c.index.result.now c.requires.lane c.index.ensures) c.refusal_of.ensures)
