use Rattle.lane_book.specs.FacesOf.{lane_at}
use Rattle.std.proofs.Common.{◌≡◌, ◌∙◌, ap, sym, ◌++◌, ◌∷◌, []}
use Rattle.lane_types.specs.declared.face.Entry.{Entry}
use Rattle.lane_types.specs.declared.call.Reply.TheVariants as Reply
use Rattle.lane_book.specs.Stocked.{with_items}
use Rattle.lane_book.specs.declared.lane.Lane.{Lane}
use Rattle.lane_book.specs.Lanes.{left, entered_lane}
use Rattle.lane_book.proofs.Faces.{lane_read}
use Rattle.lane_book.proofs.Rows.{commit_row, entered_book}
use Rattle.lane_book.proofs.Keeps.{keeps_entered, left_keeps}
use Rattle.lane_book.proofs.book.Book.commit.Goals as goal

pub returns-in-Some-clause-is : goal.returns-in-Some-clause-is
returns-in-Some-clause-is g c =
    let book = c.args.self.now in
    let read = lane_read book c.args.lane c.index_mut.result.now c.requires.lane.inside c.index_mut.ensures.value in
    λ e has.
    let out = sym c.in-Some.is ∙ c.commit.ensures.entry ∙ ap (λ (x : Lane _). x.entry) read ∙ has in
    let is : c.in-Some.entry ≡ e = cc in
    entered_book book c.args.lane _ _ _ _ (c.commit.ensures.lane ∙ ap (λ (x : Lane _). left Reply.Committed (entered_lane x)) read)
    (c.push.ensures ∙ ap (λ (x : Entry _). with_items (book.history.items ++ x ∷ []) book.history) is)

pub returns-in-Some-clause-step : goal.returns-in-Some-clause-step
returns-in-Some-clause-step g c = commit_row g.E.Deed.meaning c.args.self.now _ c.args.lane c.requires.lane.inside c.requires.lane.calling c.requires.lane.call c.requires.entry (λ l. (c.requires.lane.kept l).behind)
    (returns-in-Some-clause-is g c)

pub returns-in-Some-clause-book : goal.returns-in-Some-clause-book
returns-in-Some-clause-book g c =
    let book = c.args.self.now in
    let read = lane_read book c.args.lane c.index_mut.result.now c.requires.lane.inside c.index_mut.ensures.value in
    keeps_entered book _ c.args.lane _ c.in-Some.entry c.requires.lane.inside
    (returns-in-Some-clause-is g c c.in-Some.entry (sym (ap (λ (x : Lane _). x.entry) read) ∙ sym c.commit.ensures.entry ∙ c.in-Some.is)) c.requires.lane.kept
    (λ is. left_keeps _ _ (entered_lane (lane_at book c.args.lane)))
