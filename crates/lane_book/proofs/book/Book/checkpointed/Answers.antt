use Rattle.std.proofs.Common.{None, subst, ◌∙◌, sym, ap, length, List, refl}
use Rattle.lane_book.specs.declared.lane.Doing.TheVariants as Doing
use Rattle.lane_book.specs.Books.{IsAboutIt, IsEmptied}
use Rattle.lane_traits.specs.declared.draft.WordWrite.{WordWrite}
use Rattle.lane_book.specs.FacesOf.{lane_at}
use Rattle.lane_types.specs.declared.call.Reply.TheVariants as Reply
use Rattle.lane_types.specs.declared.call.Stepped.TheVariants as Stepped
use Rattle.lane_book.proofs.Rows.{checkpoint_row}
use Rattle.lane_book.proofs.Keeps.{closed_keeps}
use Rattle.lane_book.specs.Lanes.{closed}
use Rattle.lane_book.proofs.Moving.{moves_so}
use Rattle.lane_book.proofs.book.Book.checkpointed.Goals as goal

pub returns-clause-moves : goal.returns-clause-moves
returns-clause-moves g c =
    let book = c.args.self.now in
    let lane = lane_at book c.args.lane in
    moves_so g.E.Deed.meaning book _ c.args.lane None (Stepped.Answered Reply.Checkpointed) (closed Reply.Checkpointed lane) c.requires.inside c.requires.kept c.close.ensures
    (checkpoint_row g.E.Deed.meaning book c.args.lane c.requires.inside c.requires.calling c.requires.call)
    (λ is. let cleared : IsEmptied lane = subst (IsAboutIt lane) c.requires.call is.about in
    closed_keeps _ _ Doing.Checkpoint lane c.requires.call refl is (cleared.stored_gone ∙ sym (ap (λ (ws : List WordWrite). length ws) cleared.writes_gone)) (λ e. cleared))
