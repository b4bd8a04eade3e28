use Rattle.std.proofs.Common.{None, subst, refl}
use Rattle.lane_book.specs.declared.lane.Doing.TheVariants as Doing
use Rattle.lane_book.specs.Books.{IsAboutIt, IsGiving}
use Rattle.lane_book.specs.FacesOf.{lane_at}
use Rattle.lane_types.specs.declared.call.Reply.TheVariants as Reply
use Rattle.lane_types.specs.declared.call.Stepped.TheVariants as Stepped
use Rattle.lane_book.proofs.WordRows.{give_row}
use Rattle.lane_book.proofs.Keeps.{closed_keeps, giving_of}
use Rattle.lane_book.specs.Lanes.{closed}
use Rattle.lane_book.proofs.Moving.{moves_so}
use Rattle.lane_book.proofs.book.Book.given.Goals as goal

pub returns-clause-moves : goal.returns-clause-moves
returns-clause-moves g c =
    let book = c.args.self.now in
    let lane = lane_at book c.args.lane in
    moves_so g.E.Deed.meaning book _ c.args.lane None (Stepped.Answered Reply.Given) (closed Reply.Given lane) c.requires.inside c.requires.kept c.close.ensures
    (give_row g.E.Deed.meaning book c.args.lane c.args.block c.requires.inside c.requires.calling c.requires.call (giving_of _ lane c.args.block c.requires.call (c.requires.kept c.args.lane)))
    (λ is. let giving : IsGiving c.args.block lane.stored lane.writes.items lane.gives.items = subst (IsAboutIt lane) c.requires.call is.about in
    closed_keeps _ _ (Doing.Give c.args.block) lane c.requires.call refl is giving.all (λ e. cc))
