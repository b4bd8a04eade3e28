use Rattle.std.proofs.Common.{None, subst, refl}
use Rattle.lane_book.specs.declared.lane.Doing.TheVariants as Doing
use Rattle.lane_book.specs.Books.{IsAboutIt}
use Rattle.lane_book.specs.FacesOf.{lane_at}
use Rattle.lane_types.specs.declared.call.Reply.TheVariants as Reply
use Rattle.lane_types.specs.declared.call.Stepped.TheVariants as Stepped
use Rattle.lane_book.proofs.Rows.{steps_if_at, read_row}
use Rattle.lane_book.proofs.Keeps.{keeps_lane, closed_keeps}
use Rattle.lane_book.proofs.book.Book.read.Goals as goal

pub returns-clause-step : goal.returns-clause-step
returns-clause-step g c = steps_if_at _ g.E.Deed.meaning c.args.self.now _ _ c.args.lane (Stepped.Answered (Reply.Word c.args.value)) c.close.ensures
    (read_row g.E.Deed.meaning c.args.self.now c.args.lane c.args.a c.args.value c.requires.inside c.requires.calling c.requires.call)

pub returns-clause-book : goal.returns-clause-book
returns-clause-book g c =
    let book = c.args.self.now in
    let lane = lane_at book c.args.lane in
    keeps_lane book _ c.args.lane _ None c.requires.inside c.close.ensures c.requires.kept (λ is. closed_keeps _ _ (Doing.Read c.args.a) lane c.requires.call refl is (subst (IsAboutIt lane) c.requires.call is.about) (λ e. cc))
