use Rattle.std.proofs.Common.{rules}
use Rattle.lane_book.specs.Locks.{IsLeastHeld}
use Rattle.lane_book.proofs.Begins.{begin_waits, begin_takes, begin_step, of_some}
use Rattle.lane_book.specs.FacesOf.{lane_at}
use Rattle.lane_book.proofs.Keeps.{cleared_of, keeps_begun}
use Rattle.lane_book.proofs.book.Book.begin.Goals as goal

pub returns-in-Some-clause-ends : goal.returns-in-Some-clause-ends
returns-in-Some-clause-ends g c =
    let book = c.args.self.now in
    begin_waits book _ c.args.lane c.args.set c.in-Some.held.structure c.in-Some.held.lane _ c.wait.ensures.result
    (of_some (λ held. IsLeastHeld book c.args.set held.structure held.lane) c.holder.result c.in-Some.held c.in-Some.is c.holder.ensures.some)
    c.wait.ensures.moves.is

pub returns-in-None-clause-ends : goal.returns-in-None-clause-ends
returns-in-None-clause-ends g c =
    begin_takes c.args.self.now _ c.args.lane c.args.set _ c.take_structures.ensures.result (search rules) c.take_structures.ensures.is

pub returns-in-None-clause-step : goal.returns-in-None-clause-step
returns-in-None-clause-step g c =
    begin_step g.E.Deed.meaning c.args.self.now _ c.args.lane c.args.set _ c.requires.lane c.requires.calling c.requires.doing
    (cleared_of _ (lane_at c.args.self.now c.args.lane) c.args.set c.requires.doing (c.requires.book c.args.lane))
    c.take_structures.ensures.result c.take_structures.ensures.is

pub returns-in-None-clause-book : goal.returns-in-None-clause-book
returns-in-None-clause-book g c =
    keeps_begun c.args.self.now _ c.args.lane c.args.set c.requires.lane c.take_structures.ensures.is c.requires.doing c.requires.book
