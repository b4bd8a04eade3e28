use Rattle.lane_book.proofs.Asking.{plain_asked}
use Rattle.lane_book.proofs.lane.Lane.ask_plain.Goals as goal

pub returns-clause-ok : goal.returns-clause-ok
returns-clause-ok g c = plain_asked c.args.self.now _ _ c.args.call.now c.args.doing c.requires c.reserve.ensures.roomier c.in_ok-reserve.ensures.room c.ask.ensures
