use Rattle.std.proofs.Common.{◌∙◌, ◌+◌, ◌*◌, ap, length}
use Rattle.lane_book.specs.declared.lane.Lane.{Lane}
use Rattle.lane_book.specs.declared.lane.Doing.TheVariants as Doing
use Rattle.lane_book.specs.Lanes.{asked_lane}
use Rattle.lane_book.proofs.Asking.{batch_asked}
use Rattle.lane_book.proofs.lane.Lane.ask_batch.Goals as goal

pub returns-clause-ok : goal.returns-clause-ok
returns-clause-ok g c = batch_asked c.args.self.now _ _ c.args.call.now c.args.writes.now (2 * length c.args.writes.now + c.args.k) c.requires.call c.reserve.ensures.roomier c.in_ok-reserve.ensures.room
    (c.ask.ensures ∙ ap (λ (x : Lane _). asked_lane c.args.call.now (Doing.Batch (length c.args.writes.now)) (2 * length c.args.writes.now + c.args.k) x) c.push_all.ensures)
