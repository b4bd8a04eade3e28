use Rattle.lane_book.proofs.Starting.{one_more}
use Rattle.lane_book.proofs.fresh.idle_lanes.Goals as goal

pub loop-preserved : goal.loop-preserved
loop-preserved g c = one_more c.loop.counter c.args.count _ _ c.idle.result c.loop.lanes.items _ c.idle.ensures c.push_reserved.ensures.items c.push_reserved.ensures.capacity c.loop.invariant
