use Rattle.std.specs.Prelude.{vec_capacity}
use Rattle.lane_book.proofs.Starting.{AreIdle}
use Rattle.lane_book.proofs.fresh.idle_lanes.Given as goal

abbrev pub invariant-loop : goal.invariant-loop
invariant-loop g l = AreIdle l.counter l.fn.count (vec_capacity l.lanes) l.lanes.items
