use Rattle.std.proofs.Common.{◌≡◌, ◌-◌, ◌≤◌, [], length, vec_capacity}
use Rattle.turn_hub.specs.Plays.{free_view}
use Rattle.turn_hub.specs.Hub.{ArePasses}
use Rattle.turn_hub.proofs.open.deal.Given as goal

abbrev pub invariant-loop-lane : goal.invariant-loop-lane
invariant-loop-lane g l =
    let value = l.start.value.value in
    (l.place.me ≡ (free_view value l.lane (l.start.lanes - l.lane), [])) × (l.place.table_id ≡ l.top.table_id)
    × ArePasses l.top.table_id (g.T.Laned.seen value).faces 0 l.passes.items × (length l.passes.items ≡ l.lane) × (l.start.lanes ≤ vec_capacity l.passes)
