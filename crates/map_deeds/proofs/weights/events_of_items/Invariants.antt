use Rattle.std.proofs.Common.{◌≡◌, take}
use Rattle.std.specs.Prelude.{min}
use Rattle.std.specs.List.{sum_by}
use Rattle.map_deeds.specs.Weights.{item_events}
use Rattle.map_deeds.proofs.weights.events_of_items.Given as goal

abbrev pub invariant-loop-item : goal.invariant-loop-item
invariant-loop-item l = l.sum ≡ min (sum_by (item_events l.bucket_cells l.batch l.kinds) (take l.item-index l.items)) 18446744073709551615
