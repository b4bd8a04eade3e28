use Rattle.std.proofs.Common.{◌≡◌, ◌++◌, [], None, length}
use Rattle.std.specs.Prelude.{All}
use Rattle.turn_hub.specs.Hub.{sights_back}
use Rattle.turn_hub.proofs.close.gather.Given as goal

abbrev pub invariant-loop-pass : goal.invariant-loop-pass
invariant-loop-pass g l =
    (l.place.me.0.sights ++ sights_back l.passes.items ≡ l.initial.place.me.0.sights ++ sights_back l.initial.passes.items)
    × (l.place.table_id ≡ l.initial.place.table_id) × (l.place.id ≡ l.initial.place.id) × (l.place.me.0.grip ≡ None) × (l.place.me.1 ≡ []) × All (λ p. p.place.table_id ≡ l.top.table_id) l.passes.items

abbrev pub decreases-loop-pass : goal.decreases-loop-pass
decreases-loop-pass g l = length l.passes.items
