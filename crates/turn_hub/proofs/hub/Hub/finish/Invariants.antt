use Rattle.std.proofs.Common.{◌≡◌}
use Rattle.turn_hub.specs.Hub.{face_of, Through}
use Rattle.turn_hub.proofs.hub.Hub.finish.Given as goal

abbrev pub invariant-loop : goal.invariant-loop
invariant-loop g l =
    (goal.iterator-loop g).can_next l.iterator' × (goal.iterator-loop g).is_finite l.iterator'
    × (l.pass.lane ≡ l.initial.pass.lane) × (l.pass.place.table_id ≡ l.initial.pass.place.table_id)
    × Through g.T.Deed.Deed.meaning (face_of l.initial.pass) (face_of l.pass)
