use Rattle.std.proofs.Common.{◌≡◌}
use Rattle.hub_tests.proofs.runs.asks_until_heard.Given as goal

abbrev pub invariant-loop : goal.invariant-loop
invariant-loop g l =
    (goal.iterator-loop g).can_next l.iterator' × (goal.iterator-loop g).is_finite l.iterator'
    × (l.pass.lane ≡ l.initial.pass.lane) × (l.pass.place.table_id ≡ l.initial.pass.place.table_id)
