use Rattle.std.proofs.Common.{◌≡◌, ◌++◌, map, take}
use Rattle.std.specs.List.{filter}
use Rattle.recovery_analysis.specs.Changes.{is_deleted, given_back}
use Rattle.recovery_analysis.proofs.changing.add_deleted.Given as goal

abbrev pub invariant-loop-deletion : goal.invariant-loop-deletion
invariant-loop-deletion l = l.changes ≡ l.initial.changes ++ map given_back (filter (is_deleted l.winners) (take l.deletion-index l.merged))
