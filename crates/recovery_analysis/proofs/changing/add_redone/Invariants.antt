use Rattle.std.proofs.Common.{◌≡◌, ◌++◌, map, take}
use Rattle.std.specs.List.{filter}
use Rattle.region_layout.specs.Layout.{policy_number}
use Rattle.recovery_analysis.specs.Changes.{is_redone, new_value}
use Rattle.recovery_analysis.proofs.changing.add_redone.Given as goal

abbrev pub invariant-loop-placed : goal.invariant-loop-placed
invariant-loop-placed l = l.changes ≡ l.initial.changes ++ map new_value (filter (is_redone (policy_number l.policy) l.unskipped) (take l.placed-index l.merged))
