use Rattle.std.proofs.Common.{◌≡◌, map}
use Rattle.rewind.specs.History.{printed, first_names}
use Rattle.rewind.proofs.report.commits_of.Given as goal

abbrev pub invariant-loop-number : goal.invariant-loop-number
invariant-loop-number l = l.commits ≡ map printed (first_names l.number)
