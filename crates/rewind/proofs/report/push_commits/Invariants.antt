use Rattle.std.proofs.Common.{◌≡◌, ◌++◌}
use Rattle.rewind.specs.History.{commit_lines, first_names}
use Rattle.rewind.proofs.report.push_commits.Given as goal

abbrev pub invariant-loop-number : goal.invariant-loop-number
invariant-loop-number l = l.text.items ≡ l.initial.text.items ++ commit_lines (first_names l.number)
