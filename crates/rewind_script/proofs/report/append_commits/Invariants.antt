use Rattle.std.proofs.Common.{◌≡◌, ◌++◌, take}
use Rattle.std.specs.List.{flat_map}
use Rattle.rewind_script.specs.Report.{commit_lines}
use Rattle.rewind_script.proofs.report.append_commits.Given as goal

abbrev pub invariant-loop-commit : goal.invariant-loop-commit
invariant-loop-commit l = l.text ≡ l.initial.text ++ flat_map commit_lines (take l.commit-index l.commits)
