use Rattle.std.proofs.Common.{◌≡◌, ◌++◌, take}
use Rattle.std.specs.List.{flat_map}
use Rattle.rewind_script.specs.Report.{kept_line}
use Rattle.rewind_script.proofs.report.append_kept.Given as goal

abbrev pub invariant-loop-named : goal.invariant-loop-named
invariant-loop-named l = l.text ≡ l.initial.text ++ flat_map kept_line (take l.named-index l.kept)
