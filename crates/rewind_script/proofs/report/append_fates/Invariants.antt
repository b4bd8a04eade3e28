use Rattle.std.proofs.Common.{◌≡◌, ◌++◌, take}
use Rattle.std.specs.List.{flat_map}
use Rattle.rewind_script.specs.Report.{fate_line}
use Rattle.rewind_script.proofs.report.append_fates.Given as goal

abbrev pub invariant-loop-fate : goal.invariant-loop-fate
invariant-loop-fate l = l.text ≡ l.initial.text ++ flat_map fate_line (take l.fate-index l.fates)
