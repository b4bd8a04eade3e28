use Rattle.std.proofs.Common.{◌≡◌, ◌++◌, take}
use Rattle.std.specs.List.{flat_map}
use Rattle.rewind_script.specs.Report.{got_line}
use Rattle.rewind_script.proofs.report.append_gets.Given as goal

abbrev pub invariant-loop-got : goal.invariant-loop-got
invariant-loop-got l = l.text ≡ l.initial.text ++ flat_map got_line (take l.got-index l.gets)
