use Rattle.std.proofs.Common.{◌≡◌, ◌++◌, take}
use Rattle.std.specs.List.{flat_map}
use Rattle.rewind_script.specs.Report.{pair_line}
use Rattle.rewind_script.proofs.report.append_pairs.Given as goal

abbrev pub invariant-loop-pair : goal.invariant-loop-pair
invariant-loop-pair l = l.text ≡ l.initial.text ++ flat_map pair_line (take l.pair-index l.pairs)
