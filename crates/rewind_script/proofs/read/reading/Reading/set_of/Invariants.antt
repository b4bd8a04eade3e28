use Rattle.std.proofs.Common.{◌≡◌, drop, take, true}
use Rattle.std.specs.List.{list_all}
use Rattle.rewind_script.specs.Lanes.{with_bits, is_structure}
use Rattle.rewind_script.proofs.read.reading.Reading.set_of.Given as goal

abbrev pub invariant-loop-number : goal.invariant-loop-number
invariant-loop-number l = (with_bits l.set (drop l.number-index l.list) ≡ with_bits 0 l.list) × (list_all (is_structure l.self) (take l.number-index l.list) ≡ true)
