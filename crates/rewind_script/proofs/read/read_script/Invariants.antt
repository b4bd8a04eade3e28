use Rattle.std.proofs.Common.{◌≡◌, ◌+◌, ◌≤◌, length}
use Rattle.std.specs.Str.Lines.{lines}
use Rattle.rewind_script.specs.Grammar.{script, script_from}
use Rattle.rewind_script.specs.Limits.{IsReading}
use Rattle.rewind_script.proofs.read.read_script.Given as goal

-- What is left of the text completes the script.
abbrev pub invariant-loop-line : goal.invariant-loop-line
invariant-loop-line l = (script_from l.number l.reading (lines l.rest) ≡ script l.text) × (l.number + length l.rest ≤ length l.text + 1) × IsReading l.reading

abbrev pub decreases-loop-line : goal.decreases-loop-line
decreases-loop-line l = length l.rest
