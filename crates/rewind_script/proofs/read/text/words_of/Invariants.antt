use Rattle.std.proofs.Common.{◌≡◌, ◌++◌, map, length}
use Rattle.rewind_script.specs.Text.{words}
use Rattle.rewind_script.proofs.read.text.words_of.Given as goal

-- The words so far and those of the rest are the line's.
abbrev pub invariant-loop-rest : goal.invariant-loop-rest
invariant-loop-rest l = map (λ word. word.now) l.words.items ++ words l.rest ≡ words l.line

abbrev pub decreases-loop-rest : goal.decreases-loop-rest
decreases-loop-rest l = length l.rest
