use Rattle.std.proofs.Common.{◌≡◌, drop}
use Rattle.rewind_script.specs.Steps.{numerals}
use Rattle.rewind_script.specs.Answers.{texts}
use Rattle.rewind_script.proofs.Lists.{onto}
use Rattle.rewind_script.proofs.read.numbers.numerals_of.Given as goal

-- The numbers of the words that are left complete the list.
abbrev pub invariant-loop-word : goal.invariant-loop-word
invariant-loop-word l = onto l.list.items (numerals (drop l.word-index (texts l.args))) ≡ numerals (texts l.args)
