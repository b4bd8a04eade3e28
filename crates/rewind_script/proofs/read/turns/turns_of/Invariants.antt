use Rattle.std.proofs.Common.{◌≡◌, drop}
use Rattle.rewind_script.specs.TurnLines.{turn_list}
use Rattle.rewind_script.specs.Answers.{texts}
use Rattle.rewind_script.proofs.Lists.{onto}
use Rattle.rewind_script.proofs.read.turns.turns_of.Given as goal

-- The turns of the words that are left complete the list.
abbrev pub invariant-loop-word : goal.invariant-loop-word
invariant-loop-word l = onto l.list.items (turn_list (drop l.word-index (texts l.args))) ≡ turn_list (texts l.args)
