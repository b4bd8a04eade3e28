use Rattle.std.proofs.Common.{◌≡◌, drop}
use Rattle.rewind_script.specs.TurnLines.{add_turns}
use Rattle.rewind_script.specs.Answers.{IsSmall}
use Rattle.rewind_script.proofs.read.reading.Reading.add_turns.Given as goal

-- The turns that are left complete the reading.
abbrev pub invariant-loop-turn : goal.invariant-loop-turn
invariant-loop-turn l = (add_turns l.self (drop l.turn-index l.list) ≡ add_turns l.fn.self l.list) × IsSmall l.self
