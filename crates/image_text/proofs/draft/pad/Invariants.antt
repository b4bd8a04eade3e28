use Rattle.std.proofs.Common.{◌≡◌, ◌-◌, length}
use Rattle.image_text.specs.Reading.{padded}
use Rattle.image_text.proofs.draft.pad.Given as goal

-- The zeros that are left complete the words.
abbrev pub invariant-loop-words : goal.invariant-loop-words
invariant-loop-words l = padded l.size l.words ≡ padded l.size l.fn.words

abbrev pub decreases-loop-words : goal.decreases-loop-words
decreases-loop-words l = l.size - length l.words
