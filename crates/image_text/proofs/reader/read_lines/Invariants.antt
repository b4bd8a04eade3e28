use Rattle.std.proofs.Common.{◌≡◌, ◌+◌, ◌≤◌, length}
use Rattle.image_text.specs.Text.{lines}
use Rattle.image_text.specs.Reading.{image, image_from}
use Rattle.image_text.proofs.reader.read_lines.Given as goal

-- What is left of the text completes the image.
abbrev pub invariant-loop-line : goal.invariant-loop-line
invariant-loop-line l = (image_from l.number l.draft (lines l.rest) ≡ image l.text) × (l.number + length l.rest ≤ length l.text + 1)

abbrev pub decreases-loop-line : goal.decreases-loop-line
decreases-loop-line l = length l.rest
