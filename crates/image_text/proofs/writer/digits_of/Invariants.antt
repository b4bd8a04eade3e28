use Rattle.std.proofs.Common.{◌≡◌, ◌≤◌, ◌++◌, length, drop}
use Rattle.image_text.specs.Text.{hexadecimal}
use Rattle.image_text.proofs.writer.digits_of.Given as goal

-- The digits of what is left stand before those that are written.
abbrev pub invariant-loop-place : goal.invariant-loop-place
invariant-loop-place l = (hexadecimal l.place l.rest ++ drop l.place l.digits ≡ hexadecimal 16 l.value) × (l.place ≤ 16) × (length l.digits ≡ 16)

abbrev pub decreases-loop-place : goal.decreases-loop-place
decreases-loop-place l = l.place
