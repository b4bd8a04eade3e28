use Rattle.std.proofs.Common.{◌≡◌, ◌<◌, ◌^◌, drop}
use Rattle.image_text.specs.Text.{spelled}
use Rattle.image_text.proofs.number.spelled_by.Given as goal

-- The digits that are left complete the number.
abbrev pub invariant-loop-byte : goal.invariant-loop-byte
invariant-loop-byte l = (spelled l.base l.number (drop l.byte-index l.word) ≡ spelled l.base 0 l.word) × (l.number < 16 ^ l.byte-index)
