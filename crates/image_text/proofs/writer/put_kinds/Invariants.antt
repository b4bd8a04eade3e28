use Rattle.std.proofs.Common.{◌≡◌, ◌++◌, drop}
use Rattle.image_text.specs.Text.{text_of}
use Rattle.image_text.specs.Written.{kind_lines}
use Rattle.image_text.proofs.writer.put_kinds.Given as goal

-- The lines that are left complete the text.
abbrev pub invariant-loop-kind : goal.invariant-loop-kind
invariant-loop-kind l = l.text ++ text_of (kind_lines (drop l.kind-index l.kinds)) ≡ l.fn.text ++ text_of (kind_lines l.kinds)
