use Rattle.std.proofs.Common.{◌≡◌, ℕ, ◌<◌, ◌^◌, ◌++◌, drop, slice_index}
use Rattle.image_text.specs.Text.{text_of}
use Rattle.image_text.specs.Written.{word_lines}
use Rattle.image_text.proofs.writer.put_words.Given as goal

-- The lines of the words that are left complete the text, and those before are of 64 bits.
abbrev pub invariant-loop-address : goal.invariant-loop-address
invariant-loop-address g l = record {
  text : l.text ++ text_of (word_lines l.address (drop l.address (g.W.Look.words l.words))) ≡ l.fn.text ++ text_of (word_lines 0 (g.W.Look.words l.words));
  fit : (a : ℕ) → a < l.address → slice_index (g.W.Look.words l.words) a < 2 ^ 64;
}
