use Rattle.std.proofs.Common.{◌≡◌, ◌≢◌, ℕ, ◌+◌, ◌*◌, ◌<◌, length}
use Rattle.std.specs.Prelude.{slice_index}
use Rattle.test_words.proofs.memory.owned_words.Given as goal

abbrev pub invariant-loop-k : goal.invariant-loop-k
invariant-loop-k l = record {
  size : length l.words.items ≡ 16 + 16 * l.fn.blocks;
  owners : (j : ℕ) → j < l.k → slice_index l.words.items (16 + 16 * j) ≡ 1;
  others : (a : ℕ) → ((j : ℕ) → j < l.k → a ≢ 16 + 16 * j) → slice_index l.words.items a ≡ 0;
}
