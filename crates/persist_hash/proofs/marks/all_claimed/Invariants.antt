use Rattle.std.proofs.Common.{◌≡◌, ℕ, ◌+◌, ◌*◌, ◌<◌, true, false, get_or}
use Rattle.persist_hash.proofs.marks.all_claimed.Given as goal

abbrev pub invariant-loop-k : goal.invariant-loop-k
invariant-loop-k g l = (j : ℕ) → j < l.k → get_or (g.L.Look.words l.words) (l.blocks.heap + 16 * j) 0 ≡ l.blocks.structure + 1 → get_or l.marks j false ≡ true
