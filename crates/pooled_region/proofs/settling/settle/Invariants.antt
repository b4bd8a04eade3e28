use Rattle.std.proofs.Common.{◌≡◌, ℕ, ◌<◌, ◌≤◌, get_or}
use Rattle.persist_model.specs.Region.{picked}
use Rattle.pooled_region.specs.Pool.{no_word, settled_word, candidates_at}
use Rattle.pooled_region.proofs.settling.settle.Given as goal

abbrev pub invariant-loop-address : goal.invariant-loop-address
invariant-loop-address l = record {
  done : (b : ℕ) → b < l.address → get_or l.words b no_word ≡ settled_word (picked l.pick b (candidates_at l.places l.initial.words b));
  rest : (b : ℕ) → l.address ≤ b → get_or l.words b no_word ≡ get_or l.initial.words b no_word;
}
