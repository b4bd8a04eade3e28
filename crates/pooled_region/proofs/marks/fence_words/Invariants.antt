use Rattle.std.proofs.Common.{◌≡◌, ℕ, ◌+◌, ◌<◌, ◌≤◌, get_or}
use Rattle.persist_model.specs.Region.{fenced}
use Rattle.pooled_region.specs.Pool.{candidates_at, ArePooled, later_count}
use Rattle.pooled_region.proofs.Fences.{IsFencedOrNot}
use Rattle.pooled_region.proofs.marks.fence_words.Given as goal

abbrev pub invariant-loop-index : goal.invariant-loop-index
invariant-loop-index l = record {
  pooled : ArePooled l.places l.words l.free;
  state : (a : ℕ) → IsFencedOrNot l.mark (candidates_at l.initial.places l.initial.words a) (candidates_at l.places l.words a);
  done : (i : ℕ) → i < l.index → candidates_at l.places l.words (get_or l.listed i 0) ≡ fenced l.mark (candidates_at l.initial.places l.initial.words (get_or l.listed i 0));
  room : l.initial.free.count ≤ l.free.count;
  none_lost : later_count l.words + l.free.count ≡ later_count l.initial.words + l.initial.free.count;
}
