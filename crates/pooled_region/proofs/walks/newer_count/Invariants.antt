use Rattle.std.proofs.Common.{◌≡◌, ℕ, ◌<◌, false, get_or}
use Rattle.persist_model.specs.Region.{has_mark}
use Rattle.pooled_region.specs.Pool.{no_place, place_at}
use Rattle.pooled_region.proofs.walks.newer_count.Given as goal

abbrev pub invariant-loop-passed : goal.invariant-loop-passed
invariant-loop-passed l = record {
  here : l.place ≡ place_at l.places l.word.newest l.passed;
  none : (i : ℕ) → i < l.passed → has_mark l.mark (get_or l.places (place_at l.places l.word.newest i) no_place).candidate ≡ false;
}
