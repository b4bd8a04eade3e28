use Rattle.std.proofs.Common.{◌≡◌, ℕ, ◌<◌, false, get_or}
use Rattle.pooled_region.specs.Pool.{no_place, place_at, is_marked}
use Rattle.pooled_region.proofs.walks.bears_mark.Given as goal

abbrev pub invariant-loop-passed : goal.invariant-loop-passed
invariant-loop-passed l = record {
  here : l.place ≡ place_at l.places l.fn.word.newest l._passed;
  none : (i : ℕ) → i < l._passed → is_marked (get_or l.places (place_at l.places l.fn.word.newest i) no_place).candidate ≡ false;
}
