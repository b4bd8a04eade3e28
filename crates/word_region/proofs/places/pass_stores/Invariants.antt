use Rattle.std.proofs.Common.{◌≡◌, ℕ, ◌≤◌, false, length, take}
use Rattle.std.specs.List.{list_any}
use Rattle.persist_model.specs.Region.{fenced}
use Rattle.word_region.specs.Places.{bears, word_of, left_of, AreWithin, AreUnmarked}
use Rattle.word_region.proofs.places.pass_stores.Given as goal

abbrev pub invariant-loop-at : goal.invariant-loop-at
invariant-loop-at l = record {
  same : (b : ℕ) → fenced l.mark (word_of l.settled (left_of l.stores l.kept l.at) b) ≡ fenced l.mark (word_of l.initial.settled l.initial.stores b);
  quiet : list_any (bears l.mark) (take l.kept l.stores) ≡ false;
  order : l.kept ≤ l.at;
  within : AreWithin (length l.settled) l.stores;
  unmarked : AreUnmarked l.initial.settled → AreUnmarked l.settled;
}
