use Rattle.std.proofs.Common.{ℕ}
use Rattle.std.proofs.lemmas.List.Filters.{FiltersInPlace}
use Rattle.word_region.specs.Places.{is_elsewhere, AreWithin}
use Rattle.word_region.proofs.places.drop_word.Given as goal

abbrev pub invariant-loop-at : goal.invariant-loop-at
invariant-loop-at l = record {
  filtered : FiltersInPlace (is_elsewhere l.address) l.initial.stores l.stores l.kept l.at;
  within : (size : ℕ) → AreWithin size l.initial.stores → AreWithin size l.stores;
}
