use Rattle.std.proofs.Common.{◌≡◌, map}
use Rattle.std.specs.List.{range_with_len}
use Rattle.test_regions.specs.Pairs.{word_in}
use Rattle.test_regions.proofs.pairs.words_of.Given as goal

abbrev pub invariant-loop-a : goal.invariant-loop-a
invariant-loop-a l = l.words.items ≡ map (word_in l.pairs) (range_with_len 0 l.a)
