use Rattle.std.proofs.Common.{◌≡◌, drop}
use Rattle.test_regions.specs.Pairs.{word_in}
use Rattle.test_regions.proofs.pairs.word_of.Given as goal

abbrev pub invariant-loop-pair : goal.invariant-loop-pair
invariant-loop-pair l = word_in l.pairs l.a ≡ word_in (drop l.pair-index l.pairs) l.a
