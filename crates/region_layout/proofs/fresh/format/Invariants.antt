use Rattle.std.proofs.Common.{◌≡◌, map}
use Rattle.std.specs.List.{range_with_len}
use Rattle.region_layout.specs.Layout.{layout_shape}
use Rattle.region_layout.specs.Fresh.{fresh_word}
use Rattle.region_layout.proofs.fresh.format.Given as goal

-- The words so far are the first of a fresh region.
abbrev pub invariant-loop-a : goal.invariant-loop-a
invariant-loop-a l = l.words ≡ map (fresh_word (layout_shape l.layout) l.kinds) (range_with_len 0 l.a)
