use Rattle.std.proofs.Common.{ℕ, ◌<◌, get_or}
use Rattle.persist_model.specs.Shape.{IsHeapWord}
use Rattle.region_layout.specs.Layout.{layout_shape}
use Rattle.lane_book.specs.Stores.{no_write}
use Rattle.book_tests.proofs.refused.are_inside.Given as goal

abbrev pub invariant-loop-k : goal.invariant-loop-k
invariant-loop-k l = (j : ℕ) → j < l.k → IsHeapWord (layout_shape l.layout) (get_or l.writes j no_write).address
