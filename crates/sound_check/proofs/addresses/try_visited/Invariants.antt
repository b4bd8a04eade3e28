use Rattle.std.specs.Prelude.{slice_index}
use Rattle.std.proofs.Common.{drop}
use Rattle.persist_model.specs.Shape.{IsBucketOf}
use Rattle.persist_model.specs.Chain.{IsLink, out_address}
use Rattle.persist_model.specs.Visit.{links_of}
use Rattle.region_layout.specs.Layout.{layout_shape}
use Rattle.sound_check.proofs.Left.{IsLeft}
use Rattle.sound_check.proofs.addresses.try_visited.Given as goal

abbrev pub invariant-loop-b : goal.invariant-loop-b
invariant-loop-b g l = IsLeft (λ a. IsLink (IsBucketOf (layout_shape l.layout) l.p) (slice_index (g.W.Look.words l.words) a)) 5 (out_address l.p) (links_of l.visited) (links_of (drop l.b-index l.visited))
