use Rattle.std.specs.Prelude.{slice_index}
use Rattle.std.proofs.Common.{drop}
use Rattle.persist_model.specs.Shape.{IsBucketOf}
use Rattle.persist_model.specs.Chain.{IsLink, out_address}
use Rattle.region_layout.specs.Layout.{layout_shape}
use Rattle.sound_check.proofs.Left.{IsLeft}
use Rattle.sound_check.proofs.addresses.try_links.Given as goal

abbrev pub invariant-loop-a : goal.invariant-loop-a
invariant-loop-a g l = IsLeft (λ a. IsLink (IsBucketOf (layout_shape l.layout) l.p) (slice_index (g.W.Look.words l.words) a)) 5 (out_address l.p) l.ats (drop l.a-index l.ats)
