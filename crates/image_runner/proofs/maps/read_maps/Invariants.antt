use Rattle.std.proofs.Common.{◌≡◌, slice_index, take}
use Rattle.persist_model.specs.Shape.{heap}
use Rattle.region_layout.specs.Layout.{layout_shape}
use Rattle.image_runner.specs.Maps.{HoldMaps}
use Rattle.image_runner.proofs.maps.read_maps.Given as goal

abbrev pub invariant-loop-kind : goal.invariant-loop-kind
invariant-loop-kind g l = record {
  hold : HoldMaps (heap (layout_shape l.layout)) (slice_index (g.L.Look.words l.words)) (take l.kind-index l.kinds) l.maps;
  structure : l.structure ≡ l.kind-index;
}
