use Rattle.std.specs.Prelude.{slice_index}
use Rattle.std.proofs.Common.{◌<◌, map, take}
use Rattle.persist_model.specs.Shape.{bucket, heap}
use Rattle.region_layout.specs.Layout.{layout_shape}
use Rattle.log_tests.specs.Rows.{IsRow}
use Rattle.log_tests.proofs.log_checks.row_end.Given as goal

abbrev pub invariant-loop-number : goal.invariant-loop-number
invariant-loop-number g l = record {
  row : IsRow (layout_shape l.fn.layout) l.fn.p (slice_index (g.W.Look.words l.words)) (map (bucket (layout_shape l.fn.layout)) (take l.number-index l.chain)) l.end.link l.end.last;
  inside : l.end.link < heap (layout_shape l.fn.layout);
}
