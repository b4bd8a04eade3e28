use Rattle.std.specs.Prelude.{slice_index, length}
use Rattle.std.proofs.Common.{map, refl}
use Rattle.persist_model.specs.Shape.{bucket}
use Rattle.region_layout.specs.Layout.{layout_shape}
use Rattle.log_tests.proofs.Rows.{log_of_rest}
use Rattle.log_tests.proofs.log_checks.log_at_rest.Goals as goal

pub returns : goal.returns
returns g c = log_of_rest c.in-Ok.layout c.part-part.result c.args.p (length (g.W.Look.words c.args.words.now)) (slice_index (g.W.Look.words c.args.words.now))
    (map (bucket (layout_shape c.in-Ok.layout)) c.args.chain.now) c.rules_are_cases.ensures c.in-Ok.ensures.ok c.in-Ok.ensures.shape c.if-p-layout.false
    c.part-part.ensures (c.if-not-is_at_rest.ensures refl)
