use Rattle.std.specs.Prelude.{slice_index}
use Rattle.std.proofs.Common.{◌+◌, map, take, get_or, refl, sym, subst, arith}
use Rattle.persist_model.specs.Shape.{bucket}
use Rattle.region_layout.specs.Layout.{layout_shape}
use Rattle.log_tests.specs.Rows.{IsRow}
use Rattle.log_tests.proofs.Rows.{row_of_more, bucket_of, bucket_fits, number_below}
use Rattle.log_tests.proofs.log_checks.row_end.Goals as goal

pub loop-number-preserved : goal.loop-number-preserved
loop-number-preserved g c =
    let shape = layout_shape c.args.layout in
    let w = slice_index (g.W.Look.words c.args.words.now) in
    let i = c.loop-number.number-index in
    let number = get_or c.args.chain.now c.loop-number.number-index 0 in
    let low = c.if-number-part.false in
    let high = c.if-number-part-2.false in
    let is = c.bucket-bucket.ensures in
    let next = c.if-not-is_next.ensures refl in
    let own = bucket_of shape c.args.p c.args.part number c.requires.part low (omega (arith, low, high)) in
    let fits = bucket_fits shape number (number_below shape c.args.p c.args.part number c.requires.below c.requires.part (omega (arith, low, high))) in
    record {
      row = subst (λ b. IsRow shape c.args.p w (map (bucket shape) (take (i + 1) c.args.chain.now)) b b) (sym is)
          (row_of_more shape c.args.p w c.args.chain.now i c.loop-number.end.link c.loop-number.end.last c.loop-number-test.true c.loop-number.invariant.row own next.0 next.1 next.2);
      inside = omega (arith, fits, is);
    }
