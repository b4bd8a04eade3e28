use Rattle.std.proofs.Common.{length, ◌∙◌, ap, arith}
use Rattle.test_regions.proofs.Regions.{words_long}
use Rattle.test_regions.proofs.row.Row.changed.Goals as goal

pub invariant_of-result : goal.invariant_of-result
invariant_of-result c =
    let long = ap length c.in_ok-words.ensures ∙ words_long _ c.args.size in
    let below = c.ranges.size.fits in
    record { small = omega (arith, long, below) }

pub returns-clause-size : goal.returns-clause-size
returns-clause-size c = ap length c.in_ok-words.ensures ∙ words_long _ c.args.size
