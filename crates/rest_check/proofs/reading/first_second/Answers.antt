use Rattle.std.proofs.Common.{◌≡◌, sym, ◌∙◌, arith}
use Rattle.std.specs.Prelude.{slice_index}
use Rattle.region_layout.specs.Layout.{layout_shape}
use Rattle.recovery_run.specs.Reached.{HasFewBuckets}
use Rattle.rest_check.proofs.Asked.{below_more}
use Rattle.rest_check.proofs.Seconds.{few_where_none}
use Rattle.rest_check.proofs.reading.first_second.Goals as goal

pub loop-p-preserved : goal.loop-p-preserved
loop-p-preserved g c = below_more (λ p. HasFewBuckets (layout_shape c.args.layout) p (slice_index (g.W.Look.words c.args.words.now))) c.loop-p.p c.loop-p.invariant
    (few_where_none (layout_shape c.args.layout) (slice_index (g.W.Look.words c.args.words.now)) c.loop-p.p (λ chain h. c.second_bucket-second.ensures chain h ∙ c.if-second-ne0.false))

pub returns-clause-none : goal.returns-clause-none
returns-clause-none g c = λ p lt. (let past = c.loop-p-test.false in c.loop-p.invariant p (omega (arith, lt, past)))
