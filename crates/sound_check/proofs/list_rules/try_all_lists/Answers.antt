use Rattle.std.specs.Prelude.{slice_index}
use Rattle.std.proofs.Common.{arith}
use Rattle.std.proofs.lemmas.Result.{err_from_is_err_and}
use Rattle.persist_model.specs.Shape.{heap}
use Rattle.region_layout.specs.Layout.{layout_shape}
use Rattle.sound_check.specs.Rules.{HasGoodLinks, HasGoodList, HasBadList}
use Rattle.sound_check.proofs.PartsTried.{unsound_as, points_fault, in_view, of_view, view_long, one_more}
use Rattle.sound_check.proofs.list_rules.try_all_lists.Goals as goal

pub try_list_of-requires-clause-long : goal.try_list_of-requires-clause-long
try_list_of-requires-clause-long g c = view_long (heap (layout_shape c.args.layout)) c.loop-p.p (g.W.Look.words c.args.words.now) _ c.new-view.ensures c.requires.long

pub try_list_of-requires-clause-links : goal.try_list_of-requires-clause-links
try_list_of-requires-clause-links g c = of_view (HasGoodLinks (layout_shape c.args.layout) c.loop-p.p) c.loop-p.p (g.W.Look.words c.args.words.now) _ c.new-view.ensures (c.requires.links c.loop-p.p c.loop-p-test.true)

pub loop-p-preserved : goal.loop-p-preserved
loop-p-preserved g c = λ q lt. one_more (layout_shape c.args.layout) (slice_index (g.W.Look.words c.args.words.now)) HasGoodList c.loop-p.p q c.loop-p.invariant
    (in_view (HasGoodList (layout_shape c.args.layout) c.loop-p.p) c.loop-p.p (g.W.Look.words c.args.words.now) _ c.new-view.ensures c.in_ok-try_list_of.ensures.ok) lt

pub returns-in_err-try_list_of-clause-fault : goal.returns-in_err-try_list_of-clause-fault
returns-in_err-try_list_of-clause-fault g c =
    let p = err_from_is_err_and c.from_residual.result c.from_residual.ensures.1 in
    rw (p.1, p.2) (unsound_as c.in_err-try_list_of.field-0.0 _ _ (λ i a bad. points_fault (layout_shape c.args.layout) (slice_index (g.W.Look.words c.args.words.now)) c.loop-p.p c.loop-p-test.true c.requires.links c.loop-p.invariant i a
    (in_view (λ w. HasBadList (layout_shape c.args.layout) c.loop-p.p w i a) c.loop-p.p (g.W.Look.words c.args.words.now) _ c.new-view.ensures bad)) c.in_err-try_list_of.ensures.fault)

pub returns-clause-ok : goal.returns-clause-ok
returns-clause-ok g c = λ p lt. c.loop-p.invariant p (omega (arith, lt))
