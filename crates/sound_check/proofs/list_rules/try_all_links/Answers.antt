use Rattle.std.specs.Prelude.{slice_index}
use Rattle.std.proofs.Common.{arith}
use Rattle.std.proofs.lemmas.Result.{err_from_is_err_and}
use Rattle.persist_model.specs.Shape.{heap}
use Rattle.region_layout.specs.Layout.{layout_shape}
use Rattle.sound_check.specs.Rules.{HasGoodLinks, HasBadLink}
use Rattle.sound_check.proofs.PartsTried.{unsound_as, link_fault, in_view, view_long, one_more}
use Rattle.sound_check.proofs.list_rules.try_all_links.Goals as goal

pub try_links_of-requires-clause-long : goal.try_links_of-requires-clause-long
try_links_of-requires-clause-long g c = view_long (heap (layout_shape c.args.layout)) c.loop-p.p (g.W.Look.words c.args.words.now) _ c.new-view.ensures c.requires

pub loop-p-preserved : goal.loop-p-preserved
loop-p-preserved g c = λ q lt. one_more (layout_shape c.args.layout) (slice_index (g.W.Look.words c.args.words.now)) HasGoodLinks c.loop-p.p q c.loop-p.invariant
    (in_view (HasGoodLinks (layout_shape c.args.layout) c.loop-p.p) c.loop-p.p (g.W.Look.words c.args.words.now) _ c.new-view.ensures c.in_ok-try_links_of.ensures.ok) lt

pub returns-in_err-try_links_of-clause-fault : goal.returns-in_err-try_links_of-clause-fault
returns-in_err-try_links_of-clause-fault g c =
    let p = err_from_is_err_and c.from_residual.result c.from_residual.ensures.1 in
    rw (p.1, p.2) (unsound_as c.in_err-try_links_of.field-0.0 _ _ (λ i a bad. link_fault (layout_shape c.args.layout) (slice_index (g.W.Look.words c.args.words.now)) c.loop-p.p c.loop-p-test.true c.loop-p.invariant i a
    (in_view (λ w. HasBadLink (layout_shape c.args.layout) c.loop-p.p w i a) c.loop-p.p (g.W.Look.words c.args.words.now) _ c.new-view.ensures bad)) c.in_err-try_links_of.ensures.fault)

pub returns-clause-ok : goal.returns-clause-ok
returns-clause-ok g c = λ p lt. c.loop-p.invariant p (omega (arith, lt))
