use Rattle.std.proofs.Common.{arith}
use Rattle.std.proofs.lemmas.Result.{err_from_is_err_and, on_ok_weaker, MatchResult-weaker}
use Rattle.persist_model.specs.Faults.{IsListFault}
use Rattle.region_layout.specs.Layout.{layout_shape}
use Rattle.sound_check.specs.Rules.{HasGoodList, EachPart}
use Rattle.sound_check.proofs.PartsTried.{unsound_as, before_long, before_heap}
use Rattle.sound_check.proofs.list_rules.try_lists.Goals as goal

pub new-log-requires : goal.new-log-requires
new-log-requires g c = let e = c.requires in omega (arith, e)

pub try_all_links-requires : goal.try_all_links-requires
try_all_links-requires g c = let e = c.requires in before_long (layout_shape c.args.layout) (g.W.Look.words c.args.words.now) _ c.new-log.ensures (omega (arith, e))

pub try_all_lists-requires-clause-long : goal.try_all_lists-requires-clause-long
try_all_lists-requires-clause-long g c = let e = c.requires in before_long (layout_shape c.args.layout) (g.W.Look.words c.args.words.now) _ c.new-log.ensures (omega (arith, e))

pub returns-in_err-try_all_links-clause-fault : goal.returns-in_err-try_all_links-clause-fault
returns-in_err-try_all_links-clause-fault g c =
    let p = err_from_is_err_and c.from_residual.result c.from_residual.ensures.1 in
    rw (p.1, p.2) (unsound_as c.in_err-try_all_links.field-0.0 _ _ (λ i a f. before_heap (λ w. IsListFault (layout_shape c.args.layout) w i a) (layout_shape c.args.layout) (g.W.Look.words c.args.words.now) _ c.new-log.ensures f) c.in_err-try_all_links.ensures.fault)

pub returns-clause-ok : goal.returns-clause-ok
returns-clause-ok g c = on_ok_weaker c.try_all_lists.result (before_heap (λ w. EachPart (layout_shape c.args.layout) w HasGoodList) (layout_shape c.args.layout) (g.W.Look.words c.args.words.now) _ c.new-log.ensures) c.try_all_lists.ensures.ok

pub returns-clause-fault : goal.returns-clause-fault
returns-clause-fault g c = MatchResult-weaker c.try_all_lists.result c.try_all_lists.ensures.fault (λ x h. h)
    (λ e h. unsound_as e _ _ (λ i a f. before_heap (λ w. IsListFault (layout_shape c.args.layout) w i a) (layout_shape c.args.layout) (g.W.Look.words c.args.words.now) _ c.new-log.ensures f) h)
