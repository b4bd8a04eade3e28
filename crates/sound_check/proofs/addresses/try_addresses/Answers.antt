use Rattle.std.specs.Prelude.{slice_index}
use Rattle.std.proofs.Common.{arith}
use Rattle.std.proofs.lemmas.Result.{err_from_is_err_and, on_ok_weaker, MatchResult-weaker}
use Rattle.persist_model.specs.ImageRules.{rule_number}
use Rattle.persist_model.specs.Shape.{IsBucketOf}
use Rattle.persist_model.specs.Chain.{IsLink, out_address}
use Rattle.region_layout.specs.Layout.{layout_shape}
use Rattle.sound_check.proofs.Buckets.{heap_small}
use Rattle.sound_check.proofs.Tried.{first_fails, second_fails, third_left, third_fails}
use Rattle.sound_check.proofs.addresses.try_addresses.Goals as goal

pub try_links-requires-clause-inside : goal.try_links-requires-clause-inside
try_links-requires-clause-inside g c =
    let small = heap_small c.args.layout in
    let long = c.requires.long in
    (omega (arith, small, long), (omega (arith, small, long), (omega (arith, small, long), (omega (arith, small, long), (omega (arith, small, long), tt)))))

pub returns-in_err-try_links-clause-fault : goal.returns-in_err-try_links-clause-fault
returns-in_err-try_links-clause-fault g c =
    let p = err_from_is_err_and c.from_residual.result c.from_residual.ensures.1 in
    rw (p.1, p.2) (first_fails (λ a. IsLink (IsBucketOf (layout_shape c.args.layout) c.args.p) ((slice_index (g.W.Look.words c.args.words.now)) a)) (slice_index (g.W.Look.words c.args.words.now)) c.args.visited.now 5 (out_address c.args.p) _ _ c.in_err-try_links.ensures.fault)

pub returns-in_err-try_visited-clause-fault : goal.returns-in_err-try_visited-clause-fault
returns-in_err-try_visited-clause-fault g c =
    let p = err_from_is_err_and c.from_residual-in_err-try_visited.result c.from_residual-in_err-try_visited.ensures.1 in
    rw (p.1, p.2) (second_fails (λ a. IsLink (IsBucketOf (layout_shape c.args.layout) c.args.p) ((slice_index (g.W.Look.words c.args.words.now)) a)) (slice_index (g.W.Look.words c.args.words.now)) c.args.visited.now 5 (out_address c.args.p) c.in_ok-try_links.ensures.ok _ _ c.in_err-try_visited.ensures.fault)

pub returns-in_err-try_named-clause-fault : goal.returns-in_err-try_named-clause-fault
returns-in_err-try_named-clause-fault g c =
    let p = err_from_is_err_and c.from_residual-in_err-try_named.result c.from_residual-in_err-try_named.ensures.1 in
    rw (p.1, p.2) (third_fails (λ a. IsLink (IsBucketOf (layout_shape c.args.layout) c.args.p) ((slice_index (g.W.Look.words c.args.words.now)) a)) (slice_index (g.W.Look.words c.args.words.now)) c.args.visited.now 5 (out_address c.args.p) c.in_ok-try_links.ensures.ok c.in_ok-try_visited.ensures.ok _ _ c.in_err-try_named.ensures.fault)

pub returns-clause-ok : goal.returns-clause-ok
returns-clause-ok g c = on_ok_weaker c.try_named-2.result (third_left (λ a. IsLink (IsBucketOf (layout_shape c.args.layout) c.args.p) ((slice_index (g.W.Look.words c.args.words.now)) a)) (slice_index (g.W.Look.words c.args.words.now)) c.args.visited.now 5 (out_address c.args.p) c.in_ok-try_links.ensures.ok c.in_ok-try_visited.ensures.ok c.in_ok-try_named.ensures.ok).holds c.try_named-2.ensures.ok

pub returns-clause-fault : goal.returns-clause-fault
returns-clause-fault g c = MatchResult-weaker c.try_named-2.result c.try_named-2.ensures.fault (λ x h. h)
    (λ found f. (third_left (λ a. IsLink (IsBucketOf (layout_shape c.args.layout) c.args.p) ((slice_index (g.W.Look.words c.args.words.now)) a)) (slice_index (g.W.Look.words c.args.words.now)) c.args.visited.now 5 (out_address c.args.p) c.in_ok-try_links.ensures.ok c.in_ok-try_visited.ensures.ok c.in_ok-try_named.ensures.ok).fails (rule_number found.rule) found.address f)
