use Rattle.std.specs.Prelude.{slice_index, length}
use Rattle.std.proofs.Common.{arith}
use Rattle.std.proofs.lemmas.Result.{err_from_is_err_and}
use Rattle.persist_model.specs.Shape.{IsBucketOf}
use Rattle.persist_model.specs.Chain.{IsLink, out_address}
use Rattle.persist_model.specs.Visit.{links_of}
use Rattle.region_layout.specs.Layout.{layout_shape}
use Rattle.sound_check.specs.Rules.{IsReadable}
use Rattle.sound_check.proofs.Left.{left_all}
use Rattle.sound_check.proofs.BucketLists.{each_at}
use Rattle.sound_check.proofs.Buckets.{buckets_readable}
use Rattle.sound_check.proofs.Tried.{visited_next, visited_fails, visited_done}
use Rattle.sound_check.proofs.addresses.try_visited.Goals as goal

pub loop-b-init : goal.loop-b-init
loop-b-init g c = left_all (λ a. IsLink (IsBucketOf (layout_shape c.args.layout) c.args.p) ((slice_index (g.W.Look.words c.args.words.now)) a)) 5 (out_address c.args.p) (links_of c.args.visited.now)

pub try_links-requires-clause-inside : goal.try_links-requires-clause-inside
try_links-requires-clause-inside g c =
    let r = each_at (IsReadable (length (g.W.Look.words c.args.words.now))) c.args.visited.now c.loop-b.b-index (omega arith) (buckets_readable c.args.layout c.args.p (length (g.W.Look.words c.args.words.now)) c.args.visited.now c.requires.part c.requires.long c.requires.buckets) in
    (omega (arith, r), (r.0, tt))

pub loop-b-preserved : goal.loop-b-preserved
loop-b-preserved g c = visited_next (λ a. IsLink (IsBucketOf (layout_shape c.args.layout) c.args.p) ((slice_index (g.W.Look.words c.args.words.now)) a)) 5 (out_address c.args.p) c.args.visited.now c.loop-b.b-index (omega arith) c.loop-b.invariant c.in_ok-try_links.ensures.ok

pub returns-in_err-try_links-clause-fault : goal.returns-in_err-try_links-clause-fault
returns-in_err-try_links-clause-fault g c =
    let p = err_from_is_err_and c.from_residual.result c.from_residual.ensures.1 in
    rw (p.1, p.2) (visited_fails (λ a. IsLink (IsBucketOf (layout_shape c.args.layout) c.args.p) ((slice_index (g.W.Look.words c.args.words.now)) a)) 5 (out_address c.args.p) c.args.visited.now c.loop-b.b-index (omega arith) c.loop-b.invariant _ _ c.in_err-try_links.ensures.fault)

pub returns-clause-ok : goal.returns-clause-ok
returns-clause-ok g c = visited_done (λ a. IsLink (IsBucketOf (layout_shape c.args.layout) c.args.p) ((slice_index (g.W.Look.words c.args.words.now)) a)) 5 (out_address c.args.p) c.args.visited.now c.loop-b.b-index (omega arith) c.loop-b.invariant
