use Rattle.std.proofs.Common.{◌≡◌, ◌++◌, map, reverse, ap, ◌∙◌, subst, arith}
use Rattle.persist_model.specs.Shape.{log_words}
use Rattle.region_layout.specs.Layout.{layout_shape}
use Rattle.bucket_log.specs.Scans.{record_of_placed}
use Rattle.log_partition.proofs.Merged.{IsGathered, log_of_view, gathered_more, merged_is_log}
use Rattle.log_partition.proofs.gathering.merge.Goals as goal

pub scan-requires : goal.scan-requires
scan-requires g c = log_of_view c.args.layout c.loop-p.p (g.W.Look.words c.args.words.now) _ c.loop-p-test.true c.requires c.new-view.ensures

pub loop-p-preserved : goal.loop-p-preserved
loop-p-preserved g c = λ v s same has. gathered_more c.args.layout (g.W.Look.words c.args.words.now) _ v s c.loop-p.p c.loop-p.found.items c.in_ok-part.part c.extend_from_slice.new.self.items
    c.loop-p-test.true c.requires c.new-view.ensures same has c.in_ok-part.ensures (c.loop-p.invariant v s same has)
    (c.in_ok-extend_from_slice.ensures.items ∙ ap (λ ys. c.loop-p.found.items ++ ys) c.as_slice.ensures)

pub returns : goal.returns
returns g c = λ w s same has.
    let all : c.loop-p.p ≡ c.args.layout.partitions = omega arith in
    ap (λ xs. reverse (map record_of_placed xs)) c.from_vec.ensures
    ∙ merged_is_log (layout_shape c.args.layout) w s has c.loop-p.found.items c.in_ok-sorted.sorted.items
    (subst (λ n. IsGathered (layout_shape c.args.layout) (log_words (layout_shape c.args.layout) w) has.chains n c.loop-p.found.items) all (c.loop-p.invariant w s same has))
    c.in_ok-sorted.ensures
