use Rattle.std.specs.Prelude.{slice_index, length}
use Rattle.std.proofs.Common.{◌≡◌, arith, subst}
use Rattle.region_layout.specs.Layout.{layout_shape}
use Rattle.log_partition.specs.Used.{chains_in}
use Rattle.log_partition.proofs.Known.{IsReadTo, chain_viewed, reading_goes_on, reading_ends}
use Rattle.log_partition.proofs.Merged.{log_of_view}
use Rattle.log_partition.proofs.used.UsedBuckets.read.Goals as goal

pub mark_chain-requires-clause-log : goal.mark_chain-requires-clause-log
mark_chain-requires-clause-log g c = log_of_view c.args.layout c.loop-p.p (g.W.Look.words c.args.words.now) _ c.loop-p-test.true c.requires.logs c.new-view.ensures

pub loop-p-preserved : goal.loop-p-preserved
loop-p-preserved g c = reading_goes_on (layout_shape c.args.layout) (chains_in (layout_shape c.args.layout) (slice_index (g.W.Look.words c.args.words.now))) c.loop-p.p c.part.result.first
    c.loop-p.self.used.items c.mark_chain.new.marks.items c.loop-p.self.from.items c.loop-p-test.true c.part.ensures.0
    (chain_viewed (layout_shape c.args.layout) c.loop-p.p (g.W.Look.words c.args.words.now) _ c.loop-p.self.used.items c.mark_chain.new.marks.items c.new-view.ensures c.mark_chain.ensures)
    c.loop-p.invariant

pub returns : goal.returns
returns g c =
    let all : c.loop-p.p ≡ c.args.layout.partitions = omega arith in
    reading_ends c.args.layout (length (g.W.Look.words c.args.words.now)) (slice_index (g.W.Look.words c.args.words.now)) c.loop-p.self c.requires.logs
    (subst (λ n. IsReadTo (layout_shape c.args.layout) (chains_in (layout_shape c.args.layout) (slice_index (g.W.Look.words c.args.words.now))) n c.loop-p.self.used.items c.loop-p.self.from.items) all
    c.loop-p.invariant)
