use Rattle.std.proofs.lemmas.Result.{IfOk-weaker}
use Rattle.region_layout.specs.FiniteMap.{with_pair}
use Rattle.lane_worker.proofs.Fewer.{drafted_changes}
use Rattle.lane_worker.proofs.drafts.putting.Goals as goal

pub returns : goal.returns
returns g c = IfOk-weaker c.change_of.result _ _ (λ change of m h.
    drafted_changes c.args.place.kind c.args.place.structure c.args.place.root c.args.spare (g.R.Reads.space c.args.reads) _ _ (with_pair c.args.key c.args.value)
    c.new-words.ensures.space c.in_ok-put_of.ensures.contents c.in_ok-put_of.ensures.fewer c.in_ok-put_of.ensures.place c.in_ok-put_of.ensures.once c.finish.result c.finish.ensures.change c.finish.ensures.spare change of m h) c.change_of.ensures
