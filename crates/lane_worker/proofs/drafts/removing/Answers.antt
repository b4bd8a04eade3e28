use Rattle.std.proofs.Common.{List, ℕ, [], ◌∙◌, ap}
use Rattle.std.proofs.lemmas.Result.{IfOk-weaker}
use Rattle.lane_traits.specs.Draft.{drafted}
use Rattle.region_layout.specs.FiniteMap.{without_key}
use Rattle.lane_worker.proofs.Fewer.{drafted_changes}
use Rattle.lane_worker.proofs.drafts.removing.Goals as goal

pub returns : goal.returns
returns g c = IfOk-weaker c.change_of.result _ _ (λ change of m h.
    drafted_changes c.args.place.kind c.args.place.structure c.args.place.root [] (g.R.Reads.space c.args.reads) _ _ (without_key c.args.key)
    (c.new-words.ensures.space ∙ ap (λ (xs : List ℕ). drafted c.args.place.structure [] [] xs (g.R.Reads.space c.args.reads)) c.new.ensures)
    c.in_ok-remove_of.ensures.contents c.in_ok-remove_of.ensures.fewer c.in_ok-remove_of.ensures.place c.in_ok-remove_of.ensures.once c.finish.result c.finish.ensures.change c.finish.ensures.spare change of m h) c.change_of.ensures
