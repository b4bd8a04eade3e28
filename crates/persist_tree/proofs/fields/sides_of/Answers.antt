use Rattle.std.proofs.Common.{◌+◌, ◌∙◌, ap, arith}
use Rattle.lane_traits.specs.Space.{Space}
use Rattle.persist_tree.proofs.Turning.{top_fits}
use Rattle.persist_tree.proofs.fields.sides_of.Goals as goal

pub overflow_cast-result-2 : goal.overflow_cast-result-2
overflow_cast-result-2 g c =
    let is = c.field-right.ensures.value ∙ ap (λ (y : Space). y.word (c.args.at + 4)) c.field-left.ensures.same ∙ c.requires.stands.laid.0.right_is in
    let low = top_fits (g.W.Reads.space c.args.words.now).land c.requires.r c.requires.stands.own.2 in
    omega (arith, is, low)
