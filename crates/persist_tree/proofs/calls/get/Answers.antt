use Rattle.std.proofs.Common.{◌+◌, ◌∙◌, ap}
use Rattle.lane_traits.specs.Space.{Space}
use Rattle.std.proofs.Common.{Some}
use Rattle.persist_tree.proofs.Descending.{own_same}
use Rattle.persist_tree.proofs.Whole.{value_none, value_some, located_own}
use Rattle.persist_tree.proofs.calls.get.Goals as goal

pub returns-then-place-eq0-clause-value : goal.returns-then-place-eq0-clause-value
returns-then-place-eq0-clause-value g c = value_none (g.W.Reads.space c.args.words.now) c.args.root c.args.key c.locate-place.result.at c.locate-place.ensures.at c.if-place-eq0.true

pub field-requires-clause-own : goal.field-requires-clause-own
field-requires-clause-own g c = own_same (g.W.Reads.space c.args.words.now) (g.W.Reads.space c.locate-place.new.words) c.locate-place.result.at c.locate-place.ensures.same (located_own (g.W.Reads.space c.args.words.now) c.args.root c.args.key c.locate-place.result.at c.locate-place.ensures.at c.if-place-eq0.false c.requires)

pub returns-clause-value : goal.returns-clause-value
returns-clause-value g c m h = ap Some (c.field.ensures.value ∙ ap (λ (y : Space). y.word (c.locate-place.result.at + 2)) c.locate-place.ensures.same) ∙ value_some (g.W.Reads.space c.args.words.now) c.args.root c.args.key c.locate-place.result.at c.locate-place.ensures.at c.if-place-eq0.false m h
