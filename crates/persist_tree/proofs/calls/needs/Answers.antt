use Rattle.persist_tree.proofs.Whole.{needed_none, needed_some}
use Rattle.persist_tree.proofs.calls.needs.Goals as goal

pub returns-then-place-eq0-clause-count : goal.returns-then-place-eq0-clause-count
returns-then-place-eq0-clause-count g c = needed_none (g.W.Reads.space c.args.words.now) c.args.root c.args.key c.locate-place.result.at c.locate-place.ensures.at c.if-place-eq0.true

pub returns-else-place-eq0-clause-count : goal.returns-else-place-eq0-clause-count
returns-else-place-eq0-clause-count g c = needed_some (g.W.Reads.space c.args.words.now) c.args.root c.args.key c.locate-place.result.at c.locate-place.ensures.at c.if-place-eq0.false
