use Rattle.persist_tree.specs.Changes.{stored_height}
use Rattle.persist_tree.proofs.shrink.+shrink.Given as goal

abbrev pub decreases-shrink : goal.decreases-shrink
decreases-shrink g l = stored_height (g.W.Reads.space l.words.now).word l.at
