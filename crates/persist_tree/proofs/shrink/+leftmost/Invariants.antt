use Rattle.persist_tree.specs.Changes.{stored_height}
use Rattle.persist_tree.proofs.shrink.+leftmost.Given as goal

abbrev pub decreases-leftmost : goal.decreases-leftmost
decreases-leftmost g l = stored_height (g.W.Reads.space l.words.now).word l.at
