use Rattle.persist_tree.specs.Changes.{stored_height}
use Rattle.persist_tree.proofs.shrink.+drop_leftmost.Given as goal

abbrev pub decreases-drop_leftmost : goal.decreases-drop_leftmost
decreases-drop_leftmost g l = stored_height (g.W.Reads.space l.words.now).word l.at
