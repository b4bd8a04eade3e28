use Rattle.persist_tree.specs.Changes.{stored_height}
use Rattle.persist_tree.proofs.collect.+collect.Given as goal

abbrev pub decreases-collect : goal.decreases-collect
decreases-collect g l = stored_height (g.W.Reads.space l.words.now).word l.at
