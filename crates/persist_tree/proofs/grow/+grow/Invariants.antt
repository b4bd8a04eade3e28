use Rattle.persist_tree.specs.Changes.{stored_height}
use Rattle.persist_tree.proofs.grow.+grow.Given as goal

abbrev pub decreases-grow : goal.decreases-grow
decreases-grow g l = stored_height (g.W.Reads.space l.words.now).word l.at
