use Rattle.persist_tree.specs.Changes.{stored_height}
use Rattle.persist_tree.proofs.search.+seek.Given as goal

abbrev pub decreases-seek : goal.decreases-seek
decreases-seek g l = stored_height (g.W.Reads.space l.words.now).word l.at
