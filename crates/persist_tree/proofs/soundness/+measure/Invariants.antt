use Rattle.persist_tree.proofs.soundness.+measure.Given as goal

abbrev pub decreases-measure : goal.decreases-measure
decreases-measure g l = l.depth
