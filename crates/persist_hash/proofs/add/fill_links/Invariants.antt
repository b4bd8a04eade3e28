use Rattle.persist_hash.specs.Adding.{FillsLinks}
use Rattle.persist_hash.proofs.add.fill_links.Given as goal

abbrev pub invariant-loop-i : goal.invariant-loop-i
invariant-loop-i g l = FillsLinks l.directory l.place l.node l.i (g.W.Reads.space l.fn.words) (g.W.Reads.space l.words)
