use Rattle.std.proofs.Common.{◌≡◌}
use Rattle.persist_hash.specs.Chains.{IsSought, nodes_left}
use Rattle.persist_hash.proofs.search.seek.Given as goal

abbrev pub invariant-loop-link : goal.invariant-loop-link
invariant-loop-link g l = record {
  same : g.W.Reads.space l.words ≡ g.W.Reads.space l.fn.words;
  sought : IsSought (g.W.Reads.space l.fn.words) l.first l.key l.link l.node;
}

abbrev pub decreases-loop-link : goal.decreases-loop-link
decreases-loop-link g l = nodes_left (g.W.Reads.space l.words).word l.node
