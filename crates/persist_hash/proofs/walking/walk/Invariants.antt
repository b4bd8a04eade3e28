use Rattle.std.proofs.Common.{◌≡◌}
use Rattle.region_layout.specs.HashMap.{Chains, IsHash}
use Rattle.persist_hash.specs.Walk.{node_pairs, nodes_up_to}
use Rattle.persist_hash.proofs.walking.walk.Given as goal

abbrev pub invariant-loop-chain : goal.invariant-loop-chain
invariant-loop-chain g l = record {
  same : g.W.Reads.space l.words ≡ g.W.Reads.space l.fn.words;
  found : (chains : Chains) → IsHash (g.W.Reads.space l.fn.words).land (g.W.Reads.space l.fn.words).word l.root chains → l.found.items ≡ node_pairs (nodes_up_to l.chain chains);
}
