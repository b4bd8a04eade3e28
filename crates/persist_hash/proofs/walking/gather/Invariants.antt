use Rattle.std.proofs.Common.{◌≡◌}
use Rattle.region_layout.specs.HashMap.{first_link}
use Rattle.persist_hash.specs.Chains.{nodes_left}
use Rattle.persist_hash.specs.Walk.{IsWalked}
use Rattle.persist_hash.proofs.walking.gather.Given as goal

abbrev pub invariant-loop-node : goal.invariant-loop-node
invariant-loop-node g l = record {
  same : g.W.Reads.space l.words ≡ g.W.Reads.space l.fn.words;
  walked : IsWalked (g.W.Reads.space l.fn.words) (first_link (g.W.Reads.space l.fn.words).word l.root l.chain) l.node l.fn.found.items l.found.items;
}

abbrev pub decreases-loop-node : goal.decreases-loop-node
decreases-loop-node g l = nodes_left (g.W.Reads.space l.words).word l.node
