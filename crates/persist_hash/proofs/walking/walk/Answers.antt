use Rattle.std.proofs.Common.{◌≡◌, ◌++◌, List, sym, ◌∙◌, ap, subst, arith}
use Rattle.lane_traits.specs.Space.{Space}
use Rattle.lane_traits.specs.declared.words.Pair.{Pair}
use Rattle.region_layout.specs.HashMap.{IsHash}
use Rattle.persist_hash.specs.Walk.{entries_of, node_pairs, nodes_up_to}
use Rattle.persist_hash.proofs.Walks.{no_chains, one_chain_more, walked_all}
use Rattle.persist_hash.proofs.walking.walk.Goals as goal

pub loop-chain-init : goal.loop-chain-init
loop-chain-init g c = record {
  same = λ i. g.W.Reads.space c.args.words.now;
  found = λ chains h. c.new-found.ensures.items ∙ sym (no_chains chains);
}

pub loop-chain-preserved : goal.loop-chain-preserved
loop-chain-preserved g c =
    let here = c.loop-chain.invariant.same in
    record {
      same = c.gather.ensures.same ∙ here;
      found = λ chains h.
          c.in_ok-gather.ensures.found chains (subst (λ (u : Space). IsHash u.land u.word c.args.root chains) (sym here) h)
          ∙ ap (λ (xs : List Pair). xs ++ node_pairs (chains c.loop-chain.chain)) (c.loop-chain.invariant.found chains h)
          ∙ sym (one_chain_more c.loop-chain.chain chains);
    }

pub returns-clause-pairs : goal.returns-clause-pairs
returns-clause-pairs g c = λ contents holds.
    let last : c.loop-chain.chain ≡ 64 = omega arith in
    ap entries_of c.from.ensures
    ∙ walked_all (g.W.Reads.space c.args.words.now) c.args.root contents holds c.loop-chain.found.items c.sort_pairs.new.found.items
    (c.loop-chain.invariant.found holds.chains holds.is ∙ ap (λ n. node_pairs (nodes_up_to n holds.chains)) last) c.sort_pairs.ensures.same c.in_ok-sort_pairs.ensures.sorted
