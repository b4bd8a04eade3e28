use Rattle.std.proofs.Common.{◌<◌, ◌+◌, ◌^◌, sym, ◌∙◌, ap, subst, arith}
use Rattle.lane_traits.specs.Space.{Space, IsOwn, IsDataWordOf}
use Rattle.persist_hash.specs.Chains.{nodes_left}
use Rattle.persist_hash.proofs.Searching.{data_word}
use Rattle.persist_hash.proofs.Gathering.{walked_first, walked_own, walked_fits, walked_next, walked_fewer, walked_end}
use Rattle.persist_hash.proofs.walking.gather.Goals as goal

pub loop-node-init : goal.loop-node-init
loop-node-init g c = record {
  same = c.first_node-node.ensures.same;
  walked = walked_first (g.W.Reads.space c.args.words.now) c.args.root c.args.chain c.first_node-node.result c.args.found.now.items c.requires.hash c.requires.chain c.first_node-node.ensures.value;
}

pub pair_at-pair-requires : goal.pair_at-pair-requires
pair_at-pair-requires g c =
    let s = g.W.Reads.space c.args.words.now in
    subst (λ (u : Space). IsOwn u.land c.loop-node.node) (sym c.loop-node.invariant.same)
    (walked_own s _ c.loop-node.node _ _ c.loop-node.invariant.walked c.loop-node-test.true)

pub overflow_add-node : goal.overflow_add-node
overflow_add-node g c =
    let s = g.W.Reads.space c.args.words.now in
    let f = (walked_own s _ c.loop-node.node _ _ c.loop-node.invariant.walked c.loop-node-test.true).0.fits in
    omega (arith, f)

pub link_at-node-requires-clause-held : goal.link_at-node-requires-clause-held
link_at-node-requires-clause-held g c =
    let s = g.W.Reads.space c.args.words.now in
    subst (λ (u : Space). IsDataWordOf u.land (c.loop-node.node + 3)) (sym (c.pair_at-pair.ensures.same ∙ c.loop-node.invariant.same))
    (data_word s.land c.loop-node.node 3 (walked_own s _ c.loop-node.node _ _ c.loop-node.invariant.walked c.loop-node-test.true) (omega arith) (omega arith))

pub link_at-node-requires-clause-fits : goal.link_at-node-requires-clause-fits
link_at-node-requires-clause-fits g c =
    let s = g.W.Reads.space c.args.words.now in
    subst (λ (u : Space). u.word (c.loop-node.node + 3) < 2 ^ 32) (sym (c.pair_at-pair.ensures.same ∙ c.loop-node.invariant.same))
    (walked_fits s _ c.loop-node.node _ _ c.loop-node.invariant.walked c.loop-node-test.true)

pub loop-node-preserved : goal.loop-node-preserved
loop-node-preserved g c =
    let s = g.W.Reads.space c.args.words.now in
    let node = c.loop-node.node in
    let here = c.loop-node.invariant.same in
    record {
      same = c.link_at-node.ensures.same ∙ c.pair_at-pair.ensures.same ∙ here;
      walked = walked_next s _ node c.link_at-node.result _ _ _ c.pair_at-pair.result c.loop-node.invariant.walked c.loop-node-test.true
          (c.pair_at-pair.ensures.key ∙ ap (λ (u : Space). u.word (node + 1)) here)
          (c.pair_at-pair.ensures.value ∙ ap (λ (u : Space). u.word (node + 2)) here)
          (c.link_at-node.ensures.value ∙ ap (λ (u : Space). u.word (node + 3)) (c.pair_at-pair.ensures.same ∙ here))
          c.in_ok-push.ensures.items;
    }

pub loop-node-smaller : goal.loop-node-smaller
loop-node-smaller g c =
    let s = g.W.Reads.space c.args.words.now in
    let node = c.loop-node.node in
    let here = c.loop-node.invariant.same in
    let there = c.link_at-node.ensures.same ∙ c.pair_at-pair.ensures.same ∙ here in
    let value = c.link_at-node.ensures.value ∙ ap (λ (u : Space). u.word (node + 3)) (c.pair_at-pair.ensures.same ∙ here) in
    let fewer = walked_fewer s _ node _ _ c.loop-node.invariant.walked c.loop-node-test.true in
    subst (λ x. x < nodes_left (g.W.Reads.space c.loop-node.words).word node)
    (sym (ap (λ (u : Space). nodes_left u.word c.link_at-node.result) there ∙ ap (nodes_left s.word) value))
    (subst (λ x. nodes_left s.word (s.word (node + 3)) < x) (sym (ap (λ (u : Space). nodes_left u.word node) here)) fewer)

pub returns-clause-found : goal.returns-clause-found
returns-clause-found g c = λ chains h.
    walked_end (g.W.Reads.space c.args.words.now) c.args.root c.args.chain c.loop-node.node _ _ c.loop-node.invariant.walked c.loop-node-test.false chains h c.requires.chain
