use Rattle.std.proofs.Common.{◌≡◌, ◌≢◌, ◌⊎◌, ◌<◌, ◌+◌, ◌^◌, sym, ◌∙◌, ap, subst, arith}
use Rattle.lane_traits.specs.Space.{Space, IsOwn, IsDataWordOf}
use Rattle.persist_hash.specs.Chains.{nodes_left}
use Rattle.persist_hash.proofs.Searching.{data_word, sought_first, first_fits, sought_own, sought_next, next_fits, fewer_left, found_at}
use Rattle.persist_hash.proofs.search.seek.Goals as goal

pub link_at-node-requires-clause-fits : goal.link_at-node-requires-clause-fits
link_at-node-requires-clause-fits g c = first_fits (g.W.Reads.space c.args.words.now) c.args.first c.requires

pub loop-link-init : goal.loop-link-init
loop-link-init g c = record {
  same = c.link_at-node.ensures.same;
  sought = sought_first (g.W.Reads.space c.args.words.now) c.args.first c.args.key c.link_at-node.result c.requires c.link_at-node.ensures.value;
}

pub passes-requires : goal.passes-requires
passes-requires g c = λ some. subst (λ (u : Space). IsOwn u.land c.loop-link.node) (sym c.loop-link.invariant.same)
    (sought_own (g.W.Reads.space c.args.words.now) c.args.first c.args.key c.loop-link.link c.loop-link.node c.loop-link.invariant.sought some)

pub overflow_add-link : goal.overflow_add-link
overflow_add-link g c =
    let own = sought_own (g.W.Reads.space c.args.words.now) c.args.first c.args.key c.loop-link.link c.loop-link.node c.loop-link.invariant.sought
    (c.passes.ensures.on c.loop-link-test.true).0 in
    let f = own.0.fits in omega (arith, f)

pub link_at-node-requires-in-loop-link-clause-held : goal.link_at-node-requires-in-loop-link-clause-held
link_at-node-requires-in-loop-link-clause-held g c =
    let s = g.W.Reads.space c.args.words.now in
    let own = sought_own s c.args.first c.args.key c.loop-link.link c.loop-link.node c.loop-link.invariant.sought (c.passes.ensures.on c.loop-link-test.true).0 in
    subst (λ (u : Space). IsDataWordOf u.land (c.loop-link.node + 3)) (sym (c.passes.ensures.same ∙ c.loop-link.invariant.same))
    (data_word s.land c.loop-link.node 3 own (omega arith) (omega arith))

pub link_at-node-requires-in-loop-link-clause-fits : goal.link_at-node-requires-in-loop-link-clause-fits
link_at-node-requires-in-loop-link-clause-fits g c =
    let s = g.W.Reads.space c.args.words.now in
    subst (λ (u : Space). u.word (c.loop-link.node + 3) < 2 ^ 32) (sym (c.passes.ensures.same ∙ c.loop-link.invariant.same))
    (next_fits s c.args.first c.args.key c.loop-link.link c.loop-link.node c.loop-link.invariant.sought (c.passes.ensures.on c.loop-link-test.true).0)

pub loop-link-preserved : goal.loop-link-preserved
loop-link-preserved g c =
    let s = g.W.Reads.space c.args.words.now in
    let node = c.loop-link.node in
    let here = c.loop-link.invariant.same in
    let on = c.passes.ensures.on c.loop-link-test.true in
    record {
      same = c.link_at-node-in-loop-link.ensures.same ∙ c.passes.ensures.same ∙ here;
      sought = sought_next s c.args.first c.args.key c.loop-link.link node c.link_at-node-in-loop-link.result c.loop-link.invariant.sought on.0
          (λ e. on.1 (e ∙ ap (λ (u : Space). u.word (node + 1)) (sym here)))
          (c.link_at-node-in-loop-link.ensures.value ∙ ap (λ (u : Space). u.word (node + 3)) (c.passes.ensures.same ∙ here));
    }

pub loop-link-smaller : goal.loop-link-smaller
loop-link-smaller g c =
    let s = g.W.Reads.space c.args.words.now in
    let node = c.loop-link.node in
    let here = c.loop-link.invariant.same in
    let there = c.link_at-node-in-loop-link.ensures.same ∙ c.passes.ensures.same ∙ here in
    let value = c.link_at-node-in-loop-link.ensures.value ∙ ap (λ (u : Space). u.word (node + 3)) (c.passes.ensures.same ∙ here) in
    let fewer = fewer_left s c.args.first c.args.key c.loop-link.link node c.loop-link.invariant.sought (c.passes.ensures.on c.loop-link-test.true).0 in
    subst (λ x. x < nodes_left (g.W.Reads.space c.loop-link.words).word node)
    (sym (ap (λ (u : Space). nodes_left u.word c.link_at-node-in-loop-link.result) there ∙ ap (nodes_left s.word) value))
    (subst (λ x. nodes_left s.word (s.word (node + 3)) < x) (sym (ap (λ (u : Space). nodes_left u.word node) here)) fewer)

pub returns-clause-found : goal.returns-clause-found
returns-clause-found g c =
    let s = g.W.Reads.space c.args.words.now in
    found_at s c.args.first c.args.key c.loop-link.link c.loop-link.node c.loop-link.invariant.sought (subst (λ (u : Space). (c.loop-link.node ≡ 0) ⊎ ((c.loop-link.node ≢ 0) × (u.word (c.loop-link.node + 1) ≡ c.args.key))) c.loop-link.invariant.same (c.passes.ensures.stops c.loop-link-test.false))

pub returns-clause-same : goal.returns-clause-same
returns-clause-same g c = c.passes.ensures.same ∙ c.loop-link.invariant.same
