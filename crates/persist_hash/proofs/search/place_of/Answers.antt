use Rattle.std.proofs.Common.{◌+◌, ◌%◌, sym, ◌∙◌, subst, arith, refl}
use Rattle.lane_traits.specs.Space.{Space}
use Rattle.region_layout.specs.HashMap.{directory_of, chain_word}
use Rattle.persist_hash.specs.Chains.{HasChain, IsFound}
use Rattle.persist_hash.proofs.Places.{directory_held, directory_fits, directory_own, begins, place_none, place_found}
use Rattle.persist_hash.proofs.search.place_of.Goals as goal

pub link_at-directory-requires-clause-held : goal.link_at-directory-requires-clause-held
link_at-directory-requires-clause-held g c =
    directory_held (g.W.Reads.space c.args.words.now).land c.args.root c.chain_of-chain.result c.requires.is.root_own c.chain_of-chain.ensures.below

pub link_at-directory-requires-clause-fits : goal.link_at-directory-requires-clause-fits
link_at-directory-requires-clause-fits g c =
    let s = g.W.Reads.space c.args.words.now in
    directory_fits s.land s.word c.args.root c.requires.chains c.chain_of-chain.result c.requires.is c.chain_of-chain.ensures.below

pub returns-then-directory-eq0-clause-place : goal.returns-then-directory-eq0-clause-place
returns-then-directory-eq0-clause-place g c = λ chains h.
    place_none (g.W.Reads.space c.args.words.now) c.args.root c.args.key chains c.chain_of-chain.result c.link_at-directory.result c.chain_of-chain.ensures.chain h
    c.link_at-directory.ensures.value c.if-directory-eq0.true

pub overflow_add-directory : goal.overflow_add-directory
overflow_add-directory g c =
    let s = g.W.Reads.space c.args.words.now in
    let e = c.link_at-directory.ensures.value in
    let f = (directory_own s.land s.word c.args.root c.requires.chains c.chain_of-chain.result c.requires.is c.chain_of-chain.ensures.below
    (λ z. c.if-directory-eq0.false (e ∙ z))).0.fits in
    omega (arith, e, f)

pub overflow_add-directory-2 : goal.overflow_add-directory-2
overflow_add-directory-2 g c =
    let s = g.W.Reads.space c.args.words.now in
    let e = c.link_at-directory.ensures.value in
    let f = (directory_own s.land s.word c.args.root c.requires.chains c.chain_of-chain.result c.requires.is c.chain_of-chain.ensures.below
    (λ z. c.if-directory-eq0.false (e ∙ z))).0.fits in
    omega (arith, e, f)

pub seek-found-requires : goal.seek-found-requires
seek-found-requires g c =
    let s = g.W.Reads.space c.args.words.now in
    let e = c.link_at-directory.ensures.value in
    let begin = begins s c.args.root c.requires.chains c.chain_of-chain.result c.requires.is c.chain_of-chain.ensures.below (λ z. c.if-directory-eq0.false (e ∙ z)) in
    let chain : HasChain s (chain_word (directory_of s.word c.args.root c.chain_of-chain.result) c.chain_of-chain.result) =
    record { nodes = c.requires.chains c.chain_of-chain.result; begins = begin } in
    subst (λ (u : Space). HasChain u (c.link_at-directory.result + 1 + c.chain_of-chain.result % 8)) (sym c.link_at-directory.ensures.same)
    (subst (λ x. HasChain s (x + 1 + c.chain_of-chain.result % 8)) (sym e) chain)

pub returns-clause-place : goal.returns-clause-place
returns-clause-place g c = λ chains h.
    let s = g.W.Reads.space c.args.words.now in
    place_found s c.args.root c.args.key chains c.chain_of-chain.result c.link_at-directory.result
    (c.link_at-directory.result + 1 + c.chain_of-chain.result % 8) c.seek-found.result.link c.seek-found.result.node c.chain_of-chain.ensures.chain h
    c.link_at-directory.ensures.value c.if-directory-eq0.false refl
    (subst (λ (u : Space). IsFound u (c.link_at-directory.result + 1 + c.chain_of-chain.result % 8) c.args.key c.seek-found.result.link c.seek-found.result.node)
    c.link_at-directory.ensures.same c.seek-found.ensures.found)
