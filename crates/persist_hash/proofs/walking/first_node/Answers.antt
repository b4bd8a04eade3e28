use Rattle.std.proofs.Common.{◌≢◌, ◌<◌, ◌+◌, ◌^◌, ◌%◌, sym, ◌∙◌, ap, subst, arith}
use Rattle.lane_traits.specs.Space.{Space, IsOwn, IsDataWordOf}
use Rattle.region_layout.specs.HashMap.{directory_of, first_link}
use Rattle.persist_hash.proofs.Searching.{chain_fits}
use Rattle.persist_hash.proofs.Places.{directory_held, directory_fits, directory_own, slot_held, first_is, none_is, own_chain}
use Rattle.persist_hash.proofs.walking.first_node.Goals as goal

pub link_at-directory-requires-clause-held : goal.link_at-directory-requires-clause-held
link_at-directory-requires-clause-held g c =
    directory_held (g.W.Reads.space c.args.words.now).land c.args.root c.args.chain c.requires.hash.is.root_own c.requires.chain

pub link_at-directory-requires-clause-fits : goal.link_at-directory-requires-clause-fits
link_at-directory-requires-clause-fits g c =
    let s = g.W.Reads.space c.args.words.now in
    directory_fits s.land s.word c.args.root c.requires.hash.chains c.args.chain c.requires.hash.is c.requires.chain

pub returns-then-directory-eq0-clause-value : goal.returns-then-directory-eq0-clause-value
returns-then-directory-eq0-clause-value g c =
    sym (none_is (g.W.Reads.space c.args.words.now).word c.args.root c.args.chain (sym c.link_at-directory.ensures.value ∙ c.if-directory-eq0.true))

pub overflow_add-directory : goal.overflow_add-directory
overflow_add-directory g c =
    let s = g.W.Reads.space c.args.words.now in
    let e = c.link_at-directory.ensures.value in
    let f = (directory_own s.land s.word c.args.root c.requires.hash.chains c.args.chain c.requires.hash.is c.requires.chain (λ z. c.if-directory-eq0.false (e ∙ z))).0.fits in
    omega (arith, e, f)

pub overflow_add-directory-2 : goal.overflow_add-directory-2
overflow_add-directory-2 g c =
    let s = g.W.Reads.space c.args.words.now in
    let e = c.link_at-directory.ensures.value in
    let f = (directory_own s.land s.word c.args.root c.requires.hash.chains c.args.chain c.requires.hash.is c.requires.chain (λ z. c.if-directory-eq0.false (e ∙ z))).0.fits in
    omega (arith, e, f)

pub link_at-requires-clause-held : goal.link_at-requires-clause-held
link_at-requires-clause-held g c =
    let s = g.W.Reads.space c.args.words.now in
    let e = c.link_at-directory.ensures.value in
    let own = directory_own s.land s.word c.args.root c.requires.hash.chains c.args.chain c.requires.hash.is c.requires.chain (λ z. c.if-directory-eq0.false (e ∙ z)) in
    subst (λ (u : Space). IsDataWordOf u.land (c.link_at-directory.result + 1 + c.args.chain % 8)) (sym c.link_at-directory.ensures.same)
    (slot_held s.land c.link_at-directory.result c.args.chain (subst (IsOwn s.land) (sym e) own))

pub link_at-requires-clause-fits : goal.link_at-requires-clause-fits
link_at-requires-clause-fits g c =
    let s = g.W.Reads.space c.args.words.now in
    let e = c.link_at-directory.ensures.value in
    let some : directory_of s.word c.args.root c.args.chain ≢ 0 = (λ z. c.if-directory-eq0.false (e ∙ z)) in
    let fits = chain_fits s.land s.word (first_link s.word c.args.root c.args.chain) (c.requires.hash.chains c.args.chain)
    (own_chain s.land s.word c.args.root c.requires.hash.chains c.args.chain c.requires.hash.is c.requires.chain) (c.requires.hash.is.laid c.args.chain c.requires.chain) in
    subst (λ (u : Space). u.word (c.link_at-directory.result + 1 + c.args.chain % 8) < 2 ^ 32) (sym c.link_at-directory.ensures.same)
    (subst (λ x. s.word (x + 1 + c.args.chain % 8) < 2 ^ 32) (sym e) (subst (λ x. x < 2 ^ 32) (first_is s.word c.args.root c.args.chain some) fits))

pub returns-clause-value : goal.returns-clause-value
returns-clause-value g c =
    let s = g.W.Reads.space c.args.words.now in
    let e = c.link_at-directory.ensures.value in
    let some : directory_of s.word c.args.root c.args.chain ≢ 0 = (λ z. c.if-directory-eq0.false (e ∙ z)) in
    c.link_at.ensures.value ∙ ap (λ (u : Space). u.word (c.link_at-directory.result + 1 + c.args.chain % 8)) c.link_at-directory.ensures.same
    ∙ ap (λ x. s.word (x + 1 + c.args.chain % 8)) e ∙ sym (first_is s.word c.args.root c.args.chain some)
