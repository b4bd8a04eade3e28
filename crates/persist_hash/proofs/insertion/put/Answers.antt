use Rattle.std.proofs.Common.{◌≡◌, ◌+◌, ◌%◌, ◌/◌, ◌<◌, Err, Some, length, sym, ◌∙◌, ap, subst, arith}
use Rattle.std.proofs.lemmas.Result.{err_from_is_err_and}
use Rattle.lane_traits.specs.Space.{Space, IsOwn, IsDataWordOf, written}
use Rattle.lane_traits.specs.declared.words.WordsRefusal.TheVariants.{HeapFull}
use Rattle.region_layout.specs.FiniteMap.{with_pair}
use Rattle.region_layout.specs.HashMap.{chain_number, chain_word}
use Rattle.persist_hash.specs.Calls.{Holds, TakesBlocks}
use Rattle.persist_hash.specs.Adding.{AddsNode, AddsDirectory}
use Rattle.persist_hash.proofs.Places.{has_hash, none_of, some_of, place_own, needs_none, needs_one, needs_two, directory_own, slot_held, chain_below}
use Rattle.persist_hash.proofs.Adding.{one_can, two_can, takes_none, others_written, others_added, others_opened}
use Rattle.persist_hash.proofs.Puts.{holds_added, holds_opened, takes_one, takes_two}
use Rattle.persist_hash.proofs.Removals.{holds_replaced}
use Rattle.persist_hash.proofs.insertion.put.Goals as goal

pub place_of-place-requires : goal.place_of-place-requires
place_of-place-requires g c = has_hash (g.W.Reads.space c.args.words.now) c.args.root c.requires.map

-- ---- the key is there

pub replace-requires : goal.replace-requires
replace-requires g c =
    let holds = c.requires.map.holds in
    subst (λ (u : Space). IsOwn u.land c.place_of-place.result.node) (sym c.place_of-place.ensures.same)
    (place_own (g.W.Reads.space c.args.words.now) c.args.root c.args.key holds.chains _ _ _ holds.is
    (c.place_of-place.ensures.place holds.chains holds.is) c.if-place-ne0.true)

pub returns-in_err-before-clause-none : goal.returns-in_err-before-clause-none
returns-in_err-before-clause-none g c = λ contents holds empty some.
    let none = needs_none (g.W.Reads.space c.args.words.now) c.args.root c.args.key contents holds _ _ _
    (c.place_of-place.ensures.place holds.chains holds.is) c.if-place-ne0.true in
    absurd (omega (arith, none, some))

pub returns-then-place-ne0-clause-before : goal.returns-then-place-ne0-clause-before
returns-then-place-ne0-clause-before g c = λ contents holds.
    ap Some (c.in_ok-before.ensures.before ∙ ap (λ (u : Space). u.word (c.place_of-place.result.node + 2)) c.place_of-place.ensures.same)
    ∙ some_of (g.W.Reads.space c.args.words.now) c.args.root c.args.key contents holds _ _ _
    (c.place_of-place.ensures.place holds.chains holds.is) c.if-place-ne0.true

pub returns-then-place-ne0-clause-contents : goal.returns-then-place-ne0-clause-contents
returns-then-place-ne0-clause-contents g c = λ contents holds.
    subst (λ (u : Space). Holds u c.args.root (with_pair c.args.key c.args.value contents))
    (sym (c.in_ok-before.ensures.made ∙ ap (written (c.place_of-place.result.node + 2) c.args.value) c.place_of-place.ensures.same))
    (holds_replaced (g.W.Reads.space c.args.words.now) c.args.root c.args.key c.args.value contents holds _ _ _
    (c.place_of-place.ensures.place holds.chains holds.is) c.if-place-ne0.true c.requires.value)

pub returns-then-place-ne0-clause-takes : goal.returns-then-place-ne0-clause-takes
returns-then-place-ne0-clause-takes g c = λ contents holds.
    let s = g.W.Reads.space c.args.words.now in
    subst (λ n. TakesBlocks n s (g.W.Reads.space c.replace.new.words))
    (needs_none s c.args.root c.args.key contents holds _ _ _ (c.place_of-place.ensures.place holds.chains holds.is) c.if-place-ne0.true)
    (takes_none s (g.W.Reads.space c.replace.new.words) (c.place_of-place.result.node + 2) c.args.value
    (c.in_ok-before.ensures.made ∙ ap (written (c.place_of-place.result.node + 2) c.args.value) c.place_of-place.ensures.same))

pub returns-then-place-ne0-clause-enough : goal.returns-then-place-ne0-clause-enough
returns-then-place-ne0-clause-enough g c = λ contents holds.
    let none = needs_none (g.W.Reads.space c.args.words.now) c.args.root c.args.key contents holds _ _ _
    (c.place_of-place.ensures.place holds.chains holds.is) c.if-place-ne0.true in
    omega (arith, none)

pub returns-then-place-ne0-clause-none : goal.returns-then-place-ne0-clause-none
returns-then-place-ne0-clause-none g c = λ contents holds empty some.
    let none = needs_none (g.W.Reads.space c.args.words.now) c.args.root c.args.key contents holds _ _ _
    (c.place_of-place.ensures.place holds.chains holds.is) c.if-place-ne0.true in
    absurd (omega (arith, none, some))

-- ---- its chain has no directory block

pub add_directory-requires-clause-own : goal.add_directory-requires-clause-own
add_directory-requires-clause-own g c = subst (λ (u : Space). IsOwn u.land c.args.root) (sym c.place_of-place.ensures.same) c.requires.map.holds.is.root_own

pub returns-in_err-add_directory-clause-full : goal.returns-in_err-add_directory-clause-full
returns-in_err-add_directory-clause-full g c = λ h contents holds.
    let p = err_from_is_err_and c.from_residual-in_err-add_directory.result c.from_residual-in_err-add_directory.ensures.1 in
    let refused : c.add_directory.result ≡ Err HeapFull = cc in
    let few = c.add_directory.ensures.full refused in
    let less = subst (λ (u : Space). length u.spare < 2) c.place_of-place.ensures.same few in
    let two = needs_two (g.W.Reads.space c.args.words.now) c.args.root c.args.key contents holds _ _ _
    (c.place_of-place.ensures.place holds.chains holds.is) c.if-place-ne0.false c.if-place-eq0.true in
    omega (arith, less, two)

pub returns-then-place-eq0-clause-before : goal.returns-then-place-eq0-clause-before
returns-then-place-eq0-clause-before g c = λ contents holds.
    none_of (g.W.Reads.space c.args.words.now) c.args.root c.args.key contents holds _ _ _
    (c.place_of-place.ensures.place holds.chains holds.is) c.if-place-ne0.false

pub returns-then-place-eq0-clause-contents : goal.returns-then-place-eq0-clause-contents
returns-then-place-eq0-clause-contents g c = λ contents holds.
    let s = g.W.Reads.space c.args.words.now in
    let u = g.W.Reads.space c.add_directory.new.words in
    let chain = c.chain_of-chain.result in
    let adds = subst (λ (t : Space). AddsDirectory c.args.root (chain / 8) (chain % 8) c.args.key c.args.value t u) c.place_of-place.ensures.same c.in_ok-add_directory.ensures.added in
    holds_opened s u c.args.root c.args.key c.args.value contents holds _ _ _ (chain / 8) (chain % 8)
    (c.place_of-place.ensures.place holds.chains holds.is) (g.met.W.Words.spare_apart c.args.words.now) c.if-place-ne0.false c.if-place-eq0.true c.requires.value
    (ap (λ x. x / 8) c.chain_of-chain.ensures.chain) (ap (λ x. x % 8) c.chain_of-chain.ensures.chain) adds

pub returns-then-place-eq0-clause-takes : goal.returns-then-place-eq0-clause-takes
returns-then-place-eq0-clause-takes g c = λ contents holds.
    let s = g.W.Reads.space c.args.words.now in
    let u = g.W.Reads.space c.add_directory.new.words in
    let chain = c.chain_of-chain.result in
    let adds = subst (λ (t : Space). AddsDirectory c.args.root (chain / 8) (chain % 8) c.args.key c.args.value t u) c.place_of-place.ensures.same c.in_ok-add_directory.ensures.added in
    subst (λ n. TakesBlocks n s u)
    (needs_two s c.args.root c.args.key contents holds _ _ _ (c.place_of-place.ensures.place holds.chains holds.is) c.if-place-ne0.false c.if-place-eq0.true)
    (takes_two s u c.args.root (chain / 8) (chain % 8) c.args.key c.args.value adds)

pub returns-then-place-eq0-clause-enough : goal.returns-then-place-eq0-clause-enough
returns-then-place-eq0-clause-enough g c = λ contents holds.
    let s = g.W.Reads.space c.args.words.now in
    let u = g.W.Reads.space c.add_directory.new.words in
    let chain = c.chain_of-chain.result in
    let adds = subst (λ (t : Space). AddsDirectory c.args.root (chain / 8) (chain % 8) c.args.key c.args.value t u) c.place_of-place.ensures.same c.in_ok-add_directory.ensures.added in
    let can = two_can s u c.args.root (chain / 8) (chain % 8) c.args.key c.args.value adds in
    let two = needs_two s c.args.root c.args.key contents holds _ _ _ (c.place_of-place.ensures.place holds.chains holds.is) c.if-place-ne0.false c.if-place-eq0.true in
    omega (arith, can, two)

-- ---- its chain has one

pub overflow_add-place : goal.overflow_add-place
overflow_add-place g c =
    let s = g.W.Reads.space c.args.words.now in
    let holds = c.requires.map.holds in
    let at = c.place_of-place.ensures.place holds.chains holds.is in
    let e = at.directory_is in
    let f = (directory_own s.land s.word c.args.root holds.chains (chain_number c.args.key) holds.is (chain_below c.args.key) (λ z. c.if-place-eq0.false (e ∙ z))).0.fits in
    omega (arith, e, f)

pub overflow_add-place-2 : goal.overflow_add-place-2
overflow_add-place-2 g c =
    let s = g.W.Reads.space c.args.words.now in
    let holds = c.requires.map.holds in
    let at = c.place_of-place.ensures.place holds.chains holds.is in
    let e = at.directory_is in
    let f = (directory_own s.land s.word c.args.root holds.chains (chain_number c.args.key) holds.is (chain_below c.args.key) (λ z. c.if-place-eq0.false (e ∙ z))).0.fits in
    omega (arith, e, f)

pub add-requires : goal.add-requires
add-requires g c =
    let s = g.W.Reads.space c.args.words.now in
    let holds = c.requires.map.holds in
    let at = c.place_of-place.ensures.place holds.chains holds.is in
    let own = directory_own s.land s.word c.args.root holds.chains (chain_number c.args.key) holds.is (chain_below c.args.key) (λ z. c.if-place-eq0.false (at.directory_is ∙ z)) in
    subst (λ (u : Space). IsDataWordOf u.land (c.place_of-place.result.directory + 1 + c.chain_of-chain.result % 8)) (sym c.place_of-place.ensures.same)
    (slot_held s.land c.place_of-place.result.directory c.chain_of-chain.result (subst (IsOwn s.land) (sym at.directory_is) own))

pub returns-in_err-add-clause-full : goal.returns-in_err-add-clause-full
returns-in_err-add-clause-full g c = λ h contents holds.
    let p = err_from_is_err_and c.from_residual-in_err-add.result c.from_residual-in_err-add.ensures.1 in
    let refused : c.add.result ≡ Err HeapFull = cc in
    let empty = ap (λ (u : Space). u.spare) (sym c.place_of-place.ensures.same) ∙ c.add.ensures.full.0 refused in
    let long = ap length empty in
    let one = needs_one (g.W.Reads.space c.args.words.now) c.args.root c.args.key contents holds _ _ _
    (c.place_of-place.ensures.place holds.chains holds.is) c.if-place-ne0.false c.if-place-eq0.false in
    omega (arith, long, one)

pub returns-clause-before : goal.returns-clause-before
returns-clause-before g c = λ contents holds.
    none_of (g.W.Reads.space c.args.words.now) c.args.root c.args.key contents holds _ _ _
    (c.place_of-place.ensures.place holds.chains holds.is) c.if-place-ne0.false

pub returns-clause-contents : goal.returns-clause-contents
returns-clause-contents g c = λ contents holds.
    let s = g.W.Reads.space c.args.words.now in
    let u = g.W.Reads.space c.add.new.words in
    let slot = c.place_of-place.result.directory + 1 + c.chain_of-chain.result % 8 in
    let adds = subst (λ (t : Space). AddsNode slot c.args.key c.args.value t u) c.place_of-place.ensures.same c.in_ok-add.ensures.added in
    holds_added s u c.args.root c.args.key c.args.value contents holds _ _ _ slot
    (c.place_of-place.ensures.place holds.chains holds.is) (g.met.W.Words.spare_apart c.args.words.now) c.if-place-ne0.false c.if-place-eq0.false c.requires.value
    (ap (chain_word c.place_of-place.result.directory) c.chain_of-chain.ensures.chain) adds

pub returns-clause-takes : goal.returns-clause-takes
returns-clause-takes g c = λ contents holds.
    let s = g.W.Reads.space c.args.words.now in
    let u = g.W.Reads.space c.add.new.words in
    let slot = c.place_of-place.result.directory + 1 + c.chain_of-chain.result % 8 in
    let adds = subst (λ (t : Space). AddsNode slot c.args.key c.args.value t u) c.place_of-place.ensures.same c.in_ok-add.ensures.added in
    subst (λ n. TakesBlocks n s u)
    (needs_one s c.args.root c.args.key contents holds _ _ _ (c.place_of-place.ensures.place holds.chains holds.is) c.if-place-ne0.false c.if-place-eq0.false)
    (takes_one s u slot c.args.key c.args.value adds)

pub returns-clause-enough : goal.returns-clause-enough
returns-clause-enough g c = λ contents holds.
    let s = g.W.Reads.space c.args.words.now in
    let u = g.W.Reads.space c.add.new.words in
    let slot = c.place_of-place.result.directory + 1 + c.chain_of-chain.result % 8 in
    let adds = subst (λ (t : Space). AddsNode slot c.args.key c.args.value t u) c.place_of-place.ensures.same c.in_ok-add.ensures.added in
    let can = one_can s u slot c.args.key c.args.value adds in
    let one = needs_one s c.args.root c.args.key contents holds _ _ _ (c.place_of-place.ensures.place holds.chains holds.is) c.if-place-ne0.false c.if-place-eq0.false in
    omega (arith, can, one)

-- ---- the words elsewhere, and that they stay a map

pub returns-then-place-ne0-clause-others : goal.returns-then-place-ne0-clause-others
returns-then-place-ne0-clause-others g c =
    let s = g.W.Reads.space c.args.words.now in
    let holds = c.requires.map.holds in
    others_written s (g.W.Reads.space c.replace.new.words) c.place_of-place.result.node 2 c.args.value
    (place_own s c.args.root c.args.key holds.chains _ _ _ holds.is (c.place_of-place.ensures.place holds.chains holds.is) c.if-place-ne0.true)
    (omega arith) (omega arith)
    (c.in_ok-before.ensures.made ∙ ap (written (c.place_of-place.result.node + 2) c.args.value) c.place_of-place.ensures.same)

pub returns-then-place-eq0-clause-others : goal.returns-then-place-eq0-clause-others
returns-then-place-eq0-clause-others g c =
    let s = g.W.Reads.space c.args.words.now in
    let u = g.W.Reads.space c.add_directory.new.words in
    let chain = c.chain_of-chain.result in
    let adds = subst (λ (t : Space). AddsDirectory c.args.root (chain / 8) (chain % 8) c.args.key c.args.value t u) c.place_of-place.ensures.same c.in_ok-add_directory.ensures.added in
    let below = c.chain_of-chain.ensures.below in
    others_opened s u c.args.root (chain / 8) (chain % 8) c.args.key c.args.value c.requires.map.holds.is.root_own (omega (arith, below)) adds

pub returns-clause-others : goal.returns-clause-others
returns-clause-others g c =
    let s = g.W.Reads.space c.args.words.now in
    let u = g.W.Reads.space c.add.new.words in
    let holds = c.requires.map.holds in
    let at = c.place_of-place.ensures.place holds.chains holds.is in
    let slot = c.place_of-place.result.directory + 1 + c.chain_of-chain.result % 8 in
    let adds = subst (λ (t : Space). AddsNode slot c.args.key c.args.value t u) c.place_of-place.ensures.same c.in_ok-add.ensures.added in
    let own = directory_own s.land s.word c.args.root holds.chains (chain_number c.args.key) holds.is (chain_below c.args.key) (λ z. c.if-place-eq0.false (at.directory_is ∙ z)) in
    others_added s u slot c.args.key c.args.value
    (slot_held s.land c.place_of-place.result.directory c.chain_of-chain.result (subst (IsOwn s.land) (sym at.directory_is) own)) adds

pub returns-then-place-ne0-clause-map : goal.returns-then-place-ne0-clause-map
returns-then-place-ne0-clause-map g c =
    let holds = c.requires.map.holds in
    record { contents = with_pair c.args.key c.args.value c.requires.map.contents; holds = returns-then-place-ne0-clause-contents g c c.requires.map.contents holds }

pub returns-then-place-eq0-clause-map : goal.returns-then-place-eq0-clause-map
returns-then-place-eq0-clause-map g c =
    let holds = c.requires.map.holds in
    record { contents = with_pair c.args.key c.args.value c.requires.map.contents; holds = returns-then-place-eq0-clause-contents g c c.requires.map.contents holds }

pub returns-clause-map : goal.returns-clause-map
returns-clause-map g c =
    let holds = c.requires.map.holds in
    record { contents = with_pair c.args.key c.args.value c.requires.map.contents; holds = returns-clause-contents g c c.requires.map.contents holds }
