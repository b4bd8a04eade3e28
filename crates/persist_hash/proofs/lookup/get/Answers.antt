use Rattle.std.proofs.Common.{◌+◌, sym, ◌∙◌, ap, subst, Some}
use Rattle.lane_traits.specs.Space.{Space, IsOwn}
use Rattle.persist_hash.proofs.Places.{has_hash, none_of, some_of, place_own}
use Rattle.persist_hash.proofs.lookup.get.Goals as goal

pub place_of-place-requires : goal.place_of-place-requires
place_of-place-requires g c = has_hash (g.W.Reads.space c.args.words.now) c.args.root c.requires

pub returns-then-place-eq0-clause-value : goal.returns-then-place-eq0-clause-value
returns-then-place-eq0-clause-value g c = λ contents holds.
    none_of (g.W.Reads.space c.args.words.now) c.args.root c.args.key contents holds _ _ _
    (c.place_of-place.ensures.place holds.chains holds.is) c.if-place-eq0.true

pub field-requires-clause-own : goal.field-requires-clause-own
field-requires-clause-own g c =
    let holds = c.requires.holds in
    subst (λ (u : Space). IsOwn u.land c.place_of-place.result.node) (sym c.place_of-place.ensures.same)
    (place_own (g.W.Reads.space c.args.words.now) c.args.root c.args.key holds.chains _ _ _ holds.is
    (c.place_of-place.ensures.place holds.chains holds.is) c.if-place-eq0.false)

pub returns-clause-value : goal.returns-clause-value
returns-clause-value g c = λ contents holds.
    ap Some (c.field.ensures.value ∙ ap (λ (u : Space). u.word (c.place_of-place.result.node + 2)) c.place_of-place.ensures.same)
    ∙ some_of (g.W.Reads.space c.args.words.now) c.args.root c.args.key contents holds _ _ _
    (c.place_of-place.ensures.place holds.chains holds.is) c.if-place-eq0.false
