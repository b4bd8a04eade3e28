use Rattle.persist_hash.proofs.Places.{has_hash, needs_none, needs_one, needs_two}
use Rattle.persist_hash.proofs.lookup.needs.Goals as goal

pub place_of-place-requires : goal.place_of-place-requires
place_of-place-requires g c = has_hash (g.W.Reads.space c.args.words.now) c.args.root c.requires

pub returns-then-place-ne0-clause-blocks : goal.returns-then-place-ne0-clause-blocks
returns-then-place-ne0-clause-blocks g c = λ contents holds.
    needs_none (g.W.Reads.space c.args.words.now) c.args.root c.args.key contents holds _ _ _
    (c.place_of-place.ensures.place holds.chains holds.is) c.if-place-ne0.true

pub returns-then-place-eq0-clause-blocks : goal.returns-then-place-eq0-clause-blocks
returns-then-place-eq0-clause-blocks g c = λ contents holds.
    needs_two (g.W.Reads.space c.args.words.now) c.args.root c.args.key contents holds _ _ _
    (c.place_of-place.ensures.place holds.chains holds.is) c.if-place-ne0.false c.if-place-eq0.true

pub returns-else-place-eq0-clause-blocks : goal.returns-else-place-eq0-clause-blocks
returns-else-place-eq0-clause-blocks g c = λ contents holds.
    needs_one (g.W.Reads.space c.args.words.now) c.args.root c.args.key contents holds _ _ _
    (c.place_of-place.ensures.place holds.chains holds.is) c.if-place-ne0.false c.if-place-eq0.false
