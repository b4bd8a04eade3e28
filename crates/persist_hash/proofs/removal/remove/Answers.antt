use Rattle.std.proofs.Common.{◌≢◌, ◌+◌, Some, sym, ◌∙◌, ap, subst}
use Rattle.lane_traits.specs.Space.{Space, IsOwn, IsDataWordOf, root_block}
use Rattle.region_layout.specs.FiniteMap.{FiniteMap, without_key}
use Rattle.persist_hash.specs.Calls.{Holds}
use Rattle.persist_hash.proofs.Places.{has_hash, none_of, some_of, place_own}
use Rattle.persist_hash.proofs.Entries.{without_absent}
use Rattle.persist_hash.proofs.Adding.{others_same, others_unlinked}
use Rattle.persist_hash.proofs.Removals.{holds_removed, link_held, place_not_root, gives_one, unlinked_at}
use Rattle.persist_hash.proofs.removal.remove.Goals as goal

pub place_of-place-requires : goal.place_of-place-requires
place_of-place-requires g c = has_hash (g.W.Reads.space c.args.words.now) c.args.root c.requires.map

pub returns-then-place-eq0-clause-before : goal.returns-then-place-eq0-clause-before
returns-then-place-eq0-clause-before g c = λ contents holds.
    none_of (g.W.Reads.space c.args.words.now) c.args.root c.args.key contents holds _ _ _
    (c.place_of-place.ensures.place holds.chains holds.is) c.if-place-eq0.true

pub returns-then-place-eq0-clause-contents : goal.returns-then-place-eq0-clause-contents
returns-then-place-eq0-clause-contents g c = λ contents holds.
    let none = none_of (g.W.Reads.space c.args.words.now) c.args.root c.args.key contents holds _ _ _
    (c.place_of-place.ensures.place holds.chains holds.is) c.if-place-eq0.true in
    subst (λ (u : Space). Holds u c.args.root (without_key c.args.key contents)) (sym c.place_of-place.ensures.same)
    (subst (λ (m : FiniteMap). Holds (g.W.Reads.space c.args.words.now) c.args.root m) (sym (without_absent c.args.key contents (sym none))) holds)

pub unlink-requires-clause-own : goal.unlink-requires-clause-own
unlink-requires-clause-own g c =
    let holds = c.requires.map.holds in
    subst (λ (u : Space). IsOwn u.land c.place_of-place.result.node) (sym c.place_of-place.ensures.same)
    (place_own (g.W.Reads.space c.args.words.now) c.args.root c.args.key holds.chains _ _ _ holds.is
    (c.place_of-place.ensures.place holds.chains holds.is) c.if-place-eq0.false)

pub unlink-requires-clause-not_root : goal.unlink-requires-clause-not_root
unlink-requires-clause-not_root g c =
    let holds = c.requires.map.holds in
    subst (λ (u : Space). c.place_of-place.result.node ≢ root_block u.land) (sym c.place_of-place.ensures.same)
    (λ e. place_not_root (g.W.Reads.space c.args.words.now) c.args.root c.args.key holds.chains _ _ _ holds.is
    (c.place_of-place.ensures.place holds.chains holds.is) c.if-place-eq0.false (e ∙ sym c.requires.root))

pub unlink-requires-clause-held : goal.unlink-requires-clause-held
unlink-requires-clause-held g c =
    let holds = c.requires.map.holds in
    subst (λ (u : Space). IsDataWordOf u.land c.place_of-place.result.link) (sym c.place_of-place.ensures.same)
    (link_held (g.W.Reads.space c.args.words.now) c.args.root c.args.key holds.chains _ _ _ holds.is
    (c.place_of-place.ensures.place holds.chains holds.is) c.if-place-eq0.false)

pub returns-clause-before : goal.returns-clause-before
returns-clause-before g c = λ contents holds.
    ap Some (c.in_ok-before.ensures.before ∙ ap (λ (u : Space). u.word (c.place_of-place.result.node + 2)) c.place_of-place.ensures.same)
    ∙ some_of (g.W.Reads.space c.args.words.now) c.args.root c.args.key contents holds _ _ _
    (c.place_of-place.ensures.place holds.chains holds.is) c.if-place-eq0.false

pub returns-clause-contents : goal.returns-clause-contents
returns-clause-contents g c = λ contents holds.
    subst (λ (u : Space). Holds u c.args.root (without_key c.args.key contents)) (sym (unlinked_at _ _ _ _ _ c.place_of-place.ensures.same c.in_ok-before.ensures.unlinked))
    (holds_removed (g.W.Reads.space c.args.words.now) c.args.root c.args.key contents holds _ _ _
    (c.place_of-place.ensures.place holds.chains holds.is) c.if-place-eq0.false)

pub returns-clause-gives : goal.returns-clause-gives
returns-clause-gives g c =
    let place = c.place_of-place.result in
    let holds = c.requires.map.holds in
    let s = g.W.Reads.space c.args.words.now in
    gives_one s (g.W.Reads.space c.unlink.new.words) place.node place.link (s.word (place.node + 3))
    (place_own s c.args.root c.args.key holds.chains _ _ _ holds.is (c.place_of-place.ensures.place holds.chains holds.is) c.if-place-eq0.false)
    (unlinked_at _ _ _ _ _ c.place_of-place.ensures.same c.in_ok-before.ensures.unlinked)

pub returns-then-place-eq0-clause-others : goal.returns-then-place-eq0-clause-others
returns-then-place-eq0-clause-others g c =
    others_same (g.W.Reads.space c.args.words.now) (g.W.Reads.space c.place_of-place.new.words) c.place_of-place.ensures.same

pub returns-clause-others : goal.returns-clause-others
returns-clause-others g c =
    let place = c.place_of-place.result in
    let holds = c.requires.map.holds in
    let s = g.W.Reads.space c.args.words.now in
    others_unlinked s (g.W.Reads.space c.unlink.new.words) place.node place.link (s.word (place.node + 3))
    (link_held s c.args.root c.args.key holds.chains _ _ _ holds.is (c.place_of-place.ensures.place holds.chains holds.is) c.if-place-eq0.false)
    (unlinked_at _ _ _ _ _ c.place_of-place.ensures.same c.in_ok-before.ensures.unlinked)

pub returns-then-place-eq0-clause-map : goal.returns-then-place-eq0-clause-map
returns-then-place-eq0-clause-map g c =
    record { contents = without_key c.args.key c.requires.map.contents; holds = returns-then-place-eq0-clause-contents g c c.requires.map.contents c.requires.map.holds }

pub returns-clause-map : goal.returns-clause-map
returns-clause-map g c =
    record { contents = without_key c.args.key c.requires.map.contents; holds = returns-clause-contents g c c.requires.map.contents c.requires.map.holds }
