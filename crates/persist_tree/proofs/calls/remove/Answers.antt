use Rattle.std.proofs.Common.{◌+◌, ◌∙◌, ap}
use Rattle.lane_traits.specs.Space.{Space}
use Rattle.std.proofs.Common.{Some}
use Rattle.persist_tree.proofs.Descending.{own_same}
use Rattle.persist_tree.proofs.Whole.{value_none, value_some, located_own, can_shrink, without_absent, remove_own, remove_give, remove_not_root, removed_by, remove_contents}
use Rattle.persist_tree.proofs.calls.remove.Goals as goal

pub returns-then-place-eq0-clause-answer : goal.returns-then-place-eq0-clause-answer
returns-then-place-eq0-clause-answer g c = value_none (g.W.Reads.space c.args.words.now) c.args.root c.args.key c.locate-place.result.at c.locate-place.ensures.at c.if-place-eq0.true

pub returns-then-place-eq0-clause-contents : goal.returns-then-place-eq0-clause-contents
returns-then-place-eq0-clause-contents g c = without_absent (g.W.Reads.space c.args.words.now) (g.W.Reads.space c.locate-place.new.words) c.args.root c.args.key c.locate-place.result.at c.locate-place.ensures.same c.locate-place.ensures.at c.if-place-eq0.true

pub field-before-requires-clause-own : goal.field-before-requires-clause-own
field-before-requires-clause-own g c = own_same (g.W.Reads.space c.args.words.now) (g.W.Reads.space c.locate-place.new.words) c.locate-place.result.at c.locate-place.ensures.same (located_own (g.W.Reads.space c.args.words.now) c.args.root c.args.key c.locate-place.result.at c.locate-place.ensures.at c.if-place-eq0.false c.requires.map)

pub shrink-requires : goal.shrink-requires
shrink-requires g c = can_shrink (g.W.Reads.space c.args.words.now) (g.W.Reads.space c.field-before.new.words) c.args.root c.args.key c.locate-place.result.top c.locate-place.result.at (c.field-before.ensures.same ∙ c.locate-place.ensures.same) c.locate-place.ensures.top c.locate-place.ensures.at c.if-place-eq0.false c.requires.map

pub set-requires-clause-own : goal.set-requires-clause-own
set-requires-clause-own g c = remove_own (g.W.Reads.space c.args.words.now) (g.W.Reads.space c.field-before.new.words) (g.W.Reads.space c.shrink.new.words) c.args.root c.args.key c.locate-place.result.top c.in_ok-link.link c.locate-place.result.at c.locate-place.ensures.at c.if-place-eq0.false (c.field-before.ensures.same ∙ c.locate-place.ensures.same) c.locate-place.ensures.top c.in_ok-link.ensures c.requires.map

pub give-requires-clause-own : goal.give-requires-clause-own
give-requires-clause-own g c = remove_give (g.W.Reads.space c.args.words.now) (g.W.Reads.space c.field-before.new.words) (g.W.Reads.space c.shrink.new.words) c.args.root c.args.key c.locate-place.result.top c.in_ok-link.link c.locate-place.result.at c.locate-place.ensures.at c.if-place-eq0.false (c.field-before.ensures.same ∙ c.locate-place.ensures.same) c.locate-place.ensures.top c.in_ok-link.ensures (g.W.Reads.space c.set.new.words) (g.W.Reads.space c.set.new.words) c.from.result c.in_ok-set.ensures c.from.ensures c.requires.map

pub give-requires-clause-not_root : goal.give-requires-clause-not_root
give-requires-clause-not_root g c = remove_not_root (g.W.Reads.space c.args.words.now) (g.W.Reads.space c.field-before.new.words) (g.W.Reads.space c.shrink.new.words) c.args.root c.args.key c.locate-place.result.top c.in_ok-link.link c.locate-place.result.at c.locate-place.ensures.at c.if-place-eq0.false (c.field-before.ensures.same ∙ c.locate-place.ensures.same) c.locate-place.ensures.top c.in_ok-link.ensures (g.W.Reads.space c.set.new.words) (g.W.Reads.space c.set.new.words) c.from.result c.in_ok-set.ensures c.from.ensures c.requires.map c.requires.root

pub returns-clause-answer : goal.returns-clause-answer
returns-clause-answer g c m h = ap Some (c.field-before.ensures.value ∙ ap (λ (y : Space). y.word (c.locate-place.result.at + 2)) c.locate-place.ensures.same) ∙ value_some (g.W.Reads.space c.args.words.now) c.args.root c.args.key c.locate-place.result.at c.locate-place.ensures.at c.if-place-eq0.false m h

pub returns-clause-contents : goal.returns-clause-contents
returns-clause-contents g c = remove_contents (g.W.Reads.space c.args.words.now) (g.W.Reads.space c.field-before.new.words) (g.W.Reads.space c.shrink.new.words) c.args.root c.args.key c.locate-place.result.top c.in_ok-link.link c.locate-place.result.at c.locate-place.ensures.at c.if-place-eq0.false (c.field-before.ensures.same ∙ c.locate-place.ensures.same) c.locate-place.ensures.top c.in_ok-link.ensures (g.W.Reads.space c.set.new.words) (g.W.Reads.space c.give.new.self) c.from.result c.in_ok-set.ensures c.from.ensures c.in_ok-give.ensures.given

pub returns-clause-others : goal.returns-clause-others
returns-clause-others g c = (removed_by (g.W.Reads.space c.args.words.now) (g.W.Reads.space c.field-before.new.words) (g.W.Reads.space c.shrink.new.words) c.args.root c.args.key c.locate-place.result.top c.in_ok-link.link c.locate-place.result.at c.locate-place.ensures.at c.if-place-eq0.false (c.field-before.ensures.same ∙ c.locate-place.ensures.same) c.locate-place.ensures.top c.in_ok-link.ensures (g.W.Reads.space c.set.new.words) (g.W.Reads.space c.give.new.self) c.from.result c.in_ok-set.ensures c.from.ensures c.in_ok-give.ensures.given c.requires.map.is.tree c.requires.map.is.is).others

pub returns-clause-writes : goal.returns-clause-writes
returns-clause-writes g c t h = (removed_by (g.W.Reads.space c.args.words.now) (g.W.Reads.space c.field-before.new.words) (g.W.Reads.space c.shrink.new.words) c.args.root c.args.key c.locate-place.result.top c.in_ok-link.link c.locate-place.result.at c.locate-place.ensures.at c.if-place-eq0.false (c.field-before.ensures.same ∙ c.locate-place.ensures.same) c.locate-place.ensures.top c.in_ok-link.ensures (g.W.Reads.space c.set.new.words) (g.W.Reads.space c.give.new.self) c.from.result c.in_ok-set.ensures c.from.ensures c.in_ok-give.ensures.given t h).writes

pub returns-clause-blocks : goal.returns-clause-blocks
returns-clause-blocks g c = (removed_by (g.W.Reads.space c.args.words.now) (g.W.Reads.space c.field-before.new.words) (g.W.Reads.space c.shrink.new.words) c.args.root c.args.key c.locate-place.result.top c.in_ok-link.link c.locate-place.result.at c.locate-place.ensures.at c.if-place-eq0.false (c.field-before.ensures.same ∙ c.locate-place.ensures.same) c.locate-place.ensures.top c.in_ok-link.ensures (g.W.Reads.space c.set.new.words) (g.W.Reads.space c.give.new.self) c.from.result c.in_ok-set.ensures c.from.ensures c.in_ok-give.ensures.given c.requires.map.is.tree c.requires.map.is.is).given
