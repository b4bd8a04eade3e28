use Rattle.std.proofs.Common.{◌+◌, ◌∙◌, ap}
use Rattle.lane_traits.specs.Space.{Space, written}
use Rattle.std.proofs.Common.{Some}
use Rattle.persist_tree.proofs.Descending.{own_same}
use Rattle.persist_tree.proofs.Whole.{value_none, value_some, located_own, needed_none, needed_some, can_insert, inserts_in, put_new-contents, put_new, put_new-writes, put_old-contents, put_old-others, put_old-writes, put_old-blocks}
use Rattle.std.proofs.Common.{Ok, Err, None}
use Rattle.std.proofs.lemmas.Result.{err_from_is_err_and}
use Rattle.persist_tree.specs.Calls.{needed}
use Rattle.persist_tree.proofs.Fullness.{full_refused, full_made, full_never, no_memory_differs, ok_differs}
use Rattle.persist_tree.proofs.calls.put.Goals as goal

pub insert-requires-clause-map : goal.insert-requires-clause-map
insert-requires-clause-map g c = can_insert (g.W.Reads.space c.args.words.now) (g.W.Reads.space c.locate-place.new.words) c.args.root c.args.key c.locate-place.result.at c.locate-place.ensures.same c.locate-place.ensures.at c.if-place-eq0.true c.requires.map

pub returns-in_err-insert-clause-full : goal.returns-in_err-insert-clause-full
returns-in_err-insert-clause-full g c m h =
    let p = err_from_is_err_and c.from_residual.result c.from_residual.ensures.1 in
    full_refused c.insert.result c.from_residual.result c.in_err-insert.field-0.0 (g.W.Reads.space c.args.words.now).spare (g.W.Reads.space c.locate-place.new.words).spare (needed c.args.key m) c.in_err-insert.was (p.1 ∙ ap Err p.2) (ap (λ (y : Space). y.spare) c.locate-place.ensures.same)
    c.insert.ensures.full (needed_none (g.W.Reads.space c.args.words.now) c.args.root c.args.key c.locate-place.result.at c.locate-place.ensures.at c.if-place-eq0.true m h)

pub returns-then-place-eq0-clause-answer : goal.returns-then-place-eq0-clause-answer
returns-then-place-eq0-clause-answer g c = value_none (g.W.Reads.space c.args.words.now) c.args.root c.args.key c.locate-place.result.at c.locate-place.ensures.at c.if-place-eq0.true

pub returns-then-place-eq0-clause-contents : goal.returns-then-place-eq0-clause-contents
returns-then-place-eq0-clause-contents g c = put_new-contents (g.W.Reads.space c.args.words.now) (g.W.Reads.space c.insert.new.words) c.args.root c.args.key c.args.value c.locate-place.result.at c.locate-place.ensures.at c.if-place-eq0.true (inserts_in (g.W.Reads.space c.args.words.now) (g.W.Reads.space c.locate-place.new.words) (g.W.Reads.space c.insert.new.words) c.args.root c.args.key c.args.value c.locate-place.ensures.same c.in_ok-insert.ensures.made)

pub returns-then-place-eq0-clause-others : goal.returns-then-place-eq0-clause-others
returns-then-place-eq0-clause-others g c = (put_new (g.W.Reads.space c.args.words.now) (g.W.Reads.space c.insert.new.words) c.args.root c.args.key c.args.value c.locate-place.result.at c.locate-place.ensures.at c.if-place-eq0.true (inserts_in (g.W.Reads.space c.args.words.now) (g.W.Reads.space c.locate-place.new.words) (g.W.Reads.space c.insert.new.words) c.args.root c.args.key c.args.value c.locate-place.ensures.same c.in_ok-insert.ensures.made) c.requires.map).others

pub returns-then-place-eq0-clause-writes : goal.returns-then-place-eq0-clause-writes
returns-then-place-eq0-clause-writes g c = put_new-writes (g.W.Reads.space c.args.words.now) (g.W.Reads.space c.insert.new.words) c.args.root c.args.key c.args.value c.locate-place.result.at c.locate-place.ensures.at c.if-place-eq0.true (inserts_in (g.W.Reads.space c.args.words.now) (g.W.Reads.space c.locate-place.new.words) (g.W.Reads.space c.insert.new.words) c.args.root c.args.key c.args.value c.locate-place.ensures.same c.in_ok-insert.ensures.made)

pub returns-then-place-eq0-clause-blocks : goal.returns-then-place-eq0-clause-blocks
returns-then-place-eq0-clause-blocks g c = (put_new (g.W.Reads.space c.args.words.now) (g.W.Reads.space c.insert.new.words) c.args.root c.args.key c.args.value c.locate-place.result.at c.locate-place.ensures.at c.if-place-eq0.true (inserts_in (g.W.Reads.space c.args.words.now) (g.W.Reads.space c.locate-place.new.words) (g.W.Reads.space c.insert.new.words) c.args.root c.args.key c.args.value c.locate-place.ensures.same c.in_ok-insert.ensures.made) c.requires.map).taken

pub returns-then-place-eq0-clause-full : goal.returns-then-place-eq0-clause-full
returns-then-place-eq0-clause-full g c m h =
    full_made c.insert.result c.in_ok-insert.field-0 None (g.W.Reads.space c.args.words.now).spare (g.W.Reads.space c.locate-place.new.words).spare (needed c.args.key m) c.in_ok-insert.was (ap (λ (y : Space). y.spare) c.locate-place.ensures.same)
    c.insert.ensures.full (needed_none (g.W.Reads.space c.args.words.now) c.args.root c.args.key c.locate-place.result.at c.locate-place.ensures.at c.if-place-eq0.true m h)

pub field-before-requires-clause-own : goal.field-before-requires-clause-own
field-before-requires-clause-own g c = own_same (g.W.Reads.space c.args.words.now) (g.W.Reads.space c.locate-place.new.words) c.locate-place.result.at c.locate-place.ensures.same (located_own (g.W.Reads.space c.args.words.now) c.args.root c.args.key c.locate-place.result.at c.locate-place.ensures.at c.if-place-eq0.false c.requires.map)

pub set-requires-clause-own : goal.set-requires-clause-own
set-requires-clause-own g c = own_same (g.W.Reads.space c.args.words.now) (g.W.Reads.space c.field-before.new.words) c.locate-place.result.at (c.field-before.ensures.same ∙ c.locate-place.ensures.same) (located_own (g.W.Reads.space c.args.words.now) c.args.root c.args.key c.locate-place.result.at c.locate-place.ensures.at c.if-place-eq0.false c.requires.map)

pub returns-in_err-set-clause-full : goal.returns-in_err-set-clause-full
returns-in_err-set-clause-full g c m h =
    let p = err_from_is_err_and c.from_residual-in_err-set.result c.from_residual-in_err-set.ensures.1 in
    full_never c.from_residual-in_err-set.result (g.W.Reads.space c.args.words.now).spare (needed c.args.key m) (no_memory_differs c.from_residual-in_err-set.result p.0 p.1 p.2) (needed_some (g.W.Reads.space c.args.words.now) c.args.root c.args.key c.locate-place.result.at c.locate-place.ensures.at c.if-place-eq0.false m h)

pub returns-clause-answer : goal.returns-clause-answer
returns-clause-answer g c m h = ap Some (c.field-before.ensures.value ∙ ap (λ (y : Space). y.word (c.locate-place.result.at + 2)) c.locate-place.ensures.same) ∙ value_some (g.W.Reads.space c.args.words.now) c.args.root c.args.key c.locate-place.result.at c.locate-place.ensures.at c.if-place-eq0.false m h

pub returns-clause-contents : goal.returns-clause-contents
returns-clause-contents g c = put_old-contents (g.W.Reads.space c.args.words.now) (g.W.Reads.space c.set.new.words) c.args.root c.args.key c.args.value c.locate-place.result.at c.locate-place.ensures.at c.if-place-eq0.false c.requires.value (c.in_ok-set.ensures ∙ ap (written (c.locate-place.result.at + 2) c.args.value) (c.field-before.ensures.same ∙ c.locate-place.ensures.same))

pub returns-clause-others : goal.returns-clause-others
returns-clause-others g c = put_old-others (g.W.Reads.space c.args.words.now) (g.W.Reads.space c.set.new.words) c.args.root c.args.key c.args.value c.locate-place.result.at c.locate-place.ensures.at c.if-place-eq0.false c.requires.value (c.in_ok-set.ensures ∙ ap (written (c.locate-place.result.at + 2) c.args.value) (c.field-before.ensures.same ∙ c.locate-place.ensures.same)) c.requires.map

pub returns-clause-writes : goal.returns-clause-writes
returns-clause-writes g c = put_old-writes (g.W.Reads.space c.args.words.now) (g.W.Reads.space c.set.new.words) c.args.root c.args.key c.args.value c.locate-place.result.at c.locate-place.ensures.at c.if-place-eq0.false c.requires.value (c.in_ok-set.ensures ∙ ap (written (c.locate-place.result.at + 2) c.args.value) (c.field-before.ensures.same ∙ c.locate-place.ensures.same))

pub returns-clause-blocks : goal.returns-clause-blocks
returns-clause-blocks g c = put_old-blocks (g.W.Reads.space c.args.words.now) (g.W.Reads.space c.set.new.words) c.args.root c.args.key c.args.value c.locate-place.result.at c.locate-place.ensures.at c.if-place-eq0.false c.requires.value (c.in_ok-set.ensures ∙ ap (written (c.locate-place.result.at + 2) c.args.value) (c.field-before.ensures.same ∙ c.locate-place.ensures.same))

pub returns-clause-full : goal.returns-clause-full
returns-clause-full g c m h = full_never (Ok (Some c.field-before.result)) (g.W.Reads.space c.args.words.now).spare (needed c.args.key m) (ok_differs (Some c.field-before.result)) (needed_some (g.W.Reads.space c.args.words.now) c.args.root c.args.key c.locate-place.result.at c.locate-place.ensures.at c.if-place-eq0.false m h)
