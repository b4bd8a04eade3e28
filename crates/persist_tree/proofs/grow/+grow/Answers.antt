use Rattle.std.proofs.Common.{◌<◌, ◌+◌, ◌∙◌, ap, refl, rules, arith}
use Rattle.lane_traits.specs.Space.{Space}
use Rattle.std.proofs.lemmas.Result.{IfOk-weaker}
use Rattle.persist_tree.specs.Trees.{joined}
use Rattle.persist_tree.specs.Changes.{stored_height, Builds}
use Rattle.persist_tree.specs.Below.{Grows}
use Rattle.persist_tree.proofs.Turning.{has_node, parts_in}
use Rattle.persist_tree.proofs.Descending.{node_same, node_own, left_lower, right_lower, lower_here}
use Rattle.persist_tree.proofs.Growing.{grows_in, can_grow_in, grows_leaf, can_grow_left, can_grow_right, grow_left-parts, grow_right-parts, grow_left-grows, grow_right-grows, builds_from}
use Rattle.persist_tree.proofs.grow.+grow.Goals as goal

pub place-requires : goal.place-requires
place-requires g t c = c.requires.is.own

pub returns-then-at-eq0 : goal.returns-then-at-eq0
returns-then-at-eq0 g t c = grows_leaf (g.W.Reads.space c.args.words.now) (g.W.Reads.space c.place.new.words) c.args.at c.args.fresh c.args.key c.args.value c.if-at-eq0.true c.in_ok-place.ensures

pub field-here-requires-clause-own : goal.field-here-requires-clause-own
field-here-requires-clause-own g t c =
    let off = c.if-at-eq0.false in
    let above : 0 < c.args.at = omega (arith, off) in
    let n = has_node (g.W.Reads.space c.args.words.now) c.args.at (record { tree = c.requires.tree; stands = c.requires.is.stands }) above in
    node_own (g.W.Reads.space c.args.words.now) c.args.at n

pub sides_of-sides-requires : goal.sides_of-sides-requires
sides_of-sides-requires g t c =
    let off = c.if-at-eq0.false in
    let above : 0 < c.args.at = omega (arith, off) in
    let n = has_node (g.W.Reads.space c.args.words.now) c.args.at (record { tree = c.requires.tree; stands = c.requires.is.stands }) above in
    let e1 = c.field-here.ensures.same in
    let here = c.field-here.ensures.value in
    node_same (g.W.Reads.space c.args.words.now) (g.W.Reads.space c.field-here.new.words) c.args.at c.args.at e1 refl n

pub grow-requires : goal.grow-requires
grow-requires g t c κs within =
    let off = c.if-at-eq0.false in
    let above : 0 < c.args.at = omega (arith, off) in
    let n = has_node (g.W.Reads.space c.args.words.now) c.args.at (record { tree = c.requires.tree; stands = c.requires.is.stands }) above in
    let e1 = c.field-here.ensures.same in
    let here = c.field-here.ensures.value in
    let e2 = c.sides_of-sides.ensures.same ∙ e1 in
    let left_is = c.sides_of-sides.ensures.left ∙ ap (λ (y : Space). y.word (c.args.at + 3)) e1 in
    let right_is = c.sides_of-sides.ensures.right ∙ ap (λ (y : Space). y.word (c.args.at + 4)) e1 in
    let can = can_grow_in (g.W.Reads.space c.args.words.now) (g.W.Reads.space c.sides_of-sides.new.words) ((g.W.Reads.space c.args.words.now).word (c.args.at + 3)) c.sides_of-sides.result.left c.args.fresh c.args.key e2 left_is (can_grow_left (g.W.Reads.space c.args.words.now) c.args.at c.args.fresh c.args.key above c.requires) in
    let lower = lower_here (g.W.Reads.space c.args.words.now) (g.W.Reads.space c.sides_of-sides.new.words) ((g.W.Reads.space c.args.words.now).word (c.args.at + 3)) c.sides_of-sides.result.left (stored_height (g.W.Reads.space c.args.words.now).word c.args.at) e2 left_is (left_lower (g.W.Reads.space c.args.words.now) c.args.at n) in
    search (rules, can, lower)

pub grow-requires-2 : goal.grow-requires-2
grow-requires-2 g t c κs within =
    let off = c.if-at-eq0.false in
    let above : 0 < c.args.at = omega (arith, off) in
    let n = has_node (g.W.Reads.space c.args.words.now) c.args.at (record { tree = c.requires.tree; stands = c.requires.is.stands }) above in
    let e1 = c.field-here.ensures.same in
    let here = c.field-here.ensures.value in
    let e2 = c.sides_of-sides.ensures.same ∙ e1 in
    let left_is = c.sides_of-sides.ensures.left ∙ ap (λ (y : Space). y.word (c.args.at + 3)) e1 in
    let right_is = c.sides_of-sides.ensures.right ∙ ap (λ (y : Space). y.word (c.args.at + 4)) e1 in
    let can = can_grow_in (g.W.Reads.space c.args.words.now) (g.W.Reads.space c.sides_of-sides.new.words) ((g.W.Reads.space c.args.words.now).word (c.args.at + 4)) c.sides_of-sides.result.right c.args.fresh c.args.key e2 right_is (can_grow_right (g.W.Reads.space c.args.words.now) c.args.at c.args.fresh c.args.key above c.requires) in
    let lower = lower_here (g.W.Reads.space c.args.words.now) (g.W.Reads.space c.sides_of-sides.new.words) ((g.W.Reads.space c.args.words.now).word (c.args.at + 4)) c.sides_of-sides.result.right (stored_height (g.W.Reads.space c.args.words.now).word c.args.at) e2 right_is (right_lower (g.W.Reads.space c.args.words.now) c.args.at n) in
    search (rules, can, lower)

pub join-requires : goal.join-requires
join-requires g t c =
    let off = c.if-at-eq0.false in
    let above : 0 < c.args.at = omega (arith, off) in
    let e1 = c.field-here.ensures.same in
    let here = c.field-here.ensures.value in
    let e2 = c.sides_of-sides.ensures.same ∙ e1 in
    let left_is = c.sides_of-sides.ensures.left ∙ ap (λ (y : Space). y.word (c.args.at + 3)) e1 in
    let right_is = c.sides_of-sides.ensures.right ∙ ap (λ (y : Space). y.word (c.args.at + 4)) e1 in
    let grows = grows_in (g.W.Reads.space c.args.words.now) (g.W.Reads.space c.sides_of-sides.new.words) (g.W.Reads.space c.grow.new.words) ((g.W.Reads.space c.args.words.now).word (c.args.at + 3)) c.sides_of-sides.result.left c.args.fresh c.args.key c.args.value c.in_ok-left.left e2 left_is c.in_ok-left.ensures in
    let less = c.if-key-here.true in
    parts_in (g.W.Reads.space c.grow.new.words) (g.W.Reads.space c.grow.new.words) c.args.at c.in_ok-left.left ((g.W.Reads.space c.args.words.now).word (c.args.at + 4)) c.in_ok-left.left c.sides_of-sides.result.right refl refl right_is
    (grow_left-parts (g.W.Reads.space c.args.words.now) (g.W.Reads.space c.grow.new.words) c.args.at c.args.fresh c.args.key c.args.value c.in_ok-left.left above c.requires (omega (arith, less, here)) grows)

pub join-requires-2 : goal.join-requires-2
join-requires-2 g t c =
    let off = c.if-at-eq0.false in
    let above : 0 < c.args.at = omega (arith, off) in
    let e1 = c.field-here.ensures.same in
    let here = c.field-here.ensures.value in
    let e2 = c.sides_of-sides.ensures.same ∙ e1 in
    let left_is = c.sides_of-sides.ensures.left ∙ ap (λ (y : Space). y.word (c.args.at + 3)) e1 in
    let right_is = c.sides_of-sides.ensures.right ∙ ap (λ (y : Space). y.word (c.args.at + 4)) e1 in
    let grows = grows_in (g.W.Reads.space c.args.words.now) (g.W.Reads.space c.sides_of-sides.new.words) (g.W.Reads.space c.grow-2.new.words) ((g.W.Reads.space c.args.words.now).word (c.args.at + 4)) c.sides_of-sides.result.right c.args.fresh c.args.key c.args.value c.in_ok-right.right e2 right_is c.in_ok-right.ensures in
    let more = c.if-key-here.false in
    parts_in (g.W.Reads.space c.grow-2.new.words) (g.W.Reads.space c.grow-2.new.words) c.args.at ((g.W.Reads.space c.args.words.now).word (c.args.at + 3)) c.in_ok-right.right c.sides_of-sides.result.left c.in_ok-right.right refl left_is refl
    (grow_right-parts (g.W.Reads.space c.args.words.now) (g.W.Reads.space c.grow-2.new.words) c.args.at c.args.fresh c.args.key c.args.value c.in_ok-right.right above c.requires (omega (arith, more, here)) grows)

pub returns-then-key-here : goal.returns-then-key-here
returns-then-key-here g t c =
    let off = c.if-at-eq0.false in
    let above : 0 < c.args.at = omega (arith, off) in
    let e1 = c.field-here.ensures.same in
    let here = c.field-here.ensures.value in
    let e2 = c.sides_of-sides.ensures.same ∙ e1 in
    let left_is = c.sides_of-sides.ensures.left ∙ ap (λ (y : Space). y.word (c.args.at + 3)) e1 in
    let right_is = c.sides_of-sides.ensures.right ∙ ap (λ (y : Space). y.word (c.args.at + 4)) e1 in
    let grows = grows_in (g.W.Reads.space c.args.words.now) (g.W.Reads.space c.sides_of-sides.new.words) (g.W.Reads.space c.grow.new.words) ((g.W.Reads.space c.args.words.now).word (c.args.at + 3)) c.sides_of-sides.result.left c.args.fresh c.args.key c.args.value c.in_ok-left.left e2 left_is c.in_ok-left.ensures in
    let less = c.if-key-here.true in
    IfOk-weaker c.join.result (λ top. Builds joined 9 (g.W.Reads.space c.grow.new.words) (g.W.Reads.space c.join.new.words) c.args.at c.in_ok-left.left c.sides_of-sides.result.right top) (λ top. Grows (g.W.Reads.space c.args.words.now) (g.W.Reads.space c.join.new.words) c.args.at c.args.fresh c.args.key c.args.value top)
    (λ top builds. grow_left-grows (g.W.Reads.space c.args.words.now) (g.W.Reads.space c.grow.new.words) c.args.at c.args.fresh c.args.key c.args.value c.in_ok-left.left (g.W.Reads.space c.join.new.words) top above (omega (arith, less, here)) grows
    (builds_from joined 9 (g.W.Reads.space c.grow.new.words) (g.W.Reads.space c.join.new.words) c.args.at c.in_ok-left.left ((g.W.Reads.space c.args.words.now).word (c.args.at + 4)) c.in_ok-left.left c.sides_of-sides.result.right top refl right_is builds))
    c.join.ensures

pub returns : goal.returns
returns g t c =
    let off = c.if-at-eq0.false in
    let above : 0 < c.args.at = omega (arith, off) in
    let e1 = c.field-here.ensures.same in
    let here = c.field-here.ensures.value in
    let e2 = c.sides_of-sides.ensures.same ∙ e1 in
    let left_is = c.sides_of-sides.ensures.left ∙ ap (λ (y : Space). y.word (c.args.at + 3)) e1 in
    let right_is = c.sides_of-sides.ensures.right ∙ ap (λ (y : Space). y.word (c.args.at + 4)) e1 in
    let grows = grows_in (g.W.Reads.space c.args.words.now) (g.W.Reads.space c.sides_of-sides.new.words) (g.W.Reads.space c.grow-2.new.words) ((g.W.Reads.space c.args.words.now).word (c.args.at + 4)) c.sides_of-sides.result.right c.args.fresh c.args.key c.args.value c.in_ok-right.right e2 right_is c.in_ok-right.ensures in
    let more = c.if-key-here.false in
    IfOk-weaker c.join-2.result (λ top. Builds joined 9 (g.W.Reads.space c.grow-2.new.words) (g.W.Reads.space c.join-2.new.words) c.args.at c.sides_of-sides.result.left c.in_ok-right.right top) (λ top. Grows (g.W.Reads.space c.args.words.now) (g.W.Reads.space c.join-2.new.words) c.args.at c.args.fresh c.args.key c.args.value top)
    (λ top builds. grow_right-grows (g.W.Reads.space c.args.words.now) (g.W.Reads.space c.grow-2.new.words) c.args.at c.args.fresh c.args.key c.args.value c.in_ok-right.right (g.W.Reads.space c.join-2.new.words) top above (omega (arith, more, here)) grows
    (builds_from joined 9 (g.W.Reads.space c.grow-2.new.words) (g.W.Reads.space c.join-2.new.words) c.args.at ((g.W.Reads.space c.args.words.now).word (c.args.at + 3)) c.in_ok-right.right c.sides_of-sides.result.left c.in_ok-right.right top left_is refl builds))
    c.join-2.ensures
