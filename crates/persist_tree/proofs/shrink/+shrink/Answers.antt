use Rattle.std.proofs.Common.{◌<◌, ◌+◌, ◌∙◌, ap, refl, rules, arith}
use Rattle.lane_traits.specs.Space.{Space}
use Rattle.std.proofs.lemmas.Result.{IfOk-weaker}
use Rattle.persist_tree.specs.Trees.{joined}
use Rattle.persist_tree.specs.Changes.{stored_height, Builds}
use Rattle.persist_tree.specs.Below.{Merges, Shrinks}
use Rattle.persist_tree.proofs.Turning.{parts_in}
use Rattle.persist_tree.proofs.Descending.{node_same, node_own, left_lower, right_lower, lower_here}
use Rattle.persist_tree.proofs.Growing.{builds_from}
use Rattle.persist_tree.proofs.Shrinking.{can_shrink-node, can_shrink_in, can_shrink_left, can_shrink_right, shrinks_in, can_merge_sides, can_merge_in, merges_in, shrinks_merged, shrink_left-parts, shrink_right-parts, shrink_left-shrinks, shrink_right-shrinks}
use Rattle.persist_tree.proofs.shrink.+shrink.Goals as goal

pub field-here-requires-clause-own : goal.field-here-requires-clause-own
field-here-requires-clause-own g t c =
    let n = can_shrink-node (g.W.Reads.space c.args.words.now) c.args.at c.args.key c.requires in
    let above = n.stands.own.0.0.positive in
    node_own (g.W.Reads.space c.args.words.now) c.args.at n

pub sides_of-sides-requires : goal.sides_of-sides-requires
sides_of-sides-requires g t c =
    let n = can_shrink-node (g.W.Reads.space c.args.words.now) c.args.at c.args.key c.requires in
    let above = n.stands.own.0.0.positive in
    let e1 = c.field-here.ensures.same in
    let here = c.field-here.ensures.value in
    node_same (g.W.Reads.space c.args.words.now) (g.W.Reads.space c.field-here.new.words) c.args.at c.args.at e1 refl n

pub merge-requires : goal.merge-requires
merge-requires g t c =
    let n = can_shrink-node (g.W.Reads.space c.args.words.now) c.args.at c.args.key c.requires in
    let above = n.stands.own.0.0.positive in
    let e1 = c.field-here.ensures.same in
    let here = c.field-here.ensures.value in
    let e2 = c.sides_of-sides.ensures.same ∙ e1 in
    let left_is = c.sides_of-sides.ensures.left ∙ ap (λ (y : Space). y.word (c.args.at + 3)) e1 in
    let right_is = c.sides_of-sides.ensures.right ∙ ap (λ (y : Space). y.word (c.args.at + 4)) e1 in
    can_merge_in (g.W.Reads.space c.args.words.now) (g.W.Reads.space c.sides_of-sides.new.words) ((g.W.Reads.space c.args.words.now).word (c.args.at + 3)) ((g.W.Reads.space c.args.words.now).word (c.args.at + 4)) c.sides_of-sides.result.left c.sides_of-sides.result.right e2 left_is right_is (can_merge_sides (g.W.Reads.space c.args.words.now) c.args.at c.args.key above c.requires)

pub returns-then-key-here : goal.returns-then-key-here
returns-then-key-here g t c =
    let n = can_shrink-node (g.W.Reads.space c.args.words.now) c.args.at c.args.key c.requires in
    let above = n.stands.own.0.0.positive in
    let e1 = c.field-here.ensures.same in
    let here = c.field-here.ensures.value in
    let e2 = c.sides_of-sides.ensures.same ∙ e1 in
    let left_is = c.sides_of-sides.ensures.left ∙ ap (λ (y : Space). y.word (c.args.at + 3)) e1 in
    let right_is = c.sides_of-sides.ensures.right ∙ ap (λ (y : Space). y.word (c.args.at + 4)) e1 in
    IfOk-weaker c.merge.result (λ link. Merges (g.W.Reads.space c.sides_of-sides.new.words) (g.W.Reads.space c.merge.new.words) c.sides_of-sides.result.left c.sides_of-sides.result.right link) (λ link. Shrinks (g.W.Reads.space c.args.words.now) (g.W.Reads.space c.merge.new.words) c.args.at c.args.key link)
    (λ link merges. shrinks_merged (g.W.Reads.space c.args.words.now) (g.W.Reads.space c.merge.new.words) c.args.at c.args.key link above (c.if-key-here.true ∙ here)
    (merges_in (g.W.Reads.space c.args.words.now) (g.W.Reads.space c.sides_of-sides.new.words) (g.W.Reads.space c.merge.new.words) ((g.W.Reads.space c.args.words.now).word (c.args.at + 3)) ((g.W.Reads.space c.args.words.now).word (c.args.at + 4)) c.sides_of-sides.result.left c.sides_of-sides.result.right link e2 left_is right_is merges))
    c.merge.ensures

pub shrink-requires : goal.shrink-requires
shrink-requires g t c κs within =
    let n = can_shrink-node (g.W.Reads.space c.args.words.now) c.args.at c.args.key c.requires in
    let above = n.stands.own.0.0.positive in
    let e1 = c.field-here.ensures.same in
    let here = c.field-here.ensures.value in
    let e2 = c.sides_of-sides.ensures.same ∙ e1 in
    let left_is = c.sides_of-sides.ensures.left ∙ ap (λ (y : Space). y.word (c.args.at + 3)) e1 in
    let right_is = c.sides_of-sides.ensures.right ∙ ap (λ (y : Space). y.word (c.args.at + 4)) e1 in
    let less = c.if-key-here-2.true in
    let under : c.args.key < (g.W.Reads.space c.args.words.now).word (c.args.at + 1) = omega (arith, less, here) in
    let can = can_shrink_in (g.W.Reads.space c.args.words.now) (g.W.Reads.space c.sides_of-sides.new.words) ((g.W.Reads.space c.args.words.now).word (c.args.at + 3)) c.sides_of-sides.result.left c.args.key e2 left_is (can_shrink_left (g.W.Reads.space c.args.words.now) c.args.at c.args.key above under c.requires) in
    let lower = lower_here (g.W.Reads.space c.args.words.now) (g.W.Reads.space c.sides_of-sides.new.words) ((g.W.Reads.space c.args.words.now).word (c.args.at + 3)) c.sides_of-sides.result.left (stored_height (g.W.Reads.space c.args.words.now).word c.args.at) e2 left_is (left_lower (g.W.Reads.space c.args.words.now) c.args.at n) in
    search (rules, can, lower)

pub shrink-requires-2 : goal.shrink-requires-2
shrink-requires-2 g t c κs within =
    let n = can_shrink-node (g.W.Reads.space c.args.words.now) c.args.at c.args.key c.requires in
    let above = n.stands.own.0.0.positive in
    let e1 = c.field-here.ensures.same in
    let here = c.field-here.ensures.value in
    let e2 = c.sides_of-sides.ensures.same ∙ e1 in
    let left_is = c.sides_of-sides.ensures.left ∙ ap (λ (y : Space). y.word (c.args.at + 3)) e1 in
    let right_is = c.sides_of-sides.ensures.right ∙ ap (λ (y : Space). y.word (c.args.at + 4)) e1 in
    let apart = c.if-key-here.false in
    let more = c.if-key-here-2.false in
    let over : (g.W.Reads.space c.args.words.now).word (c.args.at + 1) < c.args.key = omega (arith, apart, more, here) in
    let can = can_shrink_in (g.W.Reads.space c.args.words.now) (g.W.Reads.space c.sides_of-sides.new.words) ((g.W.Reads.space c.args.words.now).word (c.args.at + 4)) c.sides_of-sides.result.right c.args.key e2 right_is (can_shrink_right (g.W.Reads.space c.args.words.now) c.args.at c.args.key above over c.requires) in
    let lower = lower_here (g.W.Reads.space c.args.words.now) (g.W.Reads.space c.sides_of-sides.new.words) ((g.W.Reads.space c.args.words.now).word (c.args.at + 4)) c.sides_of-sides.result.right (stored_height (g.W.Reads.space c.args.words.now).word c.args.at) e2 right_is (right_lower (g.W.Reads.space c.args.words.now) c.args.at n) in
    search (rules, can, lower)

pub join-requires : goal.join-requires
join-requires g t c =
    let n = can_shrink-node (g.W.Reads.space c.args.words.now) c.args.at c.args.key c.requires in
    let above = n.stands.own.0.0.positive in
    let e1 = c.field-here.ensures.same in
    let here = c.field-here.ensures.value in
    let e2 = c.sides_of-sides.ensures.same ∙ e1 in
    let left_is = c.sides_of-sides.ensures.left ∙ ap (λ (y : Space). y.word (c.args.at + 3)) e1 in
    let right_is = c.sides_of-sides.ensures.right ∙ ap (λ (y : Space). y.word (c.args.at + 4)) e1 in
    let shrinks = shrinks_in (g.W.Reads.space c.args.words.now) (g.W.Reads.space c.sides_of-sides.new.words) (g.W.Reads.space c.shrink.new.words) ((g.W.Reads.space c.args.words.now).word (c.args.at + 3)) c.sides_of-sides.result.left c.args.key c.in_ok-left.left e2 left_is c.in_ok-left.ensures in
    let less = c.if-key-here-2.true in
    let under : c.args.key < (g.W.Reads.space c.args.words.now).word (c.args.at + 1) = omega (arith, less, here) in
    parts_in (g.W.Reads.space c.shrink.new.words) (g.W.Reads.space c.shrink.new.words) c.args.at c.in_ok-left.left ((g.W.Reads.space c.args.words.now).word (c.args.at + 4)) c.in_ok-left.left c.sides_of-sides.result.right refl refl right_is
    (shrink_left-parts (g.W.Reads.space c.args.words.now) (g.W.Reads.space c.shrink.new.words) c.args.at c.args.key c.in_ok-left.left above c.requires under shrinks)

pub join-requires-2 : goal.join-requires-2
join-requires-2 g t c =
    let n = can_shrink-node (g.W.Reads.space c.args.words.now) c.args.at c.args.key c.requires in
    let above = n.stands.own.0.0.positive in
    let e1 = c.field-here.ensures.same in
    let here = c.field-here.ensures.value in
    let e2 = c.sides_of-sides.ensures.same ∙ e1 in
    let left_is = c.sides_of-sides.ensures.left ∙ ap (λ (y : Space). y.word (c.args.at + 3)) e1 in
    let right_is = c.sides_of-sides.ensures.right ∙ ap (λ (y : Space). y.word (c.args.at + 4)) e1 in
    let shrinks = shrinks_in (g.W.Reads.space c.args.words.now) (g.W.Reads.space c.sides_of-sides.new.words) (g.W.Reads.space c.shrink-2.new.words) ((g.W.Reads.space c.args.words.now).word (c.args.at + 4)) c.sides_of-sides.result.right c.args.key c.in_ok-right.right e2 right_is c.in_ok-right.ensures in
    let apart = c.if-key-here.false in
    let more = c.if-key-here-2.false in
    let over : (g.W.Reads.space c.args.words.now).word (c.args.at + 1) < c.args.key = omega (arith, apart, more, here) in
    parts_in (g.W.Reads.space c.shrink-2.new.words) (g.W.Reads.space c.shrink-2.new.words) c.args.at ((g.W.Reads.space c.args.words.now).word (c.args.at + 3)) c.in_ok-right.right c.sides_of-sides.result.left c.in_ok-right.right refl left_is refl
    (shrink_right-parts (g.W.Reads.space c.args.words.now) (g.W.Reads.space c.shrink-2.new.words) c.args.at c.args.key c.in_ok-right.right above c.requires over shrinks)

pub returns-then-key-here-2 : goal.returns-then-key-here-2
returns-then-key-here-2 g t c =
    let n = can_shrink-node (g.W.Reads.space c.args.words.now) c.args.at c.args.key c.requires in
    let above = n.stands.own.0.0.positive in
    let e1 = c.field-here.ensures.same in
    let here = c.field-here.ensures.value in
    let e2 = c.sides_of-sides.ensures.same ∙ e1 in
    let left_is = c.sides_of-sides.ensures.left ∙ ap (λ (y : Space). y.word (c.args.at + 3)) e1 in
    let right_is = c.sides_of-sides.ensures.right ∙ ap (λ (y : Space). y.word (c.args.at + 4)) e1 in
    let shrinks = shrinks_in (g.W.Reads.space c.args.words.now) (g.W.Reads.space c.sides_of-sides.new.words) (g.W.Reads.space c.shrink.new.words) ((g.W.Reads.space c.args.words.now).word (c.args.at + 3)) c.sides_of-sides.result.left c.args.key c.in_ok-left.left e2 left_is c.in_ok-left.ensures in
    let less = c.if-key-here-2.true in
    let under : c.args.key < (g.W.Reads.space c.args.words.now).word (c.args.at + 1) = omega (arith, less, here) in
    IfOk-weaker c.join.result (λ top. Builds joined 9 (g.W.Reads.space c.shrink.new.words) (g.W.Reads.space c.join.new.words) c.args.at c.in_ok-left.left c.sides_of-sides.result.right top) (λ top. Shrinks (g.W.Reads.space c.args.words.now) (g.W.Reads.space c.join.new.words) c.args.at c.args.key top)
    (λ top builds. shrink_left-shrinks (g.W.Reads.space c.args.words.now) (g.W.Reads.space c.shrink.new.words) c.args.at c.args.key c.in_ok-left.left (g.W.Reads.space c.join.new.words) top above under shrinks
    (builds_from joined 9 (g.W.Reads.space c.shrink.new.words) (g.W.Reads.space c.join.new.words) c.args.at c.in_ok-left.left ((g.W.Reads.space c.args.words.now).word (c.args.at + 4)) c.in_ok-left.left c.sides_of-sides.result.right top refl right_is builds))
    c.join.ensures

pub returns : goal.returns
returns g t c =
    let n = can_shrink-node (g.W.Reads.space c.args.words.now) c.args.at c.args.key c.requires in
    let above = n.stands.own.0.0.positive in
    let e1 = c.field-here.ensures.same in
    let here = c.field-here.ensures.value in
    let e2 = c.sides_of-sides.ensures.same ∙ e1 in
    let left_is = c.sides_of-sides.ensures.left ∙ ap (λ (y : Space). y.word (c.args.at + 3)) e1 in
    let right_is = c.sides_of-sides.ensures.right ∙ ap (λ (y : Space). y.word (c.args.at + 4)) e1 in
    let shrinks = shrinks_in (g.W.Reads.space c.args.words.now) (g.W.Reads.space c.sides_of-sides.new.words) (g.W.Reads.space c.shrink-2.new.words) ((g.W.Reads.space c.args.words.now).word (c.args.at + 4)) c.sides_of-sides.result.right c.args.key c.in_ok-right.right e2 right_is c.in_ok-right.ensures in
    let apart = c.if-key-here.false in
    let more = c.if-key-here-2.false in
    let over : (g.W.Reads.space c.args.words.now).word (c.args.at + 1) < c.args.key = omega (arith, apart, more, here) in
    IfOk-weaker c.join-2.result (λ top. Builds joined 9 (g.W.Reads.space c.shrink-2.new.words) (g.W.Reads.space c.join-2.new.words) c.args.at c.sides_of-sides.result.left c.in_ok-right.right top) (λ top. Shrinks (g.W.Reads.space c.args.words.now) (g.W.Reads.space c.join-2.new.words) c.args.at c.args.key top)
    (λ top builds. shrink_right-shrinks (g.W.Reads.space c.args.words.now) (g.W.Reads.space c.shrink-2.new.words) c.args.at c.args.key c.in_ok-right.right (g.W.Reads.space c.join-2.new.words) top above over shrinks
    (builds_from joined 9 (g.W.Reads.space c.shrink-2.new.words) (g.W.Reads.space c.join-2.new.words) c.args.at ((g.W.Reads.space c.args.words.now).word (c.args.at + 3)) c.in_ok-right.right c.sides_of-sides.result.left c.in_ok-right.right top left_is refl builds))
    c.join-2.ensures
