use Rattle.std.proofs.Common.{◌+◌, ◌∙◌, refl, arith}
use Rattle.persist_tree.proofs.Turning.{tree_in, parts_in, hangs_in, node_at, on_left, on_right, has_node}
use Rattle.persist_tree.proofs.Building.{heights_in, turn_left-first, turn_left-second, turn_left-builds, lowered_right-twice, lowered_right-once, builds_all, builds_in}
use Rattle.persist_tree.specs.Trees.{turned_twice_left, lowered_right}
use Rattle.persist_tree.proofs.turn.lower_right.Goals as goal

pub sides_of-child-requires : goal.sides_of-child-requires
sides_of-child-requires g c = has_node (g.W.Reads.space c.args.words.now) c.args.right (record { tree = c.requires.parts.r; stands = c.requires.parts.are.on_right }) c.requires.child

pub height_at-outer-requires : goal.height_at-outer-requires
height_at-outer-requires g c =
    let e1 = c.sides_of-child.ensures.same in
    let outer_is = c.sides_of-child.ensures.right in
    let inner_is = c.sides_of-child.ensures.left in
    let n = node_at (g.W.Reads.space c.args.words.now) c.args.right c.requires.parts.r c.requires.parts.are.on_right c.requires.child in
    tree_in (g.W.Reads.space c.args.words.now) (g.W.Reads.space c.sides_of-child.new.words) ((g.W.Reads.space c.args.words.now).word (c.args.right + 4)) c.sides_of-child.result.right n.r e1 outer_is (on_right (g.W.Reads.space c.args.words.now) c.args.right c.args.right n.k n.v n.l n.r n.stands)

pub height_at-inner-requires : goal.height_at-inner-requires
height_at-inner-requires g c =
    let e1 = c.sides_of-child.ensures.same in
    let outer_is = c.sides_of-child.ensures.right in
    let inner_is = c.sides_of-child.ensures.left in
    let e2 = c.height_at-outer.ensures.same ∙ e1 in
    let n = node_at (g.W.Reads.space c.args.words.now) c.args.right c.requires.parts.r c.requires.parts.are.on_right c.requires.child in
    tree_in (g.W.Reads.space c.args.words.now) (g.W.Reads.space c.height_at-outer.new.words) ((g.W.Reads.space c.args.words.now).word (c.args.right + 3)) c.sides_of-child.result.left n.l e2 inner_is (on_left (g.W.Reads.space c.args.words.now) c.args.right c.args.right n.k n.v n.l n.r n.stands)

pub hang-requires : goal.hang-requires
hang-requires g c =
    let e1 = c.sides_of-child.ensures.same in
    let outer_is = c.sides_of-child.ensures.right in
    let inner_is = c.sides_of-child.ensures.left in
    let e2 = c.height_at-outer.ensures.same ∙ e1 in
    let e3 = c.height_at-inner.ensures.same ∙ e2 in
    parts_in (g.W.Reads.space c.args.words.now) (g.W.Reads.space c.height_at-inner.new.words) c.args.at c.args.left ((g.W.Reads.space c.args.words.now).word (c.args.right + 3)) c.args.left c.sides_of-child.result.left e3 refl inner_is (turn_left-first (g.W.Reads.space c.args.words.now) c.args.at c.args.left c.args.right c.requires.child c.requires.parts)

pub hang-requires-2 : goal.hang-requires-2
hang-requires-2 g c =
    let e1 = c.sides_of-child.ensures.same in
    let outer_is = c.sides_of-child.ensures.right in
    let inner_is = c.sides_of-child.ensures.left in
    let e2 = c.height_at-outer.ensures.same ∙ e1 in
    let e3 = c.height_at-inner.ensures.same ∙ e2 in
    let hang_1 = hangs_in (g.W.Reads.space c.args.words.now) (g.W.Reads.space c.height_at-inner.new.words) (g.W.Reads.space c.hang.new.words) c.args.at c.args.left ((g.W.Reads.space c.args.words.now).word (c.args.right + 3)) c.args.left c.sides_of-child.result.left e3 refl inner_is c.in_ok-hang.ensures in
    parts_in (g.W.Reads.space c.hang.new.words) (g.W.Reads.space c.hang.new.words) c.args.right c.args.at ((g.W.Reads.space c.args.words.now).word (c.args.right + 4)) c.args.at c.sides_of-child.result.right refl refl outer_is (turn_left-second (g.W.Reads.space c.args.words.now) c.args.at c.args.left c.args.right c.requires.child (g.W.Reads.space c.hang.new.words) c.requires.parts hang_1)

pub returns : goal.returns
returns g c =
    let e1 = c.sides_of-child.ensures.same in
    let outer_is = c.sides_of-child.ensures.right in
    let inner_is = c.sides_of-child.ensures.left in
    let e2 = c.height_at-outer.ensures.same ∙ e1 in
    let e3 = c.height_at-inner.ensures.same ∙ e2 in
    let hang_1 = hangs_in (g.W.Reads.space c.args.words.now) (g.W.Reads.space c.height_at-inner.new.words) (g.W.Reads.space c.hang.new.words) c.args.at c.args.left ((g.W.Reads.space c.args.words.now).word (c.args.right + 3)) c.args.left c.sides_of-child.result.left e3 refl inner_is c.in_ok-hang.ensures in
    let hang_2 = hangs_in (g.W.Reads.space c.hang.new.words) (g.W.Reads.space c.hang.new.words) (g.W.Reads.space c.hang-2.new.words) c.args.right c.args.at ((g.W.Reads.space c.args.words.now).word (c.args.right + 4)) c.args.at c.sides_of-child.result.right refl refl outer_is c.in_ok-hang-2.ensures in
    let outer = heights_in (g.W.Reads.space c.args.words.now) (g.W.Reads.space c.sides_of-child.new.words) ((g.W.Reads.space c.args.words.now).word (c.args.right + 4)) c.sides_of-child.result.right c.height_at-outer.result e1 outer_is c.height_at-outer.ensures.value in
    let inner = heights_in (g.W.Reads.space c.args.words.now) (g.W.Reads.space c.height_at-outer.new.words) ((g.W.Reads.space c.args.words.now).word (c.args.right + 3)) c.sides_of-child.result.left c.height_at-inner.result e2 inner_is c.height_at-inner.ensures.value in
    let most = c.if-outer-inner.false in
    lowered_right-once (g.W.Reads.space c.args.words.now) (g.W.Reads.space c.hang-2.new.words) c.args.at c.args.left c.args.right c.args.right c.requires.child (omega (arith, outer, inner, most))
    (turn_left-builds (g.W.Reads.space c.args.words.now) c.args.at c.args.left c.args.right c.requires.child (g.W.Reads.space c.hang.new.words) (g.W.Reads.space c.hang-2.new.words) hang_1 hang_2)

pub returns-then-outer-inner : goal.returns-then-outer-inner
returns-then-outer-inner g c =
    let e1 = c.sides_of-child.ensures.same in
    let outer_is = c.sides_of-child.ensures.right in
    let inner_is = c.sides_of-child.ensures.left in
    let e2 = c.height_at-outer.ensures.same ∙ e1 in
    let e3 = c.height_at-inner.ensures.same ∙ e2 in
    let outer = heights_in (g.W.Reads.space c.args.words.now) (g.W.Reads.space c.sides_of-child.new.words) ((g.W.Reads.space c.args.words.now).word (c.args.right + 4)) c.sides_of-child.result.right c.height_at-outer.result e1 outer_is c.height_at-outer.ensures.value in
    let inner = heights_in (g.W.Reads.space c.args.words.now) (g.W.Reads.space c.height_at-outer.new.words) ((g.W.Reads.space c.args.words.now).word (c.args.right + 3)) c.sides_of-child.result.left c.height_at-inner.result e2 inner_is c.height_at-inner.ensures.value in
    let less = c.if-outer-inner.true in
    builds_all turned_twice_left lowered_right 9 (g.W.Reads.space c.args.words.now) (g.W.Reads.space c.height_at-inner.new.words) (g.W.Reads.space c.turn_twice_left.new.words) c.args.at c.args.left c.args.right c.turn_twice_left.result
    (λ link builds. lowered_right-twice (g.W.Reads.space c.args.words.now) (g.W.Reads.space c.turn_twice_left.new.words) c.args.at c.args.left c.args.right link c.requires.child (omega (arith, outer, inner, less)) (builds_in turned_twice_left 9 (g.W.Reads.space c.args.words.now) (g.W.Reads.space c.height_at-inner.new.words) (g.W.Reads.space c.turn_twice_left.new.words) c.args.at c.args.left c.args.right link e3 builds))
    c.turn_twice_left.ensures
