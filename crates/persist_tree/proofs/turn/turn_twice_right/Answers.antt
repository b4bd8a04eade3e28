use Rattle.std.proofs.Common.{◌<◌, ◌+◌, ◌∙◌, ap, refl, sym, subst}
use Rattle.lane_traits.specs.Space.{Space}
use Rattle.persist_tree.proofs.Turning.{tree_in, parts_in, hangs_in, node_at, on_right, has_node}
use Rattle.persist_tree.proofs.Building.{turn_twice_right-first, turn_twice_right-second, turn_twice_right-third, turn_twice_right-builds}
use Rattle.persist_tree.proofs.turn.turn_twice_right.Goals as goal

pub sides_of-child-requires : goal.sides_of-child-requires
sides_of-child-requires g c = has_node (g.W.Reads.space c.args.words.now) c.args.left (record { tree = c.requires.turn.parts.l; stands = c.requires.turn.parts.are.on_left }) c.requires.turn.child

pub sides_of-inner-requires : goal.sides_of-inner-requires
sides_of-inner-requires g c =
    let e1 = c.sides_of-child.ensures.same in
    let outer_is = c.sides_of-child.ensures.left in
    let inner_is = c.sides_of-child.ensures.right in
    let above = subst (λ x. 0 < x) (sym inner_is) c.requires.inner in
    let n = node_at (g.W.Reads.space c.args.words.now) c.args.left c.requires.turn.parts.l c.requires.turn.parts.are.on_left c.requires.turn.child in
    has_node (g.W.Reads.space c.sides_of-child.new.words) c.sides_of-child.result.right (tree_in (g.W.Reads.space c.args.words.now) (g.W.Reads.space c.sides_of-child.new.words) ((g.W.Reads.space c.args.words.now).word (c.args.left + 4)) c.sides_of-child.result.right n.r e1 inner_is (on_right (g.W.Reads.space c.args.words.now) c.args.left c.args.left n.k n.v n.l n.r n.stands)) above

pub hang-requires : goal.hang-requires
hang-requires g c =
    let e1 = c.sides_of-child.ensures.same in
    let outer_is = c.sides_of-child.ensures.left in
    let inner_is = c.sides_of-child.ensures.right in
    let above = subst (λ x. 0 < x) (sym inner_is) c.requires.inner in
    let e2 = c.sides_of-inner.ensures.same ∙ e1 in
    let inner_left = c.sides_of-inner.ensures.left ∙ ap (λ (y : Space). y.word (c.sides_of-child.result.right + 3)) e1 in
    let inner_right = c.sides_of-inner.ensures.right ∙ ap (λ (y : Space). y.word (c.sides_of-child.result.right + 4)) e1 in
    parts_in (g.W.Reads.space c.args.words.now) (g.W.Reads.space c.sides_of-inner.new.words) c.args.left ((g.W.Reads.space c.args.words.now).word (c.args.left + 3)) ((g.W.Reads.space c.args.words.now).word (c.sides_of-child.result.right + 3)) c.sides_of-child.result.left c.sides_of-inner.result.left e2 outer_is inner_left (turn_twice_right-first (g.W.Reads.space c.args.words.now) c.args.at c.args.left c.args.right c.requires.turn.child c.sides_of-child.result.right above inner_is c.requires.turn.parts)

pub hang-requires-2 : goal.hang-requires-2
hang-requires-2 g c =
    let e1 = c.sides_of-child.ensures.same in
    let outer_is = c.sides_of-child.ensures.left in
    let inner_is = c.sides_of-child.ensures.right in
    let above = subst (λ x. 0 < x) (sym inner_is) c.requires.inner in
    let e2 = c.sides_of-inner.ensures.same ∙ e1 in
    let inner_left = c.sides_of-inner.ensures.left ∙ ap (λ (y : Space). y.word (c.sides_of-child.result.right + 3)) e1 in
    let inner_right = c.sides_of-inner.ensures.right ∙ ap (λ (y : Space). y.word (c.sides_of-child.result.right + 4)) e1 in
    let hang_1 = hangs_in (g.W.Reads.space c.args.words.now) (g.W.Reads.space c.sides_of-inner.new.words) (g.W.Reads.space c.hang.new.words) c.args.left ((g.W.Reads.space c.args.words.now).word (c.args.left + 3)) ((g.W.Reads.space c.args.words.now).word (c.sides_of-child.result.right + 3)) c.sides_of-child.result.left c.sides_of-inner.result.left e2 outer_is inner_left c.in_ok-hang.ensures in
    parts_in (g.W.Reads.space c.hang.new.words) (g.W.Reads.space c.hang.new.words) c.args.at ((g.W.Reads.space c.args.words.now).word (c.sides_of-child.result.right + 4)) c.args.right c.sides_of-inner.result.right c.args.right refl inner_right refl (turn_twice_right-second (g.W.Reads.space c.args.words.now) c.args.at c.args.left c.args.right c.requires.turn.child c.sides_of-child.result.right above inner_is (g.W.Reads.space c.hang.new.words) c.requires.turn.parts hang_1)

pub hang-requires-3 : goal.hang-requires-3
hang-requires-3 g c =
    let e1 = c.sides_of-child.ensures.same in
    let outer_is = c.sides_of-child.ensures.left in
    let inner_is = c.sides_of-child.ensures.right in
    let above = subst (λ x. 0 < x) (sym inner_is) c.requires.inner in
    let e2 = c.sides_of-inner.ensures.same ∙ e1 in
    let inner_left = c.sides_of-inner.ensures.left ∙ ap (λ (y : Space). y.word (c.sides_of-child.result.right + 3)) e1 in
    let inner_right = c.sides_of-inner.ensures.right ∙ ap (λ (y : Space). y.word (c.sides_of-child.result.right + 4)) e1 in
    let hang_1 = hangs_in (g.W.Reads.space c.args.words.now) (g.W.Reads.space c.sides_of-inner.new.words) (g.W.Reads.space c.hang.new.words) c.args.left ((g.W.Reads.space c.args.words.now).word (c.args.left + 3)) ((g.W.Reads.space c.args.words.now).word (c.sides_of-child.result.right + 3)) c.sides_of-child.result.left c.sides_of-inner.result.left e2 outer_is inner_left c.in_ok-hang.ensures in
    let hang_2 = hangs_in (g.W.Reads.space c.hang.new.words) (g.W.Reads.space c.hang.new.words) (g.W.Reads.space c.hang-2.new.words) c.args.at ((g.W.Reads.space c.args.words.now).word (c.sides_of-child.result.right + 4)) c.args.right c.sides_of-inner.result.right c.args.right refl inner_right refl c.in_ok-hang-2.ensures in
    parts_in (g.W.Reads.space c.hang-2.new.words) (g.W.Reads.space c.hang-2.new.words) c.sides_of-child.result.right c.args.left c.args.at c.args.left c.args.at refl refl refl (turn_twice_right-third (g.W.Reads.space c.args.words.now) c.args.at c.args.left c.args.right c.requires.turn.child c.sides_of-child.result.right above inner_is (g.W.Reads.space c.hang.new.words) (g.W.Reads.space c.hang-2.new.words) c.requires.turn.parts hang_1 hang_2)

pub returns : goal.returns
returns g c =
    let e1 = c.sides_of-child.ensures.same in
    let outer_is = c.sides_of-child.ensures.left in
    let inner_is = c.sides_of-child.ensures.right in
    let above = subst (λ x. 0 < x) (sym inner_is) c.requires.inner in
    let e2 = c.sides_of-inner.ensures.same ∙ e1 in
    let inner_left = c.sides_of-inner.ensures.left ∙ ap (λ (y : Space). y.word (c.sides_of-child.result.right + 3)) e1 in
    let inner_right = c.sides_of-inner.ensures.right ∙ ap (λ (y : Space). y.word (c.sides_of-child.result.right + 4)) e1 in
    let hang_1 = hangs_in (g.W.Reads.space c.args.words.now) (g.W.Reads.space c.sides_of-inner.new.words) (g.W.Reads.space c.hang.new.words) c.args.left ((g.W.Reads.space c.args.words.now).word (c.args.left + 3)) ((g.W.Reads.space c.args.words.now).word (c.sides_of-child.result.right + 3)) c.sides_of-child.result.left c.sides_of-inner.result.left e2 outer_is inner_left c.in_ok-hang.ensures in
    let hang_2 = hangs_in (g.W.Reads.space c.hang.new.words) (g.W.Reads.space c.hang.new.words) (g.W.Reads.space c.hang-2.new.words) c.args.at ((g.W.Reads.space c.args.words.now).word (c.sides_of-child.result.right + 4)) c.args.right c.sides_of-inner.result.right c.args.right refl inner_right refl c.in_ok-hang-2.ensures in
    let hang_3 = hangs_in (g.W.Reads.space c.hang-2.new.words) (g.W.Reads.space c.hang-2.new.words) (g.W.Reads.space c.hang-3.new.words) c.sides_of-child.result.right c.args.left c.args.at c.args.left c.args.at refl refl refl c.in_ok-hang-3.ensures in
    turn_twice_right-builds (g.W.Reads.space c.args.words.now) c.args.at c.args.left c.args.right c.requires.turn.child c.sides_of-child.result.right above inner_is (g.W.Reads.space c.hang.new.words) (g.W.Reads.space c.hang-2.new.words) (g.W.Reads.space c.hang-3.new.words) hang_1 hang_2 hang_3
