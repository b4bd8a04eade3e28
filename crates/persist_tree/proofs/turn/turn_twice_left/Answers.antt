use Rattle.std.proofs.Common.{◌<◌, ◌+◌, ◌∙◌, ap, refl, sym, subst}
use Rattle.lane_traits.specs.Space.{Space}
use Rattle.persist_tree.proofs.Turning.{tree_in, parts_in, hangs_in, node_at, on_left, has_node}
use Rattle.persist_tree.proofs.Building.{turn_twice_left-first, turn_twice_left-second, turn_twice_left-third, turn_twice_left-builds}
use Rattle.persist_tree.proofs.turn.turn_twice_left.Goals as goal

pub sides_of-child-requires : goal.sides_of-child-requires
sides_of-child-requires g c = has_node (g.W.Reads.space c.args.words.now) c.args.right (record { tree = c.requires.turn.parts.r; stands = c.requires.turn.parts.are.on_right }) c.requires.turn.child

pub sides_of-inner-requires : goal.sides_of-inner-requires
sides_of-inner-requires g c =
    let e1 = c.sides_of-child.ensures.same in
    let outer_is = c.sides_of-child.ensures.right in
    let inner_is = c.sides_of-child.ensures.left in
    let above = subst (λ x. 0 < x) (sym inner_is) c.requires.inner in
    let n = node_at (g.W.Reads.space c.args.words.now) c.args.right c.requires.turn.parts.r c.requires.turn.parts.are.on_right c.requires.turn.child in
    has_node (g.W.Reads.space c.sides_of-child.new.words) c.sides_of-child.result.left (tree_in (g.W.Reads.space c.args.words.now) (g.W.Reads.space c.sides_of-child.new.words) ((g.W.Reads.space c.args.words.now).word (c.args.right + 3)) c.sides_of-child.result.left n.l e1 inner_is (on_left (g.W.Reads.space c.args.words.now) c.args.right c.args.right n.k n.v n.l n.r n.stands)) above

pub hang-requires : goal.hang-requires
hang-requires g c =
    let e1 = c.sides_of-child.ensures.same in
    let outer_is = c.sides_of-child.ensures.right in
    let inner_is = c.sides_of-child.ensures.left in
    let above = subst (λ x. 0 < x) (sym inner_is) c.requires.inner in
    let e2 = c.sides_of-inner.ensures.same ∙ e1 in
    let inner_left = c.sides_of-inner.ensures.left ∙ ap (λ (y : Space). y.word (c.sides_of-child.result.left + 3)) e1 in
    let inner_right = c.sides_of-inner.ensures.right ∙ ap (λ (y : Space). y.word (c.sides_of-child.result.left + 4)) e1 in
    parts_in (g.W.Reads.space c.args.words.now) (g.W.Reads.space c.sides_of-inner.new.words) c.args.right ((g.W.Reads.space c.args.words.now).word (c.sides_of-child.result.left + 4)) ((g.W.Reads.space c.args.words.now).word (c.args.right + 4)) c.sides_of-inner.result.right c.sides_of-child.result.right e2 inner_right outer_is (turn_twice_left-first (g.W.Reads.space c.args.words.now) c.args.at c.args.left c.args.right c.requires.turn.child c.sides_of-child.result.left above inner_is c.requires.turn.parts)

pub hang-requires-2 : goal.hang-requires-2
hang-requires-2 g c =
    let e1 = c.sides_of-child.ensures.same in
    let outer_is = c.sides_of-child.ensures.right in
    let inner_is = c.sides_of-child.ensures.left in
    let above = subst (λ x. 0 < x) (sym inner_is) c.requires.inner in
    let e2 = c.sides_of-inner.ensures.same ∙ e1 in
    let inner_left = c.sides_of-inner.ensures.left ∙ ap (λ (y : Space). y.word (c.sides_of-child.result.left + 3)) e1 in
    let inner_right = c.sides_of-inner.ensures.right ∙ ap (λ (y : Space). y.word (c.sides_of-child.result.left + 4)) e1 in
    let hang_1 = hangs_in (g.W.Reads.space c.args.words.now) (g.W.Reads.space c.sides_of-inner.new.words) (g.W.Reads.space c.hang.new.words) c.args.right ((g.W.Reads.space c.args.words.now).word (c.sides_of-child.result.left + 4)) ((g.W.Reads.space c.args.words.now).word (c.args.right + 4)) c.sides_of-inner.result.right c.sides_of-child.result.right e2 inner_right outer_is c.in_ok-hang.ensures in
    parts_in (g.W.Reads.space c.hang.new.words) (g.W.Reads.space c.hang.new.words) c.args.at c.args.left ((g.W.Reads.space c.args.words.now).word (c.sides_of-child.result.left + 3)) c.args.left c.sides_of-inner.result.left refl refl inner_left (turn_twice_left-second (g.W.Reads.space c.args.words.now) c.args.at c.args.left c.args.right c.requires.turn.child c.sides_of-child.result.left above inner_is (g.W.Reads.space c.hang.new.words) c.requires.turn.parts hang_1)

pub hang-requires-3 : goal.hang-requires-3
hang-requires-3 g c =
    let e1 = c.sides_of-child.ensures.same in
    let outer_is = c.sides_of-child.ensures.right in
    let inner_is = c.sides_of-child.ensures.left in
    let above = subst (λ x. 0 < x) (sym inner_is) c.requires.inner in
    let e2 = c.sides_of-inner.ensures.same ∙ e1 in
    let inner_left = c.sides_of-inner.ensures.left ∙ ap (λ (y : Space). y.word (c.sides_of-child.result.left + 3)) e1 in
    let inner_right = c.sides_of-inner.ensures.right ∙ ap (λ (y : Space). y.word (c.sides_of-child.result.left + 4)) e1 in
    let hang_1 = hangs_in (g.W.Reads.space c.args.words.now) (g.W.Reads.space c.sides_of-inner.new.words) (g.W.Reads.space c.hang.new.words) c.args.right ((g.W.Reads.space c.args.words.now).word (c.sides_of-child.result.left + 4)) ((g.W.Reads.space c.args.words.now).word (c.args.right + 4)) c.sides_of-inner.result.right c.sides_of-child.result.right e2 inner_right outer_is c.in_ok-hang.ensures in
    let hang_2 = hangs_in (g.W.Reads.space c.hang.new.words) (g.W.Reads.space c.hang.new.words) (g.W.Reads.space c.hang-2.new.words) c.args.at c.args.left ((g.W.Reads.space c.args.words.now).word (c.sides_of-child.result.left + 3)) c.args.left c.sides_of-inner.result.left refl refl inner_left c.in_ok-hang-2.ensures in
    parts_in (g.W.Reads.space c.hang-2.new.words) (g.W.Reads.space c.hang-2.new.words) c.sides_of-child.result.left c.args.at c.args.right c.args.at c.args.right refl refl refl (turn_twice_left-third (g.W.Reads.space c.args.words.now) c.args.at c.args.left c.args.right c.requires.turn.child c.sides_of-child.result.left above inner_is (g.W.Reads.space c.hang.new.words) (g.W.Reads.space c.hang-2.new.words) c.requires.turn.parts hang_1 hang_2)

pub returns : goal.returns
returns g c =
    let e1 = c.sides_of-child.ensures.same in
    let outer_is = c.sides_of-child.ensures.right in
    let inner_is = c.sides_of-child.ensures.left in
    let above = subst (λ x. 0 < x) (sym inner_is) c.requires.inner in
    let e2 = c.sides_of-inner.ensures.same ∙ e1 in
    let inner_left = c.sides_of-inner.ensures.left ∙ ap (λ (y : Space). y.word (c.sides_of-child.result.left + 3)) e1 in
    let inner_right = c.sides_of-inner.ensures.right ∙ ap (λ (y : Space). y.word (c.sides_of-child.result.left + 4)) e1 in
    let hang_1 = hangs_in (g.W.Reads.space c.args.words.now) (g.W.Reads.space c.sides_of-inner.new.words) (g.W.Reads.space c.hang.new.words) c.args.right ((g.W.Reads.space c.args.words.now).word (c.sides_of-child.result.left + 4)) ((g.W.Reads.space c.args.words.now).word (c.args.right + 4)) c.sides_of-inner.result.right c.sides_of-child.result.right e2 inner_right outer_is c.in_ok-hang.ensures in
    let hang_2 = hangs_in (g.W.Reads.space c.hang.new.words) (g.W.Reads.space c.hang.new.words) (g.W.Reads.space c.hang-2.new.words) c.args.at c.args.left ((g.W.Reads.space c.args.words.now).word (c.sides_of-child.result.left + 3)) c.args.left c.sides_of-inner.result.left refl refl inner_left c.in_ok-hang-2.ensures in
    let hang_3 = hangs_in (g.W.Reads.space c.hang-2.new.words) (g.W.Reads.space c.hang-2.new.words) (g.W.Reads.space c.hang-3.new.words) c.sides_of-child.result.left c.args.at c.args.right c.args.at c.args.right refl refl refl c.in_ok-hang-3.ensures in
    turn_twice_left-builds (g.W.Reads.space c.args.words.now) c.args.at c.args.left c.args.right c.requires.turn.child c.sides_of-child.result.left above inner_is (g.W.Reads.space c.hang.new.words) (g.W.Reads.space c.hang-2.new.words) (g.W.Reads.space c.hang-3.new.words) hang_1 hang_2 hang_3
