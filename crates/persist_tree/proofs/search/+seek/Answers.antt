use Rattle.std.proofs.Common.{◌<◌, ◌+◌, ◌∙◌, ap, refl, sym, rules, arith}
use Rattle.lane_traits.specs.Space.{Space}
use Rattle.persist_tree.proofs.Turning.{has_node}
use Rattle.persist_tree.proofs.Descending.{tree_same, node_same, node_own, node_left, node_right, left_lower, right_lower, lower_here}
use Rattle.persist_tree.proofs.Growing.{finds_none, finds_here, finds_left, finds_right, finds_in}
use Rattle.persist_tree.specs.Changes.{stored_height}
use Rattle.persist_tree.proofs.search.+seek.Goals as goal

pub returns-then-at-eq0-clause-found : goal.returns-then-at-eq0-clause-found
returns-then-at-eq0-clause-found g t c = finds_none (g.W.Reads.space c.args.words.now) c.args.at c.args.key c.if-at-eq0.true

pub field-here-requires-clause-own : goal.field-here-requires-clause-own
field-here-requires-clause-own g t c =
    let off = c.if-at-eq0.false in
    let above : 0 < c.args.at = omega (arith, off) in
    let n = has_node (g.W.Reads.space c.args.words.now) c.args.at c.requires above in
    node_own (g.W.Reads.space c.args.words.now) c.args.at n

pub returns-then-key-here-clause-found : goal.returns-then-key-here-clause-found
returns-then-key-here-clause-found g t c =
    let off = c.if-at-eq0.false in
    let above : 0 < c.args.at = omega (arith, off) in
    let e1 = c.field-here.ensures.same in
    let here = c.field-here.ensures.value in
    finds_here (g.W.Reads.space c.args.words.now) c.args.at c.args.key above (c.if-key-here.true ∙ here)

pub sides_of-sides-requires : goal.sides_of-sides-requires
sides_of-sides-requires g t c =
    let off = c.if-at-eq0.false in
    let above : 0 < c.args.at = omega (arith, off) in
    let n = has_node (g.W.Reads.space c.args.words.now) c.args.at c.requires above in
    let e1 = c.field-here.ensures.same in
    let here = c.field-here.ensures.value in
    node_same (g.W.Reads.space c.args.words.now) (g.W.Reads.space c.field-here.new.words) c.args.at c.args.at e1 refl n

pub returns-then-key-here-2-clause-found : goal.returns-then-key-here-2-clause-found
returns-then-key-here-2-clause-found g t c =
    let off = c.if-at-eq0.false in
    let above : 0 < c.args.at = omega (arith, off) in
    let e1 = c.field-here.ensures.same in
    let here = c.field-here.ensures.value in
    let e2 = c.sides_of-sides.ensures.same ∙ e1 in
    let left_is = c.sides_of-sides.ensures.left ∙ ap (λ (y : Space). y.word (c.args.at + 3)) e1 in
    let right_is = c.sides_of-sides.ensures.right ∙ ap (λ (y : Space). y.word (c.args.at + 4)) e1 in
    let less = c.if-key-here-2.true in
    finds_left (g.W.Reads.space c.args.words.now) c.args.at c.args.key c.seek.result above (omega (arith, less, here))
    (finds_in (g.W.Reads.space c.args.words.now) (g.W.Reads.space c.sides_of-sides.new.words) ((g.W.Reads.space c.args.words.now).word (c.args.at + 3)) c.sides_of-sides.result.left c.args.key c.seek.result e2 left_is c.seek.ensures.found)

pub returns-clause-found : goal.returns-clause-found
returns-clause-found g t c =
    let off = c.if-at-eq0.false in
    let above : 0 < c.args.at = omega (arith, off) in
    let e1 = c.field-here.ensures.same in
    let here = c.field-here.ensures.value in
    let e2 = c.sides_of-sides.ensures.same ∙ e1 in
    let left_is = c.sides_of-sides.ensures.left ∙ ap (λ (y : Space). y.word (c.args.at + 3)) e1 in
    let right_is = c.sides_of-sides.ensures.right ∙ ap (λ (y : Space). y.word (c.args.at + 4)) e1 in
    let more = c.if-key-here-2.false in
    finds_right (g.W.Reads.space c.args.words.now) c.args.at c.args.key c.seek-2.result above (λ e. c.if-key-here.false (e ∙ sym here)) (omega (arith, more, here))
    (finds_in (g.W.Reads.space c.args.words.now) (g.W.Reads.space c.sides_of-sides.new.words) ((g.W.Reads.space c.args.words.now).word (c.args.at + 4)) c.sides_of-sides.result.right c.args.key c.seek-2.result e2 right_is c.seek-2.ensures.found)

pub seek-requires : goal.seek-requires
seek-requires g t c κs within =
    let off = c.if-at-eq0.false in
    let above : 0 < c.args.at = omega (arith, off) in
    let n = has_node (g.W.Reads.space c.args.words.now) c.args.at c.requires above in
    let e1 = c.field-here.ensures.same in
    let here = c.field-here.ensures.value in
    let e2 = c.sides_of-sides.ensures.same ∙ e1 in
    let left_is = c.sides_of-sides.ensures.left ∙ ap (λ (y : Space). y.word (c.args.at + 3)) e1 in
    let right_is = c.sides_of-sides.ensures.right ∙ ap (λ (y : Space). y.word (c.args.at + 4)) e1 in
    let tree = tree_same (g.W.Reads.space c.args.words.now) (g.W.Reads.space c.sides_of-sides.new.words) ((g.W.Reads.space c.args.words.now).word (c.args.at + 3)) c.sides_of-sides.result.left e2 left_is (node_left (g.W.Reads.space c.args.words.now) c.args.at n) in
    let lower = lower_here (g.W.Reads.space c.args.words.now) (g.W.Reads.space c.sides_of-sides.new.words) ((g.W.Reads.space c.args.words.now).word (c.args.at + 3)) c.sides_of-sides.result.left (stored_height (g.W.Reads.space c.args.words.now).word c.args.at) e2 left_is (left_lower (g.W.Reads.space c.args.words.now) c.args.at n) in
    search (rules, tree, lower)

pub seek-requires-2 : goal.seek-requires-2
seek-requires-2 g t c κs within =
    let off = c.if-at-eq0.false in
    let above : 0 < c.args.at = omega (arith, off) in
    let n = has_node (g.W.Reads.space c.args.words.now) c.args.at c.requires above in
    let e1 = c.field-here.ensures.same in
    let here = c.field-here.ensures.value in
    let e2 = c.sides_of-sides.ensures.same ∙ e1 in
    let left_is = c.sides_of-sides.ensures.left ∙ ap (λ (y : Space). y.word (c.args.at + 3)) e1 in
    let right_is = c.sides_of-sides.ensures.right ∙ ap (λ (y : Space). y.word (c.args.at + 4)) e1 in
    let tree = tree_same (g.W.Reads.space c.args.words.now) (g.W.Reads.space c.sides_of-sides.new.words) ((g.W.Reads.space c.args.words.now).word (c.args.at + 4)) c.sides_of-sides.result.right e2 right_is (node_right (g.W.Reads.space c.args.words.now) c.args.at n) in
    let lower = lower_here (g.W.Reads.space c.args.words.now) (g.W.Reads.space c.sides_of-sides.new.words) ((g.W.Reads.space c.args.words.now).word (c.args.at + 4)) c.sides_of-sides.result.right (stored_height (g.W.Reads.space c.args.words.now).word c.args.at) e2 right_is (right_lower (g.W.Reads.space c.args.words.now) c.args.at n) in
    search (rules, tree, lower)
