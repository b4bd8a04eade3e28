use Rattle.std.proofs.Common.{◌<◌, ◌+◌, ◌∙◌, ap, refl, rules, arith}
use Rattle.lane_traits.specs.Space.{Space}
use Rattle.std.proofs.lemmas.Result.{on_ok_weaker}
use Rattle.persist_tree.specs.Changes.{stored_height}
use Rattle.persist_tree.proofs.Turning.{has_node}
use Rattle.persist_tree.proofs.Descending.{tree_same, node_same, node_own, own_same, node_left, node_right, left_lower, right_lower, lower_here}
use Rattle.persist_tree.proofs.Walking.{collects_none, collects_in, collects_node}
use Rattle.persist_tree.proofs.collect.+collect.Goals as goal

pub returns-then-at-eq0-clause-entries : goal.returns-then-at-eq0-clause-entries
returns-then-at-eq0-clause-entries g t c = collects_none (g.W.Reads.space c.args.words.now) c.args.at c.args.found.now c.if-at-eq0.true

pub field-key-requires-clause-own : goal.field-key-requires-clause-own
field-key-requires-clause-own g t c =
    let off = c.if-at-eq0.false in
    let above : 0 < c.args.at = omega (arith, off) in
    let n = has_node (g.W.Reads.space c.args.words.now) c.args.at c.requires above in
    node_own (g.W.Reads.space c.args.words.now) c.args.at n

pub field-value-requires-clause-own : goal.field-value-requires-clause-own
field-value-requires-clause-own g t c =
    let off = c.if-at-eq0.false in
    let above : 0 < c.args.at = omega (arith, off) in
    let n = has_node (g.W.Reads.space c.args.words.now) c.args.at c.requires above in
    own_same (g.W.Reads.space c.args.words.now) (g.W.Reads.space c.field-key.new.words) c.args.at c.field-key.ensures.same (node_own (g.W.Reads.space c.args.words.now) c.args.at n)

pub sides_of-sides-requires : goal.sides_of-sides-requires
sides_of-sides-requires g t c =
    let off = c.if-at-eq0.false in
    let above : 0 < c.args.at = omega (arith, off) in
    let n = has_node (g.W.Reads.space c.args.words.now) c.args.at c.requires above in
    let e1 = c.field-key.ensures.same in
    let e2 = c.field-value.ensures.same ∙ e1 in
    node_same (g.W.Reads.space c.args.words.now) (g.W.Reads.space c.field-value.new.words) c.args.at c.args.at e2 refl n

pub collect-requires : goal.collect-requires
collect-requires g t c κs within =
    let off = c.if-at-eq0.false in
    let above : 0 < c.args.at = omega (arith, off) in
    let n = has_node (g.W.Reads.space c.args.words.now) c.args.at c.requires above in
    let e1 = c.field-key.ensures.same in
    let e2 = c.field-value.ensures.same ∙ e1 in
    let e3 = c.sides_of-sides.ensures.same ∙ e2 in
    let left_is = c.sides_of-sides.ensures.left ∙ ap (λ (y : Space). y.word (c.args.at + 3)) e2 in
    let right_is = c.sides_of-sides.ensures.right ∙ ap (λ (y : Space). y.word (c.args.at + 4)) e2 in
    let tree = tree_same (g.W.Reads.space c.args.words.now) (g.W.Reads.space c.sides_of-sides.new.words) ((g.W.Reads.space c.args.words.now).word (c.args.at + 3)) c.sides_of-sides.result.left e3 left_is (node_left (g.W.Reads.space c.args.words.now) c.args.at n) in
    let lower = lower_here (g.W.Reads.space c.args.words.now) (g.W.Reads.space c.sides_of-sides.new.words) ((g.W.Reads.space c.args.words.now).word (c.args.at + 3)) c.sides_of-sides.result.left (stored_height (g.W.Reads.space c.args.words.now).word c.args.at) e3 left_is (left_lower (g.W.Reads.space c.args.words.now) c.args.at n) in
    search (rules, tree, lower)

pub collect-requires-2 : goal.collect-requires-2
collect-requires-2 g t c κs within =
    let off = c.if-at-eq0.false in
    let above : 0 < c.args.at = omega (arith, off) in
    let n = has_node (g.W.Reads.space c.args.words.now) c.args.at c.requires above in
    let e1 = c.field-key.ensures.same in
    let e2 = c.field-value.ensures.same ∙ e1 in
    let e3 = c.sides_of-sides.ensures.same ∙ e2 in
    let left_is = c.sides_of-sides.ensures.left ∙ ap (λ (y : Space). y.word (c.args.at + 3)) e2 in
    let right_is = c.sides_of-sides.ensures.right ∙ ap (λ (y : Space). y.word (c.args.at + 4)) e2 in
    let e4 = c.collect.ensures.same ∙ e3 in
    let tree = tree_same (g.W.Reads.space c.args.words.now) (g.W.Reads.space c.collect.new.words) ((g.W.Reads.space c.args.words.now).word (c.args.at + 4)) c.sides_of-sides.result.right e4 right_is (node_right (g.W.Reads.space c.args.words.now) c.args.at n) in
    let lower = lower_here (g.W.Reads.space c.args.words.now) (g.W.Reads.space c.collect.new.words) ((g.W.Reads.space c.args.words.now).word (c.args.at + 4)) c.sides_of-sides.result.right (stored_height (g.W.Reads.space c.args.words.now).word c.args.at) e4 right_is (right_lower (g.W.Reads.space c.args.words.now) c.args.at n) in
    search (rules, tree, lower)

pub returns-clause-entries : goal.returns-clause-entries
returns-clause-entries g t c =
    let off = c.if-at-eq0.false in
    let above : 0 < c.args.at = omega (arith, off) in
    let e1 = c.field-key.ensures.same in
    let e2 = c.field-value.ensures.same ∙ e1 in
    let e3 = c.sides_of-sides.ensures.same ∙ e2 in
    let left_is = c.sides_of-sides.ensures.left ∙ ap (λ (y : Space). y.word (c.args.at + 3)) e2 in
    let right_is = c.sides_of-sides.ensures.right ∙ ap (λ (y : Space). y.word (c.args.at + 4)) e2 in
    let e4 = c.collect.ensures.same ∙ e3 in
    on_ok_weaker c.collect-2.result
    (λ on_r. collects_node (g.W.Reads.space c.args.words.now) c.args.at c.field-key.result c.field-value.result c.args.found.now c.collect.new.found c.append.new.found c.collect-2.new.found above
    c.field-key.ensures.value (c.field-value.ensures.value ∙ ap (λ (y : Space). y.word (c.args.at + 2)) e1)
    (collects_in (g.W.Reads.space c.args.words.now) (g.W.Reads.space c.sides_of-sides.new.words) ((g.W.Reads.space c.args.words.now).word (c.args.at + 3)) c.sides_of-sides.result.left c.args.found.now c.collect.new.found e3 left_is c.in_ok-collect.ensures.entries)
    c.in_ok-append.ensures
    (collects_in (g.W.Reads.space c.args.words.now) (g.W.Reads.space c.collect.new.words) ((g.W.Reads.space c.args.words.now).word (c.args.at + 4)) c.sides_of-sides.result.right c.append.new.found c.collect-2.new.found e4 right_is on_r))
    c.collect-2.ensures.entries
