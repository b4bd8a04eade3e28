use Rattle.std.proofs.Common.{◌∙◌, refl, arith}
use Rattle.persist_tree.proofs.Turning.{hangs_in}
use Rattle.persist_tree.proofs.Building.{heights_in, low_sides, joined-left, joined-right, joined-level, builds_all, builds_in}
use Rattle.persist_tree.specs.Trees.{lowered_left, lowered_right, joined}
use Rattle.persist_tree.proofs.join.join.Goals as goal

pub overflow_add-on_right : goal.overflow_add-on_right
overflow_add-on_right g c =
    let e1 = c.height_at-on_left.ensures.same in
    let e2 = c.height_at-on_right.ensures.same ∙ e1 in
    let on_l = c.height_at-on_left.ensures.value in
    let on_r = heights_in (g.W.Reads.space c.args.words.now) (g.W.Reads.space c.height_at-on_left.new.words) c.args.right c.args.right c.height_at-on_right.result e1 refl c.height_at-on_right.ensures.value in
    let low = low_sides (g.W.Reads.space c.args.words.now) c.args.at c.args.left c.args.right c.requires in
    let left_low = low.left_low in
    let right_low = low.right_low in
    omega (arith, on_r, right_low)

pub overflow_add-on_left : goal.overflow_add-on_left
overflow_add-on_left g c =
    let e1 = c.height_at-on_left.ensures.same in
    let e2 = c.height_at-on_right.ensures.same ∙ e1 in
    let on_l = c.height_at-on_left.ensures.value in
    let on_r = heights_in (g.W.Reads.space c.args.words.now) (g.W.Reads.space c.height_at-on_left.new.words) c.args.right c.args.right c.height_at-on_right.result e1 refl c.height_at-on_right.ensures.value in
    let low = low_sides (g.W.Reads.space c.args.words.now) c.args.at c.args.left c.args.right c.requires in
    let left_low = low.left_low in
    let right_low = low.right_low in
    omega (arith, on_l, left_low)

pub returns-then-on_right-on_left : goal.returns-then-on_right-on_left
returns-then-on_right-on_left g c =
    let e1 = c.height_at-on_left.ensures.same in
    let e2 = c.height_at-on_right.ensures.same ∙ e1 in
    let on_l = c.height_at-on_left.ensures.value in
    let on_r = heights_in (g.W.Reads.space c.args.words.now) (g.W.Reads.space c.height_at-on_left.new.words) c.args.right c.args.right c.height_at-on_right.result e1 refl c.height_at-on_right.ensures.value in
    let less = c.if-on_right-on_left.true in
    builds_all lowered_left joined 9 (g.W.Reads.space c.args.words.now) (g.W.Reads.space c.height_at-on_right.new.words) (g.W.Reads.space c.lower_left.new.words) c.args.at c.args.left c.args.right c.lower_left.result
    (λ link builds. joined-left (g.W.Reads.space c.args.words.now) (g.W.Reads.space c.lower_left.new.words) c.args.at c.args.left c.args.right link (omega (arith, on_l, on_r, less)) (builds_in lowered_left 9 (g.W.Reads.space c.args.words.now) (g.W.Reads.space c.height_at-on_right.new.words) (g.W.Reads.space c.lower_left.new.words) c.args.at c.args.left c.args.right link e2 builds))
    c.lower_left.ensures

pub returns-then-on_left-on_right : goal.returns-then-on_left-on_right
returns-then-on_left-on_right g c =
    let e1 = c.height_at-on_left.ensures.same in
    let e2 = c.height_at-on_right.ensures.same ∙ e1 in
    let on_l = c.height_at-on_left.ensures.value in
    let on_r = heights_in (g.W.Reads.space c.args.words.now) (g.W.Reads.space c.height_at-on_left.new.words) c.args.right c.args.right c.height_at-on_right.result e1 refl c.height_at-on_right.ensures.value in
    let less = c.if-on_left-on_right.true in
    builds_all lowered_right joined 9 (g.W.Reads.space c.args.words.now) (g.W.Reads.space c.height_at-on_right.new.words) (g.W.Reads.space c.lower_right.new.words) c.args.at c.args.left c.args.right c.lower_right.result
    (λ link builds. joined-right (g.W.Reads.space c.args.words.now) (g.W.Reads.space c.lower_right.new.words) c.args.at c.args.left c.args.right link (omega (arith, on_l, on_r, less)) (builds_in lowered_right 9 (g.W.Reads.space c.args.words.now) (g.W.Reads.space c.height_at-on_right.new.words) (g.W.Reads.space c.lower_right.new.words) c.args.at c.args.left c.args.right link e2 builds))
    c.lower_right.ensures

pub returns : goal.returns
returns g c =
    let e1 = c.height_at-on_left.ensures.same in
    let e2 = c.height_at-on_right.ensures.same ∙ e1 in
    let on_l = c.height_at-on_left.ensures.value in
    let on_r = heights_in (g.W.Reads.space c.args.words.now) (g.W.Reads.space c.height_at-on_left.new.words) c.args.right c.args.right c.height_at-on_right.result e1 refl c.height_at-on_right.ensures.value in
    let most = c.if-on_right-on_left.false in
    let least = c.if-on_left-on_right.false in
    joined-level (g.W.Reads.space c.args.words.now) (g.W.Reads.space c.hang.new.words) c.args.at c.args.left c.args.right (omega (arith, on_l, on_r, most)) (omega (arith, on_l, on_r, least))
    (hangs_in (g.W.Reads.space c.args.words.now) (g.W.Reads.space c.height_at-on_right.new.words) (g.W.Reads.space c.hang.new.words) c.args.at c.args.left c.args.right c.args.left c.args.right e2 refl refl c.in_ok-hang.ensures)
