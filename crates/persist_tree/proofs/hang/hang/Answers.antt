use Rattle.std.proofs.Common.{◌∙◌, refl, arith}
use Rattle.std.proofs.lemmas.Result.{on_ok_weaker}
use Rattle.persist_tree.proofs.Building.{low_sides, heights_in, hangs_of, hung_in}
use Rattle.persist_tree.proofs.hang.hang.Goals as goal

pub overflow_add-max : goal.overflow_add-max
overflow_add-max g c =
    let low = low_sides (g.W.Reads.space c.args.words.now) c.args.at c.args.left c.args.right c.requires in
    let left_low = low.left_low in
    let right_low = low.right_low in
    let on_left = c.height_at-on_left.ensures.value in
    let on_right = heights_in (g.W.Reads.space c.args.words.now) (g.W.Reads.space c.height_at-on_left.new.words) c.args.right c.args.right c.height_at-on_right.result c.height_at-on_left.ensures.same refl c.height_at-on_right.ensures.value in
    omega (arith, left_low, right_low, on_left, on_right)

pub returns : goal.returns
returns g c =
    let on_left = c.height_at-on_left.ensures.value in
    let on_right = heights_in (g.W.Reads.space c.args.words.now) (g.W.Reads.space c.height_at-on_left.new.words) c.args.right c.args.right c.height_at-on_right.result c.height_at-on_left.ensures.same refl c.height_at-on_right.ensures.value in
    on_ok_weaker c.store.result
    (λ made. hangs_of (g.W.Reads.space c.args.words.now) (g.W.Reads.space c.store.new.words) c.args.at c.args.left c.args.right _ (made ∙ hung_in (g.W.Reads.space c.args.words.now) (g.W.Reads.space c.height_at-on_right.new.words) c.args.at c.args.left c.args.right _ (c.height_at-on_right.ensures.same ∙ c.height_at-on_left.ensures.same)) (omega (arith, on_left, on_right)))
    c.store.ensures
