use Rattle.std.proofs.Common.{◌<◌, ◌+◌, ◌∙◌, refl, sym, subst, rules, arith}
use Rattle.std.proofs.lemmas.Result.{IfOk-weaker}
use Rattle.persist_tree.specs.Trees.{joined}
use Rattle.persist_tree.specs.Changes.{stored_height, Builds}
use Rattle.persist_tree.specs.Below.{Drops}
use Rattle.persist_tree.proofs.Turning.{parts_in}
use Rattle.persist_tree.proofs.Descending.{left_lower, lower_here}
use Rattle.persist_tree.proofs.Growing.{builds_from}
use Rattle.persist_tree.proofs.Shrinking.{can_drop-node, can_drop-positive, can_drop_left, can_drop_in, drops_in, drops_here, drop_parts, drops_joined}
use Rattle.persist_tree.proofs.shrink.+drop_leftmost.Goals as goal

pub sides_of-sides-requires : goal.sides_of-sides-requires
sides_of-sides-requires g t c = can_drop-node (g.W.Reads.space c.args.words.now) c.args.at c.requires

pub returns-then-sides-eq0 : goal.returns-then-sides-eq0
returns-then-sides-eq0 g t c =
    let e1 = c.sides_of-sides.ensures.same in
    let left_is = c.sides_of-sides.ensures.left in
    let right_is = c.sides_of-sides.ensures.right in
    subst (λ x. Drops (g.W.Reads.space c.args.words.now) (g.W.Reads.space c.sides_of-sides.new.words) c.args.at x) (sym right_is) (drops_here (g.W.Reads.space c.args.words.now) (g.W.Reads.space c.sides_of-sides.new.words) c.args.at (can_drop-positive (g.W.Reads.space c.args.words.now) c.args.at c.requires) (sym left_is ∙ c.if-sides-eq0.true) e1)

pub drop_leftmost-requires : goal.drop_leftmost-requires
drop_leftmost-requires g t c κs within =
    let e1 = c.sides_of-sides.ensures.same in
    let left_is = c.sides_of-sides.ensures.left in
    let right_is = c.sides_of-sides.ensures.right in
    let n = can_drop-node (g.W.Reads.space c.args.words.now) c.args.at c.requires in
    let off = c.if-sides-eq0.false in
    let some : 0 < ((g.W.Reads.space c.args.words.now).word (c.args.at + 3)) = omega (arith, off, left_is) in
    let can = can_drop_in (g.W.Reads.space c.args.words.now) (g.W.Reads.space c.sides_of-sides.new.words) ((g.W.Reads.space c.args.words.now).word (c.args.at + 3)) c.sides_of-sides.result.left e1 left_is (can_drop_left (g.W.Reads.space c.args.words.now) c.args.at some c.requires) in
    let lower = lower_here (g.W.Reads.space c.args.words.now) (g.W.Reads.space c.sides_of-sides.new.words) ((g.W.Reads.space c.args.words.now).word (c.args.at + 3)) c.sides_of-sides.result.left (stored_height (g.W.Reads.space c.args.words.now).word c.args.at) e1 left_is (left_lower (g.W.Reads.space c.args.words.now) c.args.at n) in
    search (rules, can, lower)

pub join-requires : goal.join-requires
join-requires g t c =
    let e1 = c.sides_of-sides.ensures.same in
    let left_is = c.sides_of-sides.ensures.left in
    let right_is = c.sides_of-sides.ensures.right in
    let drops = drops_in (g.W.Reads.space c.args.words.now) (g.W.Reads.space c.sides_of-sides.new.words) (g.W.Reads.space c.drop_leftmost.new.words) ((g.W.Reads.space c.args.words.now).word (c.args.at + 3)) c.sides_of-sides.result.left c.in_ok-left.left e1 left_is c.in_ok-left.ensures in
    parts_in (g.W.Reads.space c.drop_leftmost.new.words) (g.W.Reads.space c.drop_leftmost.new.words) c.args.at c.in_ok-left.left ((g.W.Reads.space c.args.words.now).word (c.args.at + 4)) c.in_ok-left.left c.sides_of-sides.result.right refl refl right_is (drop_parts (g.W.Reads.space c.args.words.now) (g.W.Reads.space c.drop_leftmost.new.words) c.args.at c.in_ok-left.left c.requires drops)

pub returns : goal.returns
returns g t c =
    let e1 = c.sides_of-sides.ensures.same in
    let left_is = c.sides_of-sides.ensures.left in
    let right_is = c.sides_of-sides.ensures.right in
    let drops = drops_in (g.W.Reads.space c.args.words.now) (g.W.Reads.space c.sides_of-sides.new.words) (g.W.Reads.space c.drop_leftmost.new.words) ((g.W.Reads.space c.args.words.now).word (c.args.at + 3)) c.sides_of-sides.result.left c.in_ok-left.left e1 left_is c.in_ok-left.ensures in
    let off = c.if-sides-eq0.false in
    let some : 0 < ((g.W.Reads.space c.args.words.now).word (c.args.at + 3)) = omega (arith, off, left_is) in
    IfOk-weaker c.join.result (λ above. Builds joined 9 (g.W.Reads.space c.drop_leftmost.new.words) (g.W.Reads.space c.join.new.words) c.args.at c.in_ok-left.left c.sides_of-sides.result.right above) (λ above. Drops (g.W.Reads.space c.args.words.now) (g.W.Reads.space c.join.new.words) c.args.at above)
    (λ above builds. drops_joined (g.W.Reads.space c.args.words.now) (g.W.Reads.space c.drop_leftmost.new.words) c.args.at c.in_ok-left.left (g.W.Reads.space c.join.new.words) above (can_drop-positive (g.W.Reads.space c.args.words.now) c.args.at c.requires) some drops
    (builds_from joined 9 (g.W.Reads.space c.drop_leftmost.new.words) (g.W.Reads.space c.join.new.words) c.args.at c.in_ok-left.left ((g.W.Reads.space c.args.words.now).word (c.args.at + 4)) c.in_ok-left.left c.sides_of-sides.result.right above refl right_is builds))
    c.join.ensures
