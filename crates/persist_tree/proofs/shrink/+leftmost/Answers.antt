use Rattle.std.proofs.Common.{◌<◌, ◌+◌, ◌∙◌, sym, rules, arith}
use Rattle.persist_tree.specs.Changes.{stored_height}
use Rattle.persist_tree.proofs.Descending.{left_lower, lower_here}
use Rattle.persist_tree.proofs.Shrinking.{can_drop-node, can_drop_left, can_drop_in, leads_here, leads_left, leads_in}
use Rattle.persist_tree.proofs.shrink.+leftmost.Goals as goal

pub sides_of-sides-requires : goal.sides_of-sides-requires
sides_of-sides-requires g t c = can_drop-node (g.W.Reads.space c.args.words.now) c.args.at c.requires

pub returns-then-sides-eq0-clause-leads : goal.returns-then-sides-eq0-clause-leads
returns-then-sides-eq0-clause-leads g t c =
    let e1 = c.sides_of-sides.ensures.same in
    let left_is = c.sides_of-sides.ensures.left in
    let right_is = c.sides_of-sides.ensures.right in
    leads_here (g.W.Reads.space c.args.words.now) c.args.at (sym left_is ∙ c.if-sides-eq0.true)

pub leftmost-requires : goal.leftmost-requires
leftmost-requires g t c κs within =
    let e1 = c.sides_of-sides.ensures.same in
    let left_is = c.sides_of-sides.ensures.left in
    let right_is = c.sides_of-sides.ensures.right in
    let n = can_drop-node (g.W.Reads.space c.args.words.now) c.args.at c.requires in
    let off = c.if-sides-eq0.false in
    let some : 0 < ((g.W.Reads.space c.args.words.now).word (c.args.at + 3)) = omega (arith, off, left_is) in
    let can = can_drop_in (g.W.Reads.space c.args.words.now) (g.W.Reads.space c.sides_of-sides.new.words) ((g.W.Reads.space c.args.words.now).word (c.args.at + 3)) c.sides_of-sides.result.left e1 left_is (can_drop_left (g.W.Reads.space c.args.words.now) c.args.at some c.requires) in
    let lower = lower_here (g.W.Reads.space c.args.words.now) (g.W.Reads.space c.sides_of-sides.new.words) ((g.W.Reads.space c.args.words.now).word (c.args.at + 3)) c.sides_of-sides.result.left (stored_height (g.W.Reads.space c.args.words.now).word c.args.at) e1 left_is (left_lower (g.W.Reads.space c.args.words.now) c.args.at n) in
    search (rules, can, lower)

pub returns-clause-leads : goal.returns-clause-leads
returns-clause-leads g t c =
    let e1 = c.sides_of-sides.ensures.same in
    let left_is = c.sides_of-sides.ensures.left in
    let right_is = c.sides_of-sides.ensures.right in
    let off = c.if-sides-eq0.false in
    let some : 0 < ((g.W.Reads.space c.args.words.now).word (c.args.at + 3)) = omega (arith, off, left_is) in
    leads_left (g.W.Reads.space c.args.words.now) c.args.at c.leftmost.result some (leads_in (g.W.Reads.space c.args.words.now) (g.W.Reads.space c.sides_of-sides.new.words) ((g.W.Reads.space c.args.words.now).word (c.args.at + 3)) c.sides_of-sides.result.left c.leftmost.result e1 left_is c.leftmost.ensures.leads)
