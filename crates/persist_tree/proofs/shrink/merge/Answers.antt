use Rattle.std.proofs.Common.{◌<◌, refl, arith}
use Rattle.std.proofs.lemmas.Result.{IfOk-weaker}
use Rattle.persist_tree.specs.Trees.{joined}
use Rattle.persist_tree.specs.Changes.{Builds}
use Rattle.persist_tree.specs.Below.{Merges}
use Rattle.persist_tree.proofs.Shrinking.{merges_left, merges_right, can_drop_right, can_drop_in, drops_in, merge_parts, merges_joined}
use Rattle.persist_tree.proofs.shrink.merge.Goals as goal

pub returns-then-right-eq0 : goal.returns-then-right-eq0
returns-then-right-eq0 g c = merges_left (g.W.Reads.space c.args.words.now) c.args.left c.args.right c.if-right-eq0.true

pub returns-then-left-eq0 : goal.returns-then-left-eq0
returns-then-left-eq0 g c =
    let off_r = c.if-right-eq0.false in
    let some : 0 < c.args.right = omega (arith, off_r) in
    merges_right (g.W.Reads.space c.args.words.now) c.args.left c.args.right c.if-left-eq0.true some

pub leftmost-first-requires : goal.leftmost-first-requires
leftmost-first-requires g c =
    let off_r = c.if-right-eq0.false in
    let some : 0 < c.args.right = omega (arith, off_r) in
    can_drop_right (g.W.Reads.space c.args.words.now) c.args.left c.args.right some c.requires

pub drop_leftmost-requires : goal.drop_leftmost-requires
drop_leftmost-requires g c =
    let off_r = c.if-right-eq0.false in
    let some : 0 < c.args.right = omega (arith, off_r) in
    let off_l = c.if-left-eq0.false in
    let positive : 0 < c.args.left = omega (arith, off_l) in
    let e1 = c.leftmost-first.ensures.same in
    can_drop_in (g.W.Reads.space c.args.words.now) (g.W.Reads.space c.leftmost-first.new.words) c.args.right c.args.right e1 refl (can_drop_right (g.W.Reads.space c.args.words.now) c.args.left c.args.right some c.requires)

pub join-requires : goal.join-requires
join-requires g c =
    let off_r = c.if-right-eq0.false in
    let some : 0 < c.args.right = omega (arith, off_r) in
    let off_l = c.if-left-eq0.false in
    let positive : 0 < c.args.left = omega (arith, off_l) in
    let e1 = c.leftmost-first.ensures.same in
    let drops = drops_in (g.W.Reads.space c.args.words.now) (g.W.Reads.space c.leftmost-first.new.words) (g.W.Reads.space c.drop_leftmost.new.words) c.args.right c.args.right c.in_ok-rest.rest e1 refl c.in_ok-rest.ensures in
    merge_parts (g.W.Reads.space c.args.words.now) (g.W.Reads.space c.drop_leftmost.new.words) c.args.left c.args.right c.leftmost-first.result c.in_ok-rest.rest some c.requires c.leftmost-first.ensures.leads drops

pub returns : goal.returns
returns g c =
    let off_r = c.if-right-eq0.false in
    let some : 0 < c.args.right = omega (arith, off_r) in
    let off_l = c.if-left-eq0.false in
    let positive : 0 < c.args.left = omega (arith, off_l) in
    let e1 = c.leftmost-first.ensures.same in
    let drops = drops_in (g.W.Reads.space c.args.words.now) (g.W.Reads.space c.leftmost-first.new.words) (g.W.Reads.space c.drop_leftmost.new.words) c.args.right c.args.right c.in_ok-rest.rest e1 refl c.in_ok-rest.ensures in
    IfOk-weaker c.join.result (λ link. Builds joined 9 (g.W.Reads.space c.drop_leftmost.new.words) (g.W.Reads.space c.join.new.words) c.leftmost-first.result c.args.left c.in_ok-rest.rest link) (λ link. Merges (g.W.Reads.space c.args.words.now) (g.W.Reads.space c.join.new.words) c.args.left c.args.right link)
    (λ link builds. merges_joined (g.W.Reads.space c.args.words.now) (g.W.Reads.space c.drop_leftmost.new.words) (g.W.Reads.space c.join.new.words) c.args.left c.args.right c.leftmost-first.result c.in_ok-rest.rest link positive some c.leftmost-first.ensures.leads drops builds)
    c.join.ensures
