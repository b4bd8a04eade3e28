use Rattle.std.proofs.Common.{◌≡◌, ◌+◌, ◌-◌, ap, refl, arith, Some}
use Rattle.std.specs.Prelude.{slice_index}
use Rattle.region_layout.specs.HeapBlocks.{land_of}
use Rattle.persist_tree.proofs.Sounding.{none_left, none_right, none_joined, some_joined, part_few}
use Rattle.persist_tree.proofs.soundness.+measure.Goals as goal

pub returns-in_err-left-clause-unsound : goal.returns-in_err-left-clause-unsound
returns-in_err-left-clause-unsound g t c =
    let deep = c.if-depth-eq0.false in
    let one : c.args.depth - 1 + 1 ≡ c.args.depth = omega (arith, deep) in
    rw c.from_residual-in_err-left.ensures
    (none_left (land_of c.args.area.heap (slice_index (g.L.Look.words c.args.words.now)) c.args.area.structure) (slice_index (g.L.Look.words c.args.words.now)) c.args.area.root c.args.low c.args.high c.args.link c.args.depth (c.args.depth - 1) c.in_ok-node.node.key c.in_ok-node.node.left c.if-link-eq0.false one c.in_ok-node.ensures.key c.in_ok-node.ensures.left c.in_err-left.ensures.unsound)

pub returns-in_err-right-clause-unsound : goal.returns-in_err-right-clause-unsound
returns-in_err-right-clause-unsound g t c =
    let deep = c.if-depth-eq0.false in
    let one : c.args.depth - 1 + 1 ≡ c.args.depth = omega (arith, deep) in
    rw c.from_residual-in_err-right.ensures
    (none_right (land_of c.args.area.heap (slice_index (g.L.Look.words c.args.words.now)) c.args.area.structure) (slice_index (g.L.Look.words c.args.words.now)) c.args.area.root c.args.low c.args.high c.args.link c.args.depth (c.args.depth - 1) c.in_ok-node.node.key c.in_ok-node.node.right c.if-link-eq0.false one c.in_ok-node.ensures.key c.in_ok-node.ensures.right c.in_err-right.ensures.unsound)

pub returns-then-abs_diff-gt1-clause-unsound : goal.returns-then-abs_diff-gt1-clause-unsound
returns-then-abs_diff-gt1-clause-unsound g t c =
    let far = c.if-abs_diff-gt1.true in
    let is = c.abs_diff.ensures in
    none_joined (land_of c.args.area.heap (slice_index (g.L.Look.words c.args.words.now)) c.args.area.structure) (slice_index (g.L.Look.words c.args.words.now)) c.args.area.root c.args.low c.args.high c.args.link c.in_ok-node.node.key c.in_ok-node.node.left c.in_ok-node.node.right (c.args.depth - 1) c.in_ok-left.left.levels c.in_ok-left.left.nodes c.in_ok-right.right.levels c.in_ok-right.right.nodes c.if-link-eq0.false c.in_ok-node.ensures.key c.in_ok-node.ensures.left c.in_ok-node.ensures.right c.in_ok-left.ensures.sound c.in_ok-right.ensures.sound c.args.depth (λ p q z. omega (arith, far, is, p, q))

pub returns-then-node-levels-clause-unsound : goal.returns-then-node-levels-clause-unsound
returns-then-node-levels-clause-unsound g t c =
    let apart = c.if-node-levels.true in
    let most = c.max-levels.ensures in
    let here = c.in_ok-node.ensures.height in
    none_joined (land_of c.args.area.heap (slice_index (g.L.Look.words c.args.words.now)) c.args.area.structure) (slice_index (g.L.Look.words c.args.words.now)) c.args.area.root c.args.low c.args.high c.args.link c.in_ok-node.node.key c.in_ok-node.node.left c.in_ok-node.node.right (c.args.depth - 1) c.in_ok-left.left.levels c.in_ok-left.left.nodes c.in_ok-right.right.levels c.in_ok-right.right.nodes c.if-link-eq0.false c.in_ok-node.ensures.key c.in_ok-node.ensures.left c.in_ok-node.ensures.right c.in_ok-left.ensures.sound c.in_ok-right.ensures.sound c.args.depth (λ p q z. apart (omega (arith, most, here, z)))

pub overflow_add-result : goal.overflow_add-result
overflow_add-result g t c =
    let few_l = part_few (land_of c.args.area.heap (slice_index (g.L.Look.words c.args.words.now)) c.args.area.structure) (slice_index (g.L.Look.words c.args.words.now)) c.args.area.root c.args.low (Some c.in_ok-node.node.key) c.in_ok-node.node.left (c.args.depth - 1) c.in_ok-left.left.levels c.in_ok-left.left.nodes c.in_ok-left.ensures.sound in
    let few_r = part_few (land_of c.args.area.heap (slice_index (g.L.Look.words c.args.words.now)) c.args.area.structure) (slice_index (g.L.Look.words c.args.words.now)) c.args.area.root (Some c.in_ok-node.node.key) c.args.high c.in_ok-node.node.right (c.args.depth - 1) c.in_ok-right.right.levels c.in_ok-right.right.nodes c.in_ok-right.ensures.sound in
    omega (arith, few_l, few_r)

pub overflow_add-result-2 : goal.overflow_add-result-2
overflow_add-result-2 g t c =
    let few_l = part_few (land_of c.args.area.heap (slice_index (g.L.Look.words c.args.words.now)) c.args.area.structure) (slice_index (g.L.Look.words c.args.words.now)) c.args.area.root c.args.low (Some c.in_ok-node.node.key) c.in_ok-node.node.left (c.args.depth - 1) c.in_ok-left.left.levels c.in_ok-left.left.nodes c.in_ok-left.ensures.sound in
    let few_r = part_few (land_of c.args.area.heap (slice_index (g.L.Look.words c.args.words.now)) c.args.area.structure) (slice_index (g.L.Look.words c.args.words.now)) c.args.area.root (Some c.in_ok-node.node.key) c.args.high c.in_ok-node.node.right (c.args.depth - 1) c.in_ok-right.right.levels c.in_ok-right.right.nodes c.in_ok-right.ensures.sound in
    omega (arith, few_l, few_r)

pub returns-clause-sound : goal.returns-clause-sound
returns-clause-sound g t c =
    let deep = c.if-depth-eq0.false in
    let one : c.args.depth - 1 + 1 ≡ c.args.depth = omega (arith, deep) in
    let near = c.if-abs_diff-gt1.false in
    let is = c.abs_diff.ensures in
    let height_is = c.if-node-levels.false in
    let here = c.in_ok-node.ensures.height in
    some_joined (land_of c.args.area.heap (slice_index (g.L.Look.words c.args.words.now)) c.args.area.structure) (slice_index (g.L.Look.words c.args.words.now)) c.args.area.root c.args.low c.args.high c.args.link c.in_ok-node.node.key c.in_ok-node.node.left c.in_ok-node.node.right (c.args.depth - 1) c.in_ok-left.left.levels c.in_ok-left.left.nodes c.in_ok-right.right.levels c.in_ok-right.right.nodes c.if-link-eq0.false c.in_ok-node.ensures.key c.in_ok-node.ensures.left c.in_ok-node.ensures.right c.in_ok-left.ensures.sound c.in_ok-right.ensures.sound c.args.depth (c.max-levels.result + 1) (c.in_ok-left.left.nodes + 1 + c.in_ok-right.right.nodes) c.in_ok-node.ensures.sound (omega (arith, near, is)) (omega (arith, near, is))
    (omega (arith, height_is, here)) (ap (λ x. x + 1) c.max-levels.ensures) refl one
