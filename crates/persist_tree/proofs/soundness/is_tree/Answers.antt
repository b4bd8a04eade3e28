use Rattle.std.proofs.Common.{◌+◌, refl, subst, arith, None}
use Rattle.std.specs.Prelude.{slice_index}
use Rattle.lane_traits.specs.Space.{IsOwn}
use Rattle.region_layout.specs.HeapBlocks.{land_of}
use Rattle.persist_tree.proofs.Sounding.{part_few, no_tree-measured, tree-measured, measured-full, test_tells}
use Rattle.persist_tree.specs.Sound.{HasTreeOf}
use Rattle.persist_tree.proofs.soundness.is_tree.Goals as goal

pub overflow_add-result : goal.overflow_add-result
overflow_add-result g c =
    let few = part_few (land_of c.args.area.heap (slice_index (g.L.Look.words c.args.words.now)) c.args.area.structure) (slice_index (g.L.Look.words c.args.words.now)) c.args.area.root None None c.word-top.result 33 c.in-Some.extent.levels c.in-Some.extent.nodes c.in-Some.ensures.sound in
    omega (arith, few)

pub returns-in-None : goal.returns-in-None
returns-in-None g c = (
  (λ t. absurd (cc)),
  (λ h. absurd (no_tree-measured (g.L.Look.words c.args.words.now) c.args.area.heap c.args.blocks c.args.area.structure c.args.area.root c.requires.area c.word-top.result c.word-top.ensures c.in-None.ensures.unsound h)),
)

pub returns-in-Some : goal.returns-in-Some
returns-in-Some g c =
    let own = subst (IsOwn (land_of c.args.area.heap (slice_index (g.L.Look.words c.args.words.now)) c.args.area.structure)) c.from.ensures (c.if-not-is_own.ensures.0 refl) in
    test_tells (c.in-Some.extent.nodes + 1) c.count_own.result (HasTreeOf (land_of c.args.area.heap (slice_index (g.L.Look.words c.args.words.now)) c.args.area.structure) (slice_index (g.L.Look.words c.args.words.now)) c.args.area.root)
    (tree-measured (g.L.Look.words c.args.words.now) c.args.area.heap c.args.blocks c.args.area.structure c.args.area.root c.requires.area c.word-top.result c.in-Some.extent.levels c.in-Some.extent.nodes c.count_own.result c.word-top.ensures own c.in-Some.ensures.sound c.count_own.ensures)
    (measured-full (g.L.Look.words c.args.words.now) c.args.area.heap c.args.blocks c.args.area.structure c.args.area.root c.requires.area c.word-top.result c.in-Some.extent.levels c.in-Some.extent.nodes c.count_own.result c.word-top.ensures own c.in-Some.ensures.sound c.count_own.ensures)
