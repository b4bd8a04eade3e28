use Rattle.std.proofs.Common.{slice_index}
use Rattle.persist_model.specs.Shape.{heap}
use Rattle.region_layout.specs.Layout.{layout_shape}
use Rattle.region_layout.specs.declared.layout.Kind.TheVariants.{Tree}
use Rattle.region_layout.specs.Contents.{IsMap}
use Rattle.image_runner.proofs.MapSteps.{has_tree, tree_read}
use Rattle.image_runner.proofs.maps.read_tree.Goals as goal

pub returns-in-Err : goal.returns-in-Err
returns-in-Err g c = record {
  none = λ h. c.in-Err.ensures.not_a_map (record { contents = h.contents; is = h.is });
  root = c.block-root.ensures;
}

pub walk-requires : goal.walk-requires
walk-requires g c =
    let held = c.in-Ok.ensures.ok in
    let map : IsMap Tree (heap (layout_shape c.args.layout)) (slice_index (g.L.Look.words c.args.words.now)) c.args.structure = record { contents = held.contents; is = held.is } in
    has_tree (heap (layout_shape c.args.layout)) c.args.structure c.block-root.result (g.L.Look.words c.args.words.now) _ c.words_of_structure-tree.ensures c.block-root.ensures map

pub returns : goal.returns
returns g c =
    let held = c.in-Ok.ensures.ok in
    let map : IsMap Tree (heap (layout_shape c.args.layout)) (slice_index (g.L.Look.words c.args.words.now)) c.args.structure = record { contents = held.contents; is = held.is } in
    tree_read (heap (layout_shape c.args.layout)) c.args.structure c.block-root.result (g.L.Look.words c.args.words.now) _ c.words_of_structure-tree.ensures c.block-root.ensures
    c.in_ok-walk.field-0 map c.in_ok-walk.ensures.entries
