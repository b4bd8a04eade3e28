use Rattle.persist_model.specs.Shape.{heap}
use Rattle.region_layout.specs.Layout.{layout_shape}
use Rattle.image_runner.proofs.MapSteps.{has_hash, hash_read}
use Rattle.image_runner.proofs.maps.read_hash.Goals as goal

pub walk-requires : goal.walk-requires
walk-requires g c =
    has_hash (heap (layout_shape c.args.layout)) c.args.structure c.block.result (g.L.Look.words c.args.words.now) _ c.words_of_structure-hash.ensures c.block.ensures c.in-Ok.ensures.sound

pub returns : goal.returns
returns g c =
    hash_read (heap (layout_shape c.args.layout)) c.args.structure c.block.result (g.L.Look.words c.args.words.now) _ c.words_of_structure-hash.ensures c.block.ensures
    c.in_ok-walk.field-0 c.in-Ok.ensures.sound c.in_ok-walk.ensures.pairs
