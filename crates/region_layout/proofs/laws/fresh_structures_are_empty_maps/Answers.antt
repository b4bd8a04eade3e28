use Rattle.region_layout.proofs.EmptyMaps.{fresh_maps}
use Rattle.region_layout.proofs.laws.fresh_structures_are_empty_maps.Goals as goal

pub returns : goal.returns
returns c = fresh_maps
