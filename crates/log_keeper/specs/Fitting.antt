-- The part's addresses are those of a region of this layout.
use Rattle.std.specs.Prelude.{◌<◌}
use Rattle.persist_model.specs.declared.format.TheConstants.{MAX_WORDS}
use Rattle.region_layout.specs.declared.layout.Layout.{Layout}
use Rattle.log_keeper.specs.Parts.{LogPart, rests, appends, closes, takes_back, drops}

abbrev pub FitsLayout : Layout → LogPart → Type 0
FitsLayout layout rests = Unit {0}
FitsLayout layout (appends place r) = (place.bucket < MAX_WORDS) × (place.cell < layout.cells)
FitsLayout layout (closes gates ends checkpoints) = Unit {0}
FitsLayout layout (takes_back gates) = Unit {0}
FitsLayout layout (drops r) = r.next < MAX_WORDS
