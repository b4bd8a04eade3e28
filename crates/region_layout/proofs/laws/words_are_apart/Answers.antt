use Rattle.region_layout.proofs.Places.{words_apart}
use Rattle.region_layout.proofs.laws.words_are_apart.Goals as goal

pub returns : goal.returns
returns c = words_apart
