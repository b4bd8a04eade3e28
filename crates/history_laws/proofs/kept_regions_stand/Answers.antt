use Rattle.history_laws.proofs.ImagesStand as lemmas
use Rattle.history_laws.proofs.kept_regions_stand.Goals as goal

pub returns : goal.returns
returns c = lemmas.kept_regions_stand
