use Rattle.history_laws.proofs.ImagesStand as lemmas
use Rattle.history_laws.proofs.regions_stand.Goals as goal

pub returns : goal.returns
returns c = lemmas.regions_stand
