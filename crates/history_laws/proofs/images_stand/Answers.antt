use Rattle.history_laws.proofs.ImagesStand as lemmas
use Rattle.history_laws.proofs.images_stand.Goals as goal

pub returns : goal.returns
returns c = lemmas.images_stand
