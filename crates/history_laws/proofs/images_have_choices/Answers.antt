use Rattle.history_laws.proofs.ImagesStand as lemmas
use Rattle.history_laws.proofs.images_have_choices.Goals as goal

pub returns : goal.returns
returns c = lemmas.images_have_choices
