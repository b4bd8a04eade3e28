use Rattle.log_keeper.proofs.Sounding as lemmas
use Rattle.log_keeper.proofs.laws.groups_stay_sound.Goals as goal

pub returns : goal.returns
returns c = lemmas.groups_stay_sound
