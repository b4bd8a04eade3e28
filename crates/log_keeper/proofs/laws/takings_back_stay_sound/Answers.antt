use Rattle.log_keeper.proofs.Sounding as lemmas
use Rattle.log_keeper.proofs.laws.takings_back_stay_sound.Goals as goal

pub returns : goal.returns
returns c = lemmas.takings_back_stay_sound
