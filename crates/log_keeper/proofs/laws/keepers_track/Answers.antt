use Rattle.log_keeper.proofs.Reading as lemmas
use Rattle.log_keeper.proofs.laws.keepers_track.Goals as goal

pub returns : goal.returns
returns c = lemmas.keepers_track
