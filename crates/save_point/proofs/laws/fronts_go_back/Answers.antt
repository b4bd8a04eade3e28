use Rattle.save_point.proofs.Fronts as lemmas
use Rattle.save_point.proofs.laws.fronts_go_back.Goals as goal

pub returns : goal.returns
returns c = lemmas.fronts_go_back
