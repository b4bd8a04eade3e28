use Rattle.save_point.proofs.UndoCourse as lemmas
use Rattle.save_point.proofs.laws.backs_go_on.Goals as goal

pub returns : goal.returns
returns c = lemmas.backs_go_on
