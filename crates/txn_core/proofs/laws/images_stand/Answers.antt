use Rattle.txn_core.proofs.Flights as lemmas
use Rattle.txn_core.proofs.laws.images_stand.Goals as goal

pub returns : goal.returns
returns g c = λ layout start book keeper region spare events calls st i m. lemmas.images_stand layout start book keeper region spare events calls st i m
