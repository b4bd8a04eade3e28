use Rattle.rest_check.proofs.Unrested as lemmas
use Rattle.rest_check.proofs.laws.unrested_is_one.Goals as goal

pub returns : goal.returns
returns c = lemmas.unrested_is_one
