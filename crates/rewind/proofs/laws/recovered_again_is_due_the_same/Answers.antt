use Rattle.rewind.proofs.DueLaws.{same_due}
use Rattle.rewind.proofs.laws.recovered_again_is_due_the_same.Goals as goal

pub returns : goal.returns
returns c = same_due
