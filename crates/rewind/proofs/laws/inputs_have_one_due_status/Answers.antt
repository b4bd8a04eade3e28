use Rattle.rewind.proofs.DueLaws.{one_due}
use Rattle.rewind.proofs.laws.inputs_have_one_due_status.Goals as goal

pub returns : goal.returns
returns c = one_due
