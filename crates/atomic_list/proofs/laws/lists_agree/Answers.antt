use Rattle.atomic_list.proofs.Agreeing.{lists_agree}
use Rattle.atomic_list.proofs.laws.lists_agree.Goals as goal

pub returns : goal.returns
returns c = lists_agree
