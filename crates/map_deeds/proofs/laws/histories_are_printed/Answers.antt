use Rattle.map_deeds.proofs.Carrying.{histories_are_printed}
use Rattle.map_deeds.proofs.laws.histories_are_printed.Goals as goal

pub returns : goal.returns
returns c = histories_are_printed
