use Rattle.log_laws.proofs.Naming.{undo_point_is_earlier}
use Rattle.log_laws.proofs.undo_point_is_earlier.Goals as goal

pub returns : goal.returns
returns c = undo_point_is_earlier
