use Rattle.log_laws.proofs.MoveRooms.{rollback_fits}
use Rattle.log_laws.proofs.rollback_fits.Goals as goal

pub returns : goal.returns
returns c = rollback_fits
