use Rattle.log_laws.proofs.MoveRooms.{compensation_fits}
use Rattle.log_laws.proofs.compensation_fits.Goals as goal

pub returns : goal.returns
returns c = compensation_fits
