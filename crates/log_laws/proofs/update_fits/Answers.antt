use Rattle.log_laws.proofs.MoveRooms.{update_fits}
use Rattle.log_laws.proofs.update_fits.Goals as goal

pub returns : goal.returns
returns c = update_fits
