use Rattle.log_laws.proofs.MoveRooms.{end_fits}
use Rattle.log_laws.proofs.end_fits.Goals as goal

pub returns : goal.returns
returns c = end_fits
