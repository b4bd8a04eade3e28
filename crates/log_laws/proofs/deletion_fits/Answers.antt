use Rattle.log_laws.proofs.MoveRooms.{deletion_fits}
use Rattle.log_laws.proofs.deletion_fits.Goals as goal

pub returns : goal.returns
returns c = deletion_fits
