use Rattle.log_laws.proofs.MoveRooms.{checkpoint_fits}
use Rattle.log_laws.proofs.checkpoint_fits.Goals as goal

pub returns : goal.returns
returns c = checkpoint_fits
