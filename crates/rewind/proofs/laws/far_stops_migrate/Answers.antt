use Rattle.rewind.proofs.Rests.{far_stops}
use Rattle.rewind.proofs.laws.far_stops_migrate.Goals as goal

pub returns : goal.returns
returns c = far_stops
