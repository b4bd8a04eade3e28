use Rattle.std.specs.Prelude.{slice_index, length}
use Rattle.log_clearing.proofs.ClosedBuckets.{removal_same}
use Rattle.log_clearing.proofs.dropping.removal.Goals as goal

pub returns : goal.returns
returns g c = λ w same. removal_same c.args.layout (length (g.W.Look.words c.args.words.now)) (slice_index (g.W.Look.words c.args.words.now)) w c.read_removal.result c.requires same c.read_removal.ensures
