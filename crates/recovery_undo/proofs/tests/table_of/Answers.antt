use Rattle.std.proofs.Common.{List, ℕ, subst}
use Rattle.std.specs.Prelude.{slice_index}
use Rattle.region_layout.specs.Layout.{layout_shape}
use Rattle.log_partition.specs.Used.{KnowsChains, chains_in}
use Rattle.recovery_undo.proofs.Small.{tested_logs}
use Rattle.recovery_undo.proofs.tests.table_of.Goals as goal

pub read-requires-clause-logs : goal.read-requires-clause-logs
read-requires-clause-logs g c = tested_logs c.args.layout (g.D.Device.cells c.args.device.now) _ (g.met.D.Device.reads c.args.device.now) c.requires

pub returns : goal.returns
returns g c = subst (λ (xs : List ℕ). KnowsChains (layout_shape c.args.layout) c.read.new.self (chains_in (layout_shape c.args.layout) (slice_index xs))) (g.met.D.Device.reads c.args.device.now) c.read.ensures
