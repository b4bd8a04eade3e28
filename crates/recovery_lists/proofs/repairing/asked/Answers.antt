use Rattle.region_layout.specs.Layout.{layout_shape}
use Rattle.recovery_run.specs.Reached.{newest_at}
use Rattle.recovery_lists.specs.Repairs.{seen}
use Rattle.recovery_lists.proofs.Reading.{enough_words, view_is_log, view_is_seen}
use Rattle.recovery_lists.proofs.repairing.asked.Goals as goal

pub new-requires-clause-words : goal.new-requires-clause-words
new-requires-clause-words g c = enough_words c.args.layout (g.D.Device.cells c.args.device.now) c.requires.settled (g.D.Look.words c.args.device.now) (g.met.D.Device.reads c.args.device.now)

pub repair_of-requires : goal.repair_of-requires
repair_of-requires g c = (view_is_log c.args.layout (g.D.Device.cells c.args.device.now) c.requires.settled (g.D.Look.words c.args.device.now) (g.met.D.Device.reads c.args.device.now)
    c.args.p _ c.requires.partition c.new.ensures).has_list

pub returns : goal.returns
returns g c = c.repair_of.ensures (seen (layout_shape c.args.layout) c.args.p (newest_at (g.D.Device.cells c.args.device.now)))
    (view_is_seen c.args.layout (g.D.Device.cells c.args.device.now) c.requires.settled (g.D.Look.words c.args.device.now) (g.met.D.Device.reads c.args.device.now)
    c.args.p _ c.requires.partition c.new.ensures)
