use Rattle.image_runner.proofs.Cuts.{came_through}
use Rattle.image_runner.proofs.migrating.migrate_through_cut.Goals as goal

pub returns : goal.returns
returns g c =
    came_through c.args.image.now c.args.stop (g.D.Device.cells c.args.region) _ _ _ (g.D.Device.counts c.args.region) _ _ (g.D.Device.counts c.into_inner-region.result) c.migrate_image-migrated.result c.used_up-used_up.result
    c.fault_of_cut.result c.new-cut.ensures.cells c.new-cut.ensures.counts c.into_inner-region.ensures.cells c.fault_of_cut.ensures c.into_inner-region.ensures.counts (g.met.D.Device.stopped_fits c.args.region)
    c.used_up-used_up.ensures c.migrate_image-migrated.ensures
