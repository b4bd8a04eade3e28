use Rattle.image_runner.proofs.migrating.migrate_image.Goals as goal

pub returns-in-Ok : goal.returns-in-Ok
returns-in-Ok g c = c.migrate_loaded.ensures (g.D.Device.cells c.args.region.now) (g.D.Device.counts c.args.region.now) c.in-Ok.ensures.counts
