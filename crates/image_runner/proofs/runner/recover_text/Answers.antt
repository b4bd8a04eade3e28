use Rattle.image_runner.proofs.Again.{leaves_again}
use Rattle.image_runner.proofs.runner.recover_text.Goals as goal

pub returns-clause-recovered_again : goal.returns-clause-recovered_again
returns-clause-recovered_again g c = λ i is admitted enough.
    leaves_again c.args.wanted c.args.text.now (g.D.Device.cells c.args.region.now) (g.D.Device.cells c.read_and_recover.new.region)
    (g.D.Device.counts c.args.region.now) (g.D.Device.counts c.read_and_recover.new.region) c.read_and_recover.result c.read_and_recover.ensures i is admitted enough
