use Rattle.log_partition.proofs.tests.expect_least.Goals as goal

pub returns : goal.returns
returns g c = (c.requires.knows.0, c.least-least.ensures.knows c.requires.knows.0 c.requires.knows.1)
