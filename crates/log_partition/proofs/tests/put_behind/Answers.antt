use Rattle.log_partition.specs.Used.{with_bucket}
use Rattle.log_partition.proofs.tests.put_behind.Goals as goal

pub returns : goal.returns
returns c = (with_bucket c.args.p c.args.bucket c.requires.knows.0, c.add.ensures c.requires.knows.0 c.requires.knows.1)
