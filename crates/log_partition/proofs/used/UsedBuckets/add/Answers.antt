use Rattle.std.proofs.Common.{refl}
use Rattle.log_partition.proofs.Known.{knows_more}
use Rattle.log_partition.proofs.used.UsedBuckets.add.Goals as goal

pub returns : goal.returns
returns c = λ chains knows. knows_more c.args.layout c.args.p c.args.bucket _ _ chains c.requires.part c.requires.bucket (c.mark.ensures c.requires.bucket.0 c.requires.bucket.3) refl knows
