use Rattle.std.proofs.Common.{rules}
use Rattle.sound_check.proofs.BucketLists.{filter_without}
use Rattle.sound_check.proofs.walk.without.Goals as goal

pub returns : goal.returns
returns c = rw (← filter_without c.args.b c.args.walk.now) (search rules)
