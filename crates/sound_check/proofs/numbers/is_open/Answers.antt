use Rattle.sound_check.proofs.Needing.{open_tells}
use Rattle.sound_check.proofs.numbers.is_open.Goals as goal

pub returns : goal.returns
returns c = open_tells c.requires.0 c.args.rows.now c.args.whole.now c.newest_checkpoint.result c.has_unskipped.result c.requires.1 c.newest_checkpoint.ensures c.has_unskipped.ensures
