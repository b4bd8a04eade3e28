use Rattle.region_layout.specs.Layout.{layout_shape}
use Rattle.sound_check.proofs.Needing.{numbers_tell}
use Rattle.sound_check.proofs.numbers.keeps_numbers.Goals as goal

pub returns : goal.returns
returns c = numbers_tell (layout_shape c.args.layout) c.args.rows.now c.drawn.result c.is_exceeded.result c.drawn.ensures c.is_exceeded.ensures
