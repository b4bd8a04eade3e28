use Rattle.std.proofs.Common.{ap, ◌∙◌, rules}
use Rattle.persist_model.specs.Shape.{part_of}
use Rattle.region_layout.specs.Layout.{layout_shape}
use Rattle.log_tables.specs.Seen.{has_other}
use Rattle.sound_check.proofs.Ordering.{scattered_tells}
use Rattle.sound_check.proofs.order.is_scattered.Goals as goal

pub returns : goal.returns
returns c = λ earlier own. scattered_tells (part_of (layout_shape c.args.layout)) earlier c.args.r.now.cell.transaction (part_of (layout_shape c.args.layout) c.args.r.now.at) c.has_other.result
    (c.has_other.ensures ∙ ap (has_other c.args.own.parts) (search rules) ∙ own.parts (part_of (layout_shape c.args.layout) c.args.r.now.at))
