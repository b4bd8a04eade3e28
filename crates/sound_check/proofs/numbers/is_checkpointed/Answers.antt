use Rattle.std.proofs.Common.{ap}
use Rattle.persist_model.specs.Shape.{part_of}
use Rattle.region_layout.specs.Layout.{layout_shape, policy_number}
use Rattle.sound_check.proofs.numbers.is_checkpointed.Goals as goal

pub is_open-requires : goal.is_open-requires
is_open-requires c = (part_of (layout_shape c.args.layout), c.requires)

pub returns-in-NoForce : goal.returns-in-NoForce
returns-in-NoForce c = let k = c.is_open.ensures in ((λ t. (ap policy_number c.in-NoForce.is, k.0 t)), (λ h. k.1 h.1))
