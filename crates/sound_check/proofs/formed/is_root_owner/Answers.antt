use Rattle.std.proofs.Common.{arith}
use Rattle.sound_check.proofs.formed.is_root_owner.Goals as goal

pub returns-in-None : goal.returns-in-None
returns-in-None c = ((λ t. cc), (λ h. let few = c.args.layout.structures_within in let many = c.args.layout.blocks_within in let lt = h.1 in absurd (c.in-None.ensures h.0 (omega (arith, few, many, lt)) h.2)))
