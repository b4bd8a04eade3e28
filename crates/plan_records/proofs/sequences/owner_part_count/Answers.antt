use Rattle.std.proofs.Common.{ap, sym, ◌∙◌, arith, length}
use Rattle.plan_records.proofs.PartNumbers.{length-owner_parts, no_owners}
use Rattle.plan_records.proofs.sequences.owner_part_count.Goals as goal

pub returns-then-count-eq0 : goal.returns-then-count-eq0
returns-then-count-eq0 c = let n = ap length c.as_slice.ensures in sym (no_owners c.args.owners.now (sym n ∙ c.if-count-eq0.true))

pub returns-else-count-eq0 : goal.returns-else-count-eq0
returns-else-count-eq0 c = let n = ap length c.as_slice.ensures in
    let l = length-owner_parts c.args.owners.now (λ e. c.if-count-eq0.false (n ∙ e)) in omega (arith, n, l)
