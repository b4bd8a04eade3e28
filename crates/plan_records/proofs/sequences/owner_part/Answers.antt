use Rattle.std.proofs.Common.{sym, ◌∙◌, arith}
use Rattle.plan_records.proofs.PartNumbers.{owner_at, owner_fence, owner_past}
use Rattle.plan_records.proofs.sequences.owner_part.Goals as goal
use Rattle.plan_records.proofs.sequences.owner_part.Goals.{else-count-gt0-via-then-count-gt0+else-i-count, else-count-gt0-via-else-count-gt0}

pub returns-in-Some : goal.returns-in-Some
returns-in-Some c = sym (owner_at c.args.owners.now c.args.i c.in-Some.owner.now (sym c.in-Some.ensures))

pub returns-then-i-count : goal.returns-then-i-count
returns-then-i-count c = let n = c.len-count.ensures in let gt = c.if-count-gt0.true in let e = c.if-i-count.true in
    sym (owner_fence c.args.owners.now c.args.i (e ∙ n) (λ z. absurd (omega (arith, z, n, gt))))

pub returns-else-count-gt0 : goal.returns-else-count-gt0
returns-else-count-gt0 c = let n = c.len-count.ensures in
    sym (owner_past c.args.owners.now c.args.i (sym c.in-None.ensures) (λ some e. elim c.else-count-gt0.branch [
      | else-count-gt0-via-then-count-gt0+else-i-count w ↦ w.if-i-count.false (e ∙ sym n)
      | else-count-gt0-via-else-count-gt0 w ↦ (let off = w.if-count-gt0.false in omega (arith, off, n, some))
    ]))
