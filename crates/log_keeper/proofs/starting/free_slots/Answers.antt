use Rattle.std.proofs.Common.{ap, sym, subst, arith, length, length-append, [], ◌∷◌}
use Rattle.log_keeper.specs.Starting.{AreFree}
use Rattle.log_keeper.proofs.Memory.{free_more}
use Rattle.log_keeper.proofs.starting.free_slots.Goals as goal

pub loop-preserved : goal.loop-preserved
loop-preserved c =
    let is = c.in_ok-put.ensures in
    let before = c.loop.invariant in
    let count = before.0 in
    let long = ap length is in
    let both = length-append c.loop.slots.items (c.new.result ∷ []) in (
      omega (arith, count, long, both),
      subst AreFree (sym is) (free_more c.loop.slots.items c.new.result before.1 c.new.ensures.free),
    )
