use Rattle.std.proofs.Common.{add-one}
use Rattle.persist_model.specs.State.{total_need}
use Rattle.persist_model.specs.Need.{need_in}
use Rattle.sound_check.proofs.Needing.{saturated_both}
use Rattle.sound_check.proofs.numbers.total_need.Goals as goal

pub loop-p-preserved : goal.loop-p-preserved
loop-p-preserved c = λ part log all.
    rw add-one (saturated_both 18446744073709551615 (total_need part c.loop-p.p log) (need_in part c.loop-p.p log) c.loop-p.sum c.need.result c.saturating_add-sum.result
    (c.loop-p.invariant part log all) (c.need.ensures part log all) c.saturating_add-sum.ensures)
