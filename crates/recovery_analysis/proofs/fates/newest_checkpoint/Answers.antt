use Rattle.std.proofs.Common.{arith}
use Rattle.recovery_analysis.specs.Fates.{IsNewestCheckpoint}
use Rattle.recovery_analysis.proofs.Fated.{all_read, checkpoint_read}
use Rattle.recovery_analysis.proofs.fates.newest_checkpoint.Goals as goal

pub loop-placed-preserved : goal.loop-placed-preserved
loop-placed-preserved c = checkpoint_read c.args.merged.now c.loop-placed.placed-index c.loop-placed.newest c.later_checkpoint-newest.result _ (omega arith)
    c.later_checkpoint-newest.ensures c.loop-placed.invariant

pub returns : goal.returns
returns c = all_read (λ log. IsNewestCheckpoint log c.loop-placed.newest) c.args.merged.now c.loop-placed.placed-index (omega arith) c.loop-placed.invariant
