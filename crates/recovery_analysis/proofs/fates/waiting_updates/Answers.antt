use Rattle.std.proofs.Common.{arith}
use Rattle.std.proofs.lemmas.Grind.{common_steps}
use Rattle.recovery_analysis.proofs.Fated.{waiting_read, waiting_all}
use Rattle.recovery_analysis.proofs.fates.waiting_updates.Goals as goal

pub loop-placed-preserved : goal.loop-placed-preserved
loop-placed-preserved c = record {
  few = grind (arith, common_steps);
  count = λ t own. waiting_read c.args.records.now c.loop-placed.placed-index t c.loop-placed.waiting c.waiting_with-waiting.result _ (omega arith) own
      c.waiting_with-waiting.ensures (c.loop-placed.invariant.count t own);
}

pub returns-clause-count : goal.returns-clause-count
returns-clause-count c = λ t own. waiting_all c.args.records.now c.loop-placed.placed-index t c.loop-placed.waiting (omega arith) (c.loop-placed.invariant.count t own)
