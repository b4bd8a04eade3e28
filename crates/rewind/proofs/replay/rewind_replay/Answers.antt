use Rattle.rewind.proofs.Answering.{answered}
use Rattle.rewind.proofs.replay.rewind_replay.Goals as goal

pub returns : goal.returns
returns g c = answered _ _ _ (record {
  outcome = c.replay-outcome.result.0;
  cause = c.replay-outcome.ensures.cause;
  told = c.write_outcome-status.ensures;
})
