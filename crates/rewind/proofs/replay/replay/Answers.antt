use Rattle.rewind.proofs.Outcomes.{caused_through}
use Rattle.rewind.proofs.replay.replay.Goals as goal

pub returns-in-Ok-clause-cause : goal.returns-in-Ok-clause-cause
returns-in-Ok-clause-cause g c =
    caused_through c.in-Some.job _ _ _ _ c.do_job.result.0 c.deref.ensures.value c.limit.ensures c.in-Some.ensures.named c.in-Ok.ensures.whole c.in-Ok.ensures.short c.do_job.ensures.cause
