use Rattle.bucket_log.proofs.ScanLogs as lemmas
use Rattle.bucket_log.proofs.laws.logs_are_states.Goals as goal

pub returns : goal.returns
returns c = lemmas.logs_are_states
