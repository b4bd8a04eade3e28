use Rattle.bucket_log.proofs.ScanLogs as lemmas
use Rattle.bucket_log.proofs.laws.views_have_logs.Goals as goal

pub returns : goal.returns
returns c = lemmas.views_have_logs
