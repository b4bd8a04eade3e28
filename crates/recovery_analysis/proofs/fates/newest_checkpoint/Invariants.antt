use Rattle.std.proofs.Common.{map, reverse, take}
use Rattle.bucket_log.specs.Scans.{record_of_placed}
use Rattle.recovery_analysis.specs.Fates.{IsNewestCheckpoint}
use Rattle.recovery_analysis.proofs.fates.newest_checkpoint.Given as goal

abbrev pub invariant-loop-placed : goal.invariant-loop-placed
invariant-loop-placed l = IsNewestCheckpoint (reverse (map record_of_placed (take l.placed-index l.merged))) l.newest
