use Rattle.std.proofs.Common.{map, reverse, take}
use Rattle.bucket_log.specs.Scans.{record_of_placed}
use Rattle.rest_check.specs.Rest.{IsLeastGate}
use Rattle.rest_check.proofs.reading.first_open.Given as goal

abbrev pub invariant-loop-placed : goal.invariant-loop-placed
invariant-loop-placed l = IsLeastGate (reverse (map record_of_placed (take l.placed-index l.records))) l.least
