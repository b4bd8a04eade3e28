-- Rows of records, the oldest first.
use Rattle.std.specs.Prelude.{List, map, reverse}
use Rattle.persist_model.specs.Records.{Log}
use Rattle.bucket_log.specs.declared.scanning.Placed.{Placed}
use Rattle.bucket_log.specs.Scans.{record_of_placed}

-- the records of some rows as a log, newest first
abbrev pub log_of_rows : List Placed → Log
log_of_rows rows = reverse (map record_of_placed rows)
