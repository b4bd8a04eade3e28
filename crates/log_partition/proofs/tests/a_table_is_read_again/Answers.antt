use Rattle.log_partition.proofs.Small.{small_logs}
use Rattle.log_partition.proofs.tests.a_table_is_read_again.Goals as goal

pub read-requires-clause-logs : goal.read-requires-clause-logs
read-requires-clause-logs g c = small_logs c.small_layout-layout.result _ c.small_layout-layout.ensures c.in_ok-row.ensures

pub read-requires-2-clause-logs : goal.read-requires-2-clause-logs
read-requires-2-clause-logs g c = small_logs c.small_layout-layout.result _ c.small_layout-layout.ensures c.in_ok-row.ensures
