use Rattle.std.proofs.Common.{arith}
use Rattle.log_partition.proofs.Small.{small_logs, bucket_at}
use Rattle.log_partition.proofs.tests.the_least_bucket_outside_a_chain_is_known.Goals as goal

pub read-requires-clause-logs : goal.read-requires-clause-logs
read-requires-clause-logs g c = small_logs c.small_layout-layout.result _ c.small_layout-layout.ensures c.in_ok-row.ensures

pub put_behind-requires-clause-bucket : goal.put_behind-requires-clause-bucket
put_behind-requires-clause-bucket g c = bucket_at c.small_layout-layout.result 0 1 c.small_layout-layout.ensures (omega arith) (omega arith) (omega arith)

pub put_behind-requires-2-clause-bucket : goal.put_behind-requires-2-clause-bucket
put_behind-requires-2-clause-bucket g c = bucket_at c.small_layout-layout.result 0 3 c.small_layout-layout.ensures (omega arith) (omega arith) (omega arith)

pub put_behind-requires-3-clause-bucket : goal.put_behind-requires-3-clause-bucket
put_behind-requires-3-clause-bucket g c = bucket_at c.small_layout-layout.result 1 7 c.small_layout-layout.ensures (omega arith) (omega arith) (omega arith)

pub put_behind-requires-4-clause-bucket : goal.put_behind-requires-4-clause-bucket
put_behind-requires-4-clause-bucket g c = bucket_at c.small_layout-layout.result 1 5 c.small_layout-layout.ensures (omega arith) (omega arith) (omega arith)
