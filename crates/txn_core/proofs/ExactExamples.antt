-- How many events a call has at the most, with one cell a bucket and four buckets.
use Rattle.std.proofs.Common.{◌≡◌, ℕ, refl}
use Rattle.persist_model.specs.Shape.{Shape}
use Rattle.lane_types.specs.declared.call.Call.TheVariants as Call
use Rattle.txn_core.specs.Exact.{call_events}

abbrev small : Shape
small = record { policy = 1; cells = 1; buckets = 4; blocks = 16; structures = 2; format = 1; partitions = 1 }

-- a write appends its update, and stores its word
a_write : call_events {E = ℕ} small 0 (Call.Write 103 7) ≡ 23
a_write = refl

-- the commit of one update: a fence, the end, the closing of both records, and the removal of four buckets
a_commit : call_events {E = ℕ} small 1 (Call.Commit 0) ≡ 55
a_commit = refl

-- its abort: the rollback record, a compensation and its word, a fence, the end, the closing of four records, and the removal of four buckets
an_abort : call_events {E = ℕ} small 1 Call.Abort ≡ 102
an_abort = refl

a_read : call_events {E = ℕ} small 1 (Call.Read 103) ≡ 0
a_read = refl
