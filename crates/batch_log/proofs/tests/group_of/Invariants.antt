use Rattle.std.proofs.Common.{◌≡◌, vec_len}
use Rattle.batch_log.proofs.tests.group_of.Given as goal

abbrev pub invariant-loop-i : goal.invariant-loop-i
invariant-loop-i l = vec_len l.records ≡ l.i
