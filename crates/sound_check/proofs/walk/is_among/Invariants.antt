use Rattle.std.proofs.Common.{drop}
use Rattle.persist_model.specs.Records.{IsAmong}
use Rattle.sound_check.proofs.walk.is_among.Given as goal

abbrev pub invariant-loop-x : goal.invariant-loop-x
invariant-loop-x l = IsAmong l.buckets l.b → IsAmong (drop l.x-index l.buckets) l.b
