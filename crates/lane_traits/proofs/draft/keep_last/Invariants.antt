use Rattle.std.proofs.Common.{◌≡◌, ◌≤◌, take, drop}
use Rattle.lane_traits.specs.Draft.{noted_all, last_writes}
use Rattle.lane_traits.proofs.draft.keep_last.Given as goal

abbrev pub invariant-loop-next : goal.invariant-loop-next
invariant-loop-next l = record {
  few : l.kept ≤ l.next;
  noted : noted_all (take l.kept l.log) (drop l.next l.log) ≡ last_writes l.fn.log;
}
