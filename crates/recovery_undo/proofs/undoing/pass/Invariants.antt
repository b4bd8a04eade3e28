use Rattle.std.proofs.Common.{◌≤◌, ◌+◌, length, map, reverse, take}
use Rattle.bucket_log.specs.Scans.{record_of_placed}
use Rattle.recovery_undo.specs.UndoProgress.{seen, Start, Passes}
use Rattle.recovery_undo.proofs.undoing.pass.Given as goal

abbrev pub invariant-loop-left : goal.invariant-loop-left
invariant-loop-left g l = record {
  bound : l.counter + l.left ≤ length l.records;
  so_far : (start : Start) → Passes l.target start (reverse (map record_of_placed l.records)) 0 l.initial.held
      (seen (g.D.Device.cells l.initial.device) (g.D.Device.counts l.initial.device) (g.D.Device.spare l.initial.device))
      → Passes l.target start (reverse (map record_of_placed (take l.left l.records))) l.counter l.held
      (seen (g.D.Device.cells l.device) (g.D.Device.counts l.device) (g.D.Device.spare l.device));
}

abbrev pub decreases-loop-left : goal.decreases-loop-left
decreases-loop-left g l = l.left
