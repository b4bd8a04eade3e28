use Rattle.std.proofs.Common.{◌≡◌, ℕ, ◌≤◌, length, map, reverse, take}
use Rattle.persist_model.specs.Records.{IsAmong}
use Rattle.persist_model.specs.Need.{to_undo}
use Rattle.bucket_log.specs.declared.scanning.Placed.{Placed}
use Rattle.bucket_log.specs.Scans.{record_of_placed}
use Rattle.recovery_analysis.proofs.fates.waiting_updates.Given as goal

abbrev pub invariant-loop-placed : goal.invariant-loop-placed
invariant-loop-placed l = record {
  few : l.waiting ≤ l.placed-index;
  count : (t : ℕ) → ((x : Placed) → IsAmong l.records x → x.cell.transaction ≡ t) → l.waiting ≡ length (to_undo t (reverse (map record_of_placed (take l.placed-index l.records))));
}
