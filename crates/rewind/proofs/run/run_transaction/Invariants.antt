use Rattle.std.proofs.Common.{◌≡◌, ◌+◌, ◌≤◌, drop}
use Rattle.rewind.specs.History.{Contents, after_puts}
use Rattle.rewind.specs.Events.{IsAtRest, IsUnderWay, with_events}
use Rattle.rewind.proofs.run.run_transaction.Given as goal

-- The puts that are left complete the map.
abbrev pub invariant-loop-put : goal.invariant-loop-put
invariant-loop-put g l = record {
  contents : (m : Contents) → IsAtRest l.root m (g.D.Device.cells l.initial.region) →
      (n : Contents) × IsUnderWay l.root n (g.D.Device.cells l.region) × (after_puts n (drop l.put-index l.puts) ≡ after_puts m l.puts);
  size : (g.D.Device.cells l.region).size ≡ (g.D.Device.cells l.initial.region).size;
  made : g.D.Device.counts l.region ≡ with_events l.put-index (g.D.Device.counts l.initial.region);
  spare : g.D.Device.spare l.initial.region ≤ g.D.Device.spare l.region + l.put-index;
}
