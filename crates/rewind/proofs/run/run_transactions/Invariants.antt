use Rattle.std.proofs.Common.{◌≡◌, ◌≤◌, drop, take}
use Rattle.rewind.specs.History.{Contents, after_transactions}
use Rattle.rewind.specs.Events.{IsAtRest, event_count, store_count, with_events}
use Rattle.rewind.proofs.run.run_transactions.Given as goal

-- The transactions that are left complete the map.
abbrev pub invariant-loop-transaction : goal.invariant-loop-transaction
invariant-loop-transaction g l = record {
  contents : (m : Contents) → IsAtRest l.root m (g.D.Device.cells l.initial.region) →
      (n : Contents) × IsAtRest l.root n (g.D.Device.cells l.region) × (after_transactions n (drop l.transaction-index l.transactions) ≡ after_transactions m l.transactions);
  size : (g.D.Device.cells l.region).size ≡ (g.D.Device.cells l.initial.region).size;
  commits : l.commits ≡ l.transaction-index;
  made : g.D.Device.counts l.region ≡ with_events (event_count (take l.transaction-index l.transactions)) (g.D.Device.counts l.initial.region);
  spare : store_count (drop l.transaction-index l.transactions) ≤ g.D.Device.spare l.region;
}
