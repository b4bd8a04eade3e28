use Rattle.std.proofs.Common.{◌≡◌, ◌*◌, ◌≤◌, take}
use Rattle.rewind.specs.Events.{store_count}
use Rattle.rewind.proofs.run.count_stores.Given as goal

abbrev pub invariant-loop-transaction : goal.invariant-loop-transaction
invariant-loop-transaction l = record {
  counted : l.stores ≡ store_count (take l.transaction-index l.transactions);
  bound : l.stores ≤ 256 * l.transaction-index;
}
