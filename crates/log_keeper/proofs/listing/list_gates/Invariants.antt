use Rattle.std.proofs.Common.{◌≤◌, length}
use Rattle.std.specs.Vec.{vec_capacity}
use Rattle.log_keeper.specs.Noting.{ledger_of}
use Rattle.log_keeper.specs.Listing.{gates_in}
use Rattle.log_keeper.proofs.GateLists.{AreListing}
use Rattle.log_keeper.proofs.listing.list_gates.Given as goal

abbrev pub invariant-loop-entry : goal.invariant-loop-entry
invariant-loop-entry l = record {
  listing : AreListing l.transaction l.ends l.entries l.entry-index l.list.items;
  room : length (gates_in l.transaction l.ends (ledger_of l.entries)) ≤ vec_capacity l.list;
  capacity : vec_capacity l.fn.list ≤ vec_capacity l.list;
}
