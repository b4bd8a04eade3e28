use Rattle.std.proofs.Common.{◌≡◌, drop}
use Rattle.rewind.specs.History.{Contents, contents, after_transactions}
use Rattle.rewind.specs.Table.{IsTableOf}
use Rattle.rewind.proofs.table.table_of.Given as goal

-- The transactions that are left complete the map.
abbrev pub invariant-loop-transaction : goal.invariant-loop-transaction
invariant-loop-transaction l = (n : Contents) × IsTableOf n l.table × (after_transactions n (drop l.transaction-index l.transactions) ≡ contents l.transactions)
