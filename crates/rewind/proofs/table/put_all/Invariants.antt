use Rattle.std.proofs.Common.{◌≡◌, drop}
use Rattle.rewind.specs.History.{Contents, after_puts}
use Rattle.rewind.specs.Table.{IsTableOf}
use Rattle.rewind.proofs.table.put_all.Given as goal

-- The puts that are left complete the map.
abbrev pub invariant-loop-put : goal.invariant-loop-put
invariant-loop-put l = (m : Contents) → IsTableOf m l.initial.table →
    (n : Contents) × IsTableOf n l.table × (after_puts n (drop l.put-index l.puts) ≡ after_puts m l.puts)
