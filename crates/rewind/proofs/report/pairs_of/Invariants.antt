use Rattle.std.proofs.Common.{◌≡◌}
use Rattle.std.specs.List.{flat_map, range_with_len}
use Rattle.rewind.specs.History.{Contents, pair_of}
use Rattle.rewind.specs.Table.{IsTableOf}
use Rattle.rewind.proofs.report.pairs_of.Given as goal

abbrev pub invariant-loop-key : goal.invariant-loop-key
invariant-loop-key l = (m : Contents) → IsTableOf m l.table → l.pairs ≡ flat_map (λ k. pair_of k (m k)) (range_with_len 0 l.key)
