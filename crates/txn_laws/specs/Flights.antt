-- The flight: the commits whose ends' gates are stored and not fenced yet. An image may have some of them.
use Rattle.std.specs.Prelude.{Bool, not, ◌&&◌, if◌then◌else◌, List, [], ◌∷◌}
use Rattle.history_laws.specs.Histories.{Entry}
use Rattle.txn_laws.specs.Txns.{Txn, entry_of}

abbrev pub is_flying : Txn → Bool
is_flying x = x.commits && (x.ended && not x.over)

-- in the order of their lanes
abbrev pub flight_of : List Txn → List Entry
flight_of [] = []
flight_of (x ∷ lanes) = if is_flying x then entry_of x ∷ flight_of lanes else flight_of lanes
