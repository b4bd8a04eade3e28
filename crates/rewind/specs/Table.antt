-- A map of cells as a table: a place for each of its keys, 0 to 11.
use Rattle.std.specs.Prelude.{◌≡◌, ℕ, ◌<◌, List, Option, None, slice_index_or}
use Rattle.region_layout.specs.CellsMap.{CELL_KEYS}
use Rattle.rewind.specs.History.{Contents}

abbrev pub IsTableOf : Contents → List (Option ℕ) → Type 0
IsTableOf m table = (k : ℕ) → k < CELL_KEYS → slice_index_or table k None ≡ m k
