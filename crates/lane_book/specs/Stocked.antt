-- A list with room for more.
use Rattle.std.specs.Prelude.{ℕ, List, []}

pub record Stocked (T : Type 0) : Type 0 where
  pub items : List T
  pub capacity : ℕ

abbrev pub with_items : {T : Type 0} → List T → Stocked T → Stocked T
with_items items stock = record stock { items = items }

abbrev pub no_stock : {T : Type 0} → Stocked T
no_stock = record { items = []; capacity = 0 }
