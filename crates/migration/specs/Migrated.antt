-- Words of format 1 that are made words of format 2.
use Rattle.std.specs.Prelude.{◌≡◌, ◌≢◌, ℕ, List}
use Rattle.persist_model.specs.Region.{Words}
use Rattle.persist_model.specs.Shape.{Shape, FIRST_MAGIC, SECOND_MAGIC}
use Rattle.region_layout.specs.declared.layout.Kind.{Kind}
use Rattle.migration.specs.Plan.{IsReserved, reserved_word}

-- the shape in another format
abbrev pub in_format : ℕ → Shape → Shape
in_format n shape = record shape { format = n }

-- all but the magic and the reserved words are as they were
abbrev pub KeepsRest : Words → Words → Type 0
KeepsRest w z = (a : ℕ) → a ≢ 0 → (IsReserved a → ⊥) → z a ≡ w a

-- z is w in format 2, with these kinds
pub record AreMigrated (kinds : List Kind) (w z : Words) : Type 0 where
  pub magic : z 0 ≡ SECOND_MAGIC
  pub reserved : (a : ℕ) → IsReserved a → z a ≡ reserved_word kinds a
  pub rest : KeepsRest w z

-- What a stop may leave of w: the magic of format 1 with anything in the reserved words, or the whole of format 2.
pub data IsOnTheWay (kinds : List Kind) (w i : Words) : Type 0 where
  first : i 0 ≡ FIRST_MAGIC → KeepsRest w i → IsOnTheWay kinds w i
  second : AreMigrated kinds w i → IsOnTheWay kinds w i
