-- Whether the kinds of structures fit the words of a region.
use Rattle.std.specs.Prelude.{◌≡◌, ℕ, ◌+◌, ◌<◌, List, length, Some}
use Rattle.std.specs.List.{slice_get}
use Rattle.persist_model.specs.ImageRules.{SIZES_RULE}
use Rattle.persist_model.specs.Region.{Words}
use Rattle.persist_model.specs.Shape.{SECOND_MAGIC}
use Rattle.region_layout.specs.declared.layout.Kind.{Kind}
use Rattle.region_layout.specs.Layout.{kind_number}

-- structure s has the kind that the words say
abbrev pub IsOfKind : Words → List Kind → ℕ → Type 0
IsOfKind w kinds s = (kind : Kind) → slice_get kinds s ≡ Some kind → w (13 + s) ≡ kind_number kind

-- There are as many kinds as structures, and in format 2 they are those of the header.
pub record Fit (w : Words) (kinds : List Kind) : Type 0 where
  pub count : length kinds ≡ w 5
  pub each : w 0 ≡ SECOND_MAGIC → (s : ℕ) → s < length kinds → IsOfKind w kinds s

-- The fault of kinds that don't fit: their number, or the word of the first kind that is another.
pub data IsLineFault (w : Words) (kinds : List Kind) (fault a : ℕ) : Type 0 where
  counted : (length kinds ≡ w 5 → ⊥) → fault ≡ SIZES_RULE → a ≡ 5 → IsLineFault w kinds fault a
  other : length kinds ≡ w 5 → w 0 ≡ SECOND_MAGIC → (s : ℕ) → s < length kinds → (IsOfKind w kinds s → ⊥)
      → ((t : ℕ) → t < s → IsOfKind w kinds t) → fault ≡ SIZES_RULE → a ≡ 13 + s → IsLineFault w kinds fault a
