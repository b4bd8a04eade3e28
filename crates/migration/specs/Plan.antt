-- The events that make a region of format 1 one of format 2.
use Rattle.std.specs.Prelude.{◌≡◌, ◌⊎◌, ℕ, ◌+◌, ◌-◌, ◌≤◌, ◌==◌, if◌then◌else◌, nat_lt, List, [], ◌∷◌, ◌++◌, map, Option, Some, None}
use Rattle.std.specs.List.{slice_get, range_with_len}
use Rattle.persist_model.specs.declared.event.Event.{Event}
use Rattle.persist_model.specs.declared.event.Event.TheVariants.{PStore, Fence}
use Rattle.persist_model.specs.Shape.{SECOND_MAGIC}
use Rattle.region_layout.specs.declared.layout.Kind.{Kind}
use Rattle.region_layout.specs.Layout.{kind_number}

-- a word of the header that format 1 doesn't read: 6, 7, and 13 to 31
abbrev pub IsReserved : ℕ → Type 0
IsReserved a = (a ≡ 6) ⊎ (a ≡ 7) ⊎ ((13 ≤ a) × (a ≤ 31))

abbrev pub reserved_words : List ℕ
reserved_words = 6 ∷ 7 ∷ range_with_len 13 19

-- the one with this number
abbrev pub reserved_address : ℕ → ℕ
reserved_address i = if nat_lt i 2 then 6 + i else 13 + (i - 2)

-- a kind's number, and 0 for none
abbrev pub number_or_none : Option Kind → ℕ
number_or_none (Some kind) = kind_number kind
number_or_none None = 0

-- what format 2 has in such a word: one partition in word 6, the kinds of the structures from 13 on, and 0
abbrev pub reserved_word : List Kind → ℕ → ℕ
reserved_word kinds a = if a == 6 then 1 else (if nat_lt a 13 then 0 else number_or_none (slice_get kinds (a - 13)))

abbrev pub store_reserved : List Kind → ℕ → Event
store_reserved kinds a = PStore a (reserved_word kinds a)

-- The reserved words, and behind a fence the magic: where it may be found, all that it speaks of is there.
unfoldable pub migration_plan : List Kind → List Event
migration_plan kinds = map (store_reserved kinds) reserved_words ++ Fence ∷ PStore 0 SECOND_MAGIC ∷ Fence ∷ []
