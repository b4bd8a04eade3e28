-- Rows of marks, one for each bucket of a region.
use Rattle.std.specs.Prelude.{◌≡◌, ◌↔◌, ◌⊎◌, ℕ, ◌<◌, ◌≤◌, Bool, true, false, List, length, slice_index_or}
use Rattle.persist_model.specs.Records.{IsAmong}
use Rattle.persist_model.specs.Shape.{Shape, bucket}

abbrev pub HasMark : List Bool → ℕ → Type 0
HasMark marks j = slice_index_or marks j false ≡ true

-- there is a bucket with a mark at this address
abbrev pub HasPlace : Shape → List Bool → ℕ → Type 0
HasPlace shape marks b = (j : ℕ) × (j < length marks) × (b ≡ bucket shape j)

-- the buckets of the chain are marked as well
pub record AddsMarks (shape : Shape) (chain : List ℕ) (before after : List Bool) : Type 0 where
  pub long : length after ≡ length before
  pub each : (j : ℕ) → HasMark after j ↔ (HasMark before j ⊎ ((j < length before) × IsAmong chain (bucket shape j)))

-- The first number from here that has no mark, and to where there is none.
pub record IsFirstFree (marks : List Bool) (from to found : ℕ) : Type 0 where
  pub within : found ≤ to
  pub free : found < to → (from ≤ found) × (slice_index_or marks found false ≡ false)
  pub passed : (j : ℕ) → from ≤ j → j < found → HasMark marks j
