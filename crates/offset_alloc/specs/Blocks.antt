-- The standing of each block of a heap.
use Rattle.std.specs.Prelude.{◌≡◌, ℕ, ◌-◌, ◌<◌, ◌≤◌, ◌==◌, if◌then◌else◌, List, length, Some, slice_get, nat_lt, nat_le}
use Rattle.persist_model.specs.Region.{Words}
use Rattle.persist_model.specs.Shape.{Shape, block}
use Rattle.offset_alloc.specs.declared.Standing.{Standing}
use Rattle.offset_alloc.specs.declared.Standing.TheVariants.{Free, Owned, Pending}

-- what the owner word of block k says: s + 1 is structure s, and 0 is nobody, but not at a root
abbrev pub standing_of : Shape → Words → ℕ → Standing
standing_of shape w k =
    if w (block shape k) == 0 then (if nat_lt k shape.structures then Pending else Free)
    else (if nat_le (w (block shape k)) shape.structures then Owned (w (block shape k) - 1) else Pending)

abbrev pub IsFree : List Standing → ℕ → Type 0
IsFree blocks k = slice_get blocks k ≡ Some Free

-- block k is free, and none before it is
pub record IsLeastFree (blocks : List Standing) (k : ℕ) : Type 0 where
  pub free : IsFree blocks k
  pub least : (j : ℕ) → j < k → IsFree blocks j → ⊥

-- no block below n is free
abbrev pub NoneIsFreeBelow : List Standing → ℕ → Type 0
NoneIsFreeBelow blocks n = (k : ℕ) → k < n → IsFree blocks k → ⊥

-- n is the least free block, or the number of blocks where none is free
pub record IsLeastOrCount (blocks : List Standing) (n : ℕ) : Type 0 where
  pub within : n ≤ length blocks
  pub below : NoneIsFreeBelow blocks n
  pub free : n < length blocks → IsFree blocks n

-- the blocks of the heap stand as their owner words say
pub record AreAsOwned (shape : Shape) (w : Words) (blocks : List Standing) : Type 0 where
  pub each : (k : ℕ) → k < shape.blocks → slice_get blocks k ≡ Some (standing_of shape w k)
