-- What a reader of sound list words may read, and what it finds.
use Rattle.std.specs.Prelude.{◌≡◌, ◌≢◌, ◌⊎◌, ℕ, ◌<◌, ◌==◌, if◌then◌else◌, List, [], ◌∷◌}
use Rattle.persist_model.specs.Region.{Words}
use Rattle.persist_model.specs.Records.{IsAmong}
use Rattle.persist_model.specs.Shape.{shape_of, heap, IsBucketOf, IsShape}
use Rattle.persist_model.specs.Chain.{TO_APPEND, LAST_TAIL, first_or, ListRules}
use Rattle.atomic_list.specs.Walk.{chain_of}

-- These many words are those of a region, or of a partition's view of it: its header is right, and the partition's list is sound.
pub record HasList (size : ℕ) (w : Words) : Type 0 where
  pub shape : IsShape size w
  pub part : ℕ
  pub below : part < (shape_of w).partitions
  pub chain : List ℕ
  pub rules : ListRules (IsBucketOf (shape_of w) part) w chain

-- the words before the heap are the same
abbrev pub SameLog : Words → Words → Type 0
SameLog w v = (a : ℕ) → a < heap (shape_of w) → v a ≡ w a

-- b is 0 or in the chain
abbrev pub IsInChain : Words → ℕ → Type 0
IsInChain w b = (b ≡ 0) ⊎ IsAmong (chain_of (shape_of w) w) b

-- the one behind b in xs, or 0
abbrev pub behind : ℕ → List ℕ → ℕ
behind b [] = 0
behind b (x ∷ xs) = if b == x then first_or 0 xs else behind b xs

-- the chain's next bucket, the first for 0, and 0 at the end
abbrev pub next_in : List ℕ → ℕ → ℕ
next_in xs b = if b == 0 then first_or 0 xs else behind b xs

-- no bucket is being put behind b, and b isn't the one
abbrev pub IsLinkedOn : Words → ℕ → Type 0
IsLinkedOn w b = (w TO_APPEND ≡ 0) ⊎ ((b ≢ w TO_APPEND) × (b ≢ w LAST_TAIL))
