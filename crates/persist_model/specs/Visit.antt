-- The buckets that the walk visits in any words, whatever their links are.
use Rattle.std.specs.Prelude.{◌≡◌, ◌≢◌, ◌⊎◌, ℕ, ◌==◌, if◌then◌else◌, List, [], ◌∷◌, ◌++◌}
use Rattle.persist_model.specs.Region.{Words}
use Rattle.persist_model.specs.Records.{IsAmong}
use Rattle.persist_model.specs.Chain.{HEAD, TAIL, TO_APPEND, LAST_TAIL, TO_REMOVE, next_of, prev_of, AreBuckets, HasNoRepeats, last_or, without, Links}

-- the walk is cut after this bucket, or before the first for 0
abbrev pub IsCutAt : Words → ℕ → Type 0
IsCutAt w b = (w TO_APPEND ≢ 0) × (w LAST_TAIL ≡ b)

-- it is cut before none of xs
abbrev pub IsUncut : Words → ℕ → List ℕ → Type 0
IsUncut w before [] = Unit {0}
IsUncut w before (x ∷ xs) = (IsCutAt w before → ⊥) × IsUncut w x xs

-- the link behind the buckets that were visited: the NEXT of the last, or HEAD where there is none
abbrev pub link_behind : Words → List ℕ → ℕ
link_behind w visited = w (last_or HEAD visited)

-- The walk begins at HEAD, follows NEXT, visits no bucket twice, and goes on as long as it may: it stops where it is cut,
-- where the link isn't a bucket's address, or where the link's bucket was visited.
pub record IsVisit (bucket : ℕ → Type 0) (w : Words) (visited : List ℕ) : Type 0 where
  pub links : Links w HEAD visited (link_behind w visited)
  pub buckets : AreBuckets bucket visited
  pub no_repeats : HasNoRepeats visited
  pub uncut : IsUncut w 0 visited
  pub stops : IsCutAt w (last_or 0 visited) ⊎ (bucket (link_behind w visited) → ⊥) ⊎ IsAmong visited (link_behind w visited)

-- It came to its end: to 0 or, where TO_APPEND is a bucket, to LAST_TAIL.
abbrev pub HasArrived : Words → List ℕ → Type 0
HasArrived w visited = ((w TO_APPEND ≡ 0) × (link_behind w visited ≡ 0)) ⊎ ((w TO_APPEND ≢ 0) × (last_or 0 visited ≡ w LAST_TAIL))

-- the bucket that TO_APPEND names is put after those that were visited
abbrev pub walk_from : Words → List ℕ → List ℕ
walk_from w visited = if w TO_APPEND == 0 then visited else visited ++ w TO_APPEND ∷ []

abbrev pub chain_from : Words → List ℕ → List ℕ
chain_from w visited = without (w TO_REMOVE) (walk_from w visited)

-- ---- the words of the address rule

abbrev pub links_of : List ℕ → List ℕ
links_of [] = []
links_of (b ∷ buckets) = next_of b ∷ prev_of b ∷ links_of buckets

-- the links of the bucket that this word names
abbrev pub links_at : Words → ℕ → List ℕ
links_at w a = if w a == 0 then [] else links_of (w a ∷ [])

-- the five list words, the links of the buckets that were visited, and those of the buckets that TO_APPEND and TO_REMOVE name
abbrev pub address_words : Words → List ℕ → List ℕ
address_words w visited = HEAD ∷ TAIL ∷ TO_APPEND ∷ LAST_TAIL ∷ TO_REMOVE ∷ links_of visited ++ (links_at w TO_APPEND ++ links_at w TO_REMOVE)
