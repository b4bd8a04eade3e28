-- A region's words, as pairs of an address and the word there.
use Rattle.std.specs.Prelude.{◌≡◌, ℕ, ◌==◌, if◌then◌else◌, List, [], ◌∷◌, map, refl}
use Rattle.std.specs.List.{range_with_len}
use Rattle.persist_model.specs.Region.{Words}

-- an address and what stands there
abbrev pub Pair : Type 0
Pair = ℕ × ℕ

-- what these pairs say of a word, 0 where they say nothing
abbrev pub word_in : List Pair → Words
word_in [] a = 0
word_in (pair ∷ pairs) a = if a == pair.0 then pair.1 else word_in pairs a

-- so many words, as the pairs say
unfoldable pub words_in : List Pair → ℕ → List ℕ
words_in pairs size = map (word_in pairs) (range_with_len 0 size)

-- the addresses that they name
abbrev pub addresses : List Pair → List ℕ
addresses [] = []
addresses (pair ∷ pairs) = pair.0 ∷ addresses pairs

-- ---- the first pair with an address counts

first : word_in ((3, 30) ∷ (1, 10) ∷ (3, 31) ∷ []) 3 ≡ 30
first = refl

nothing : word_in ((3, 30) ∷ (1, 10) ∷ (3, 31) ∷ []) 2 ≡ 0
nothing = refl
