-- The definitions, tried on small pools.
use Rattle.std.proofs.Common.{◌≡◌, List, [], ◌∷◌, refl, arith}
use Rattle.persist_model.specs.Region.{candidate}
use Rattle.pooled_region.specs.declared.pool.Place.{Place}
use Rattle.pooled_region.specs.declared.pool.Word.{Word}
use Rattle.pooled_region.specs.Pool.{place_at, word_of, candidates_at, later_count, settled_word}
use Rattle.pooled_region.specs.Marks.{IsListed, StandsAt}

-- three places, of which word 0 has the third and the first, the newer one first
abbrev places : List Place
places = record { candidate = candidate 7 0; next = 9 } ∷ record { candidate = candidate 1 1; next = 5 } ∷ record { candidate = candidate 8 1; next = 0 } ∷ []

abbrev words : List Word
words = record { oldest = candidate 5 0; newest = 2; later = 2 } ∷ settled_word (candidate 6 2) ∷ []

second_step : place_at places 2 1 ≡ 0
second_step = refl

oldest_first : candidates_at places words 0 ≡ candidate 5 0 ∷ candidate 7 0 ∷ candidate 8 1 ∷ []
oldest_first = refl

settled : candidates_at places words 1 ≡ candidate 6 2 ∷ []
settled = refl

-- a shorter list has the newest ones
shortened : word_of places (record { oldest = candidate 7 0; newest = 2; later = 1 }) ≡ candidate 7 0 ∷ candidate 8 1 ∷ []
shortened = refl

one_is_free : later_count words ≡ 2
one_is_free = refl

-- words 3 and 1 are listed, in this order
first_stands : StandsAt (3 ∷ 1 ∷ []) (0 ∷ 1 ∷ 0 ∷ 0 ∷ []) 0
first_stands = (omega arith, refl)

third_is : IsListed (3 ∷ 1 ∷ []) (0 ∷ 1 ∷ 0 ∷ 0 ∷ []) 3
third_is = (omega arith, refl)

-- word 2 isn't, whatever its position
second_isnt : IsListed (3 ∷ 1 ∷ []) (0 ∷ 1 ∷ 0 ∷ 0 ∷ []) 2 → ⊥
second_isnt is = omega (arith, is.1)
