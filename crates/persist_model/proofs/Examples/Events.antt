-- What events do to the candidates of two words, which are settled at 0, and the images that a stop may leave.
use Rattle.std.proofs.Common.{◌≡◌, ◌⊎◌, inl, inr, ℕ, zero, suc, ◌<◌, List, [], ◌∷◌, refl, arith}
use Rattle.std.specs.Prelude.{slice_index}
use Rattle.persist_model.specs.declared.event.Candidate.{Candidate}
use Rattle.persist_model.specs.declared.event.Event.{Event}
use Rattle.persist_model.specs.declared.event.Event.TheVariants.{Store, PStore, WriteBack, Fence}
use Rattle.persist_model.specs.declared.pick.Pick.TheVariants.{Old, New, Mix}
use Rattle.persist_model.specs.Region.{Region, candidate, IsCandidate, IsImage, IsSettled, newest_words, loaded, picked, restarted}
use Rattle.persist_model.specs.Pick.{index_of_pick}
use Rattle.persist_model.specs.Law.{after_all}

abbrev region : Region
region = loaded (0 ∷ 0 ∷ [])

by_lane : ℕ → Event → ℕ × Event
by_lane lane e = (lane, e)

-- the candidates of word 1 after some events of lanes
abbrev word_1 : List (ℕ × Event) → List Candidate
word_1 events = (after_all region events).at 1

-- a store is unmarked, a durable one has the lane's mark, and a write back gives it to the last
stored : word_1 ((0, Store 1 7) ∷ []) ≡ candidate 0 0 ∷ candidate 7 0 ∷ []
stored = refl

stored_durably : word_1 ((0, PStore 1 7) ∷ []) ≡ candidate 0 0 ∷ candidate 7 1 ∷ []
stored_durably = refl

written_back : word_1 ((0, Store 1 7) ∷ (3, WriteBack 1) ∷ []) ≡ candidate 0 0 ∷ candidate 7 4 ∷ []
written_back = refl

-- events on another word leave it
other_word : word_1 ((0, PStore 0 7) ∷ []) ≡ candidate 0 0 ∷ []
other_word = refl

-- a fence drops what is before the last one with its lane's mark, and what was stored later stays
fenced_own : word_1 ((0, PStore 1 7) ∷ (0, Fence) ∷ []) ≡ candidate 7 0 ∷ []
fenced_own = refl

fenced_last : word_1 ((0, PStore 1 7) ∷ (0, PStore 1 8) ∷ (0, Store 1 9) ∷ (0, Fence) ∷ []) ≡ candidate 8 0 ∷ candidate 9 0 ∷ []
fenced_last = refl

-- a fence of another lane leaves it as it was, and so does one after a store that nobody wrote back
fenced_other : word_1 ((0, PStore 1 7) ∷ (1, Fence) ∷ []) ≡ candidate 0 0 ∷ candidate 7 1 ∷ []
fenced_other = refl

fenced_unmarked : word_1 ((0, Store 1 7) ∷ (0, Fence) ∷ []) ≡ candidate 0 0 ∷ candidate 7 0 ∷ []
fenced_unmarked = refl

-- a mark that another lane took over is its own alone
taken_over : word_1 ((0, PStore 1 7) ∷ (1, WriteBack 1) ∷ (0, Fence) ∷ []) ≡ candidate 0 0 ∷ candidate 7 2 ∷ []
taken_over = refl

both_marks : word_1 ((0, PStore 1 7) ∷ (1, PStore 1 8) ∷ (0, Fence) ∷ []) ≡ candidate 7 0 ∷ candidate 8 2 ∷ []
both_marks = refl

-- ---- images

abbrev torn : Region
torn = after_all region ((0, PStore 0 5) ∷ (0, PStore 1 7) ∷ [])

-- each word may be old or new, whatever the other is
old_new : IsImage (0 ∷ 7 ∷ []) torn
old_new = record { long = refl; each = each }
  where
    each : (a : ℕ) → a < 2 → IsCandidate (torn.at a) (slice_index (0 ∷ 7 ∷ []) a)
    each zero lt = inl refl
    each (suc zero) lt = inr (inl refl)
    each (suc (suc a)) lt = absurd (omega (arith, lt))

-- no value that wasn't stored, and no word more
not_stored : IsImage (0 ∷ 6 ∷ []) torn → ⊥
not_stored h = by (h.each 1 (omega arith))
  where
    zero_six : ◌≡◌ {A = ℕ} 0 6 → ⊥
    zero_six e = cc

    seven_six : ◌≡◌ {A = ℕ} 7 6 → ⊥
    seven_six e = cc

    by : (◌≡◌ {A = ℕ} 0 6) ⊎ ((◌≡◌ {A = ℕ} 7 6) ⊎ ⊥) → ⊥
    by (inl e) = zero_six e
    by (inr (inl e)) = seven_six e
    by (inr (inr none)) = none

one_more : IsImage (0 ∷ 7 ∷ 0 ∷ []) torn → ⊥
one_more h = three_two h.long
  where
    three_two : ◌≡◌ {A = ℕ} 3 2 → ⊥
    three_two e = cc

-- a read gives the newest, and a fence settles both
read_words : newest_words torn ≡ 5 ∷ 7 ∷ []
read_words = refl

settled : IsSettled ((after_all torn ((0, Fence) ∷ [])).at 1)
settled = refl

-- ---- picks

abbrev three : List Candidate
three = candidate 4 0 ∷ candidate 5 1 ∷ candidate 6 0 ∷ []

oldest : picked Old 9 three ≡ candidate 4 0
oldest = refl

last : picked New 9 three ≡ candidate 6 0
last = refl

-- (1 + 56 + 56 / 32) mod 3
mixed : index_of_pick (Mix 1) 56 3 ≡ 1
mixed = refl

-- a restart settles each word
restart : ((restarted Old torn).at 1 ≡ candidate 0 0 ∷ []) × ((restarted New torn).at 1 ≡ candidate 7 0 ∷ [])
restart = (refl, refl)
