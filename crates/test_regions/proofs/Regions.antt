-- The words of pairs, as a list and as a function.
use Rattle.std.proofs.Common.{◌≡◌, inl, inr, ℕ, ◌<◌, ◌≤◌, List, [], ◌∷◌, length, refl, sym, ◌∙◌, arith}
use Rattle.std.specs.Prelude.{slice_index}
use Rattle.std.proofs.lemmas.Bool.{cases_lt}
use Rattle.std.proofs.lemmas.Bool.Decides.{eqb_tells}
use Rattle.std.proofs.lemmas.List.{get_or_past}
use Rattle.std.proofs.lemmas.List.FromFn.{length-map-range_with_len, get_or-map-range_with_len}
use Rattle.persist_model.specs.Chain.{Each}
use Rattle.test_regions.specs.Pairs.{Pair, word_in, words_in, addresses}

pub words_long : (pairs : List Pair) (n : ℕ) → length (words_in pairs n) ≡ n
unfolding words_in
words_long pairs n = length-map-range_with_len (word_in pairs) 0 n

pub word_at : (pairs : List Pair) (n a : ℕ) → a < n → slice_index (words_in pairs n) a ≡ word_in pairs a
unfolding words_in
word_at pairs n a lt = get_or-map-range_with_len (word_in pairs) 0 n a a 0 lt (omega arith)

-- behind all that the pairs name there is 0
word_past : (pairs : List Pair) (n a : ℕ) → Each (λ b. b < n) (addresses pairs) → n ≤ a → word_in pairs a ≡ 0
word_past [] n a below past = refl
word_past (pair ∷ pairs) n a below past = elim (eqb_tells a pair.0) [
  | inl e ↦ (let is = e.1 in let lt = below.0 in absurd (omega (arith, is, lt, past)))
  | inr e ↦ rw e.0 (word_past pairs n a below.1 past)
]

-- where the pairs name words of the region alone, the list and the function are the same words
pub words_are : (pairs : List Pair) (n : ℕ) → Each (λ b. b < n) (addresses pairs) → slice_index (words_in pairs n) ≡ word_in pairs
words_are pairs n below = λ i a. each a i
  where
    each : (a : ℕ) → slice_index (words_in pairs n) a ≡ word_in pairs a
    each a = elim (cases_lt a n) [
      | inl lt ↦ word_at pairs n a lt
      | inr past ↦ (let long = words_long pairs n in get_or_past (words_in pairs n) a 0 (omega (arith, long, past)) ∙ sym (word_past pairs n a below past))
    ]
