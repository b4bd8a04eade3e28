-- All places free, and one place more.
use Rattle.std.proofs.Common.{◌≡◌, ℕ, zero, suc, ◌+◌, ◌<◌, ◌≤◌, List, [], ◌∷◌, ◌++◌, length, refl, sym, ◌∙◌, ap, arith, get_or}
use Rattle.std.proofs.lemmas.List.{get_or_append_left, get_or_at, length-append}
use Rattle.persist_model.specs.declared.event.Candidate.{Candidate}
use Rattle.persist_model.specs.Region.{candidate}
use Rattle.pooled_region.specs.declared.pool.Place.{Place}
use Rattle.pooled_region.specs.declared.pool.Word.{Word}
use Rattle.pooled_region.specs.declared.pool.Free.{Free}
use Rattle.pooled_region.specs.Pool.{no_place, no_word, next_of, place_at, candidates_at, start_of, count_of, ArePooled}
use Rattle.pooled_region.proofs.Steps.{place_at-next, place_at-same, later_of-same}

-- ---- each place linked to the next one

in_order : (places : List Place) → ((p : ℕ) → p < length places → next_of places p ≡ p + 1) → (i : ℕ) → i ≤ length places → place_at places zero i ≡ i
in_order places links zero le = refl
in_order places links (suc i) le =
    let before : place_at places zero i ≡ i = in_order places links i (omega arith) in
    let e : i + 1 ≡ suc i = omega arith in
    place_at-next places zero i ∙ ap (next_of places) before ∙ links i (omega arith) ∙ e

pub all_free : (places : List Place) (words : List Word) → ((p : ℕ) → p < length places → next_of places p ≡ p + 1) → ((b : ℕ) → (get_or words b no_word).later ≡ 0)
    → ArePooled places words (record { first = 0; count = length places })
all_free places words links none = record { within = within; apart = apart }
  where
    within : (k i : ℕ) → i < count_of words (record { first = 0; count = length places }) k → place_at places (start_of words (record { first = 0; count = length places }) k) i < length places
    within zero i lt = let e : place_at places zero i ≡ i = in_order places links i (omega arith) in omega (arith, e, lt)
    within (suc b) i lt = absurd (omega (arith, none b, lt))

    apart : (k l i j : ℕ) → i < count_of words (record { first = 0; count = length places }) k → j < count_of words (record { first = 0; count = length places }) l
        → place_at places (start_of words (record { first = 0; count = length places }) k) i ≡ place_at places (start_of words (record { first = 0; count = length places }) l) j → (k ≡ l) × (i ≡ j)
    apart zero zero i j lt lt' same = (refl, sym (in_order places links i (omega arith)) ∙ same ∙ in_order places links j (omega arith))
    apart zero (suc l) i j lt lt' same = absurd (omega (arith, none l, lt'))
    apart (suc k) l i j lt lt' same = absurd (omega (arith, none k, lt))

-- ---- one place more

module _ (places : List Place) (words : List Word) (free : Free) where
  abbrev pub place_more : Place
  place_more = record { candidate = candidate 0 0; next = free.first }

  abbrev pub places_more : List Place
  places_more = places ++ place_more ∷ []

  abbrev pub free_more : Free
  free_more = record { first = length places; count = free.count + 1 }

  read_old : (p : ℕ) → p < length places → get_or places_more p no_place ≡ get_or places p no_place
  read_old p lt = get_or_append_left places (place_more ∷ []) no_place p lt

  read_new : get_or places_more (length places) no_place ≡ place_more
  read_new = get_or_at places place_more [] no_place (length places) refl

  longer : length places_more ≡ length places + 1
  longer = length-append places (place_more ∷ [])

  old_step : ArePooled places words free → (k i : ℕ) → i < count_of words free k → place_at places_more (start_of words free k) i ≡ place_at places (start_of words free k) i
  old_step pooled k i lt = place_at-same places places_more (start_of words free k) i
      (λ j below. ap (λ (p : Place). p.next) (read_old (place_at places (start_of words free k) j) (pooled.within k j (omega arith))))

  -- behind the new one stand the free ones
  free_step : ArePooled places words free → (i : ℕ) → i < free.count → place_at places_more (length places) (suc i) ≡ place_at places free.first i
  free_step pooled i lt = ap (λ (p : Place). place_at places_more p.next i) read_new ∙ old_step pooled zero i lt

  old_below : ArePooled places words free → (k i p : ℕ) → i < count_of words free k → p ≡ place_at places (start_of words free k) i → p < length places
  old_below pooled k i p lt e = let below : place_at places (start_of words free k) i < length places = pooled.within k i lt in omega (arith, e, below)

  within_more : ArePooled places words free → (k i : ℕ) → i < count_of words free_more k → place_at places_more (start_of words free_more k) i < length places_more
  within_more pooled zero zero lt = omega (arith, longer)
  within_more pooled zero (suc i) lt =
      let below : place_at places_more (length places) (suc i) < length places = old_below pooled zero i (place_at places_more (length places) (suc i)) (omega arith) (free_step pooled i (omega arith)) in
      omega (arith, longer, below)
  within_more pooled (suc b) i lt =
      let below : place_at places_more (get_or words b no_word).newest i < length places = old_below pooled (suc b) i (place_at places_more (get_or words b no_word).newest i) lt (old_step pooled (suc b) i lt) in
      omega (arith, longer, below)

  apart_more : ArePooled places words free → (k l i j : ℕ) → i < count_of words free_more k → j < count_of words free_more l
      → place_at places_more (start_of words free_more k) i ≡ place_at places_more (start_of words free_more l) j → (k ≡ l) × (i ≡ j)
  apart_more pooled zero zero zero zero lt lt' same = (refl, refl)
  apart_more pooled zero zero zero (suc j) lt lt' same =
      let below = old_below pooled zero j (length places) (omega arith) (same ∙ free_step pooled j (omega arith)) in absurd (omega (arith, below))
  apart_more pooled zero zero (suc i) zero lt lt' same =
      let below = old_below pooled zero i (length places) (omega arith) (sym same ∙ free_step pooled i (omega arith)) in absurd (omega (arith, below))
  apart_more pooled zero zero (suc i) (suc j) lt lt' same =
      let both = pooled.apart zero zero i j (omega arith) (omega arith) (sym (free_step pooled i (omega arith)) ∙ same ∙ free_step pooled j (omega arith)) in (refl, ap suc both.1)
  apart_more pooled zero (suc l) zero j lt lt' same =
      let below = old_below pooled (suc l) j (length places) lt' (same ∙ old_step pooled (suc l) j lt') in absurd (omega (arith, below))
  apart_more pooled zero (suc l) (suc i) j lt lt' same =
      let both = pooled.apart zero (suc l) i j (omega arith) lt' (sym (free_step pooled i (omega arith)) ∙ same ∙ old_step pooled (suc l) j lt') in absurd (omega (arith, both.0))
  apart_more pooled (suc k) zero i zero lt lt' same =
      let below = old_below pooled (suc k) i (length places) lt (sym same ∙ old_step pooled (suc k) i lt) in absurd (omega (arith, below))
  apart_more pooled (suc k) zero i (suc j) lt lt' same =
      let both = pooled.apart (suc k) zero i j lt (omega arith) (sym (old_step pooled (suc k) i lt) ∙ same ∙ free_step pooled j (omega arith)) in absurd (omega (arith, both.0))
  apart_more pooled (suc k) (suc l) i j lt lt' same = pooled.apart (suc k) (suc l) i j lt lt' (sym (old_step pooled (suc k) i lt) ∙ same ∙ old_step pooled (suc l) j lt')

  pub more_pool : ArePooled places words free → ArePooled places_more words free_more
  more_pool pooled = record { within = within_more pooled; apart = apart_more pooled }

  pub more_same : ArePooled places words free → (b : ℕ) → candidates_at places_more words b ≡ candidates_at places words b
  more_same pooled b = ap (λ (cs : List Candidate). (get_or words b no_word).oldest ∷ cs)
      (later_of-same places places_more (get_or words b no_word).newest (get_or words b no_word).later
      (λ i lt. read_old (place_at places (get_or words b no_word).newest i) (pooled.within (suc b) i lt)))
