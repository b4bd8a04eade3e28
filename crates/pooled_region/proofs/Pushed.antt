-- A free place becomes the newest of a word.
use Rattle.std.proofs.Common.{◌≡◌, ◌≢◌, ⊎_elim, ℕ, zero, suc, ◌+◌, ◌-◌, ◌<◌, false, List, [], ◌∷◌, ◌++◌, length, refl, sym, ◌∙◌, ap, subst, arith, if◌then◌else◌, ◌==◌, get_or, set}
use Rattle.std.proofs.lemmas.Bool.Decides.{eqb_tells}
use Rattle.std.proofs.lemmas.List.{get_or-set_same, get_or-set_other, length-set}
use Rattle.persist_model.specs.declared.event.Candidate.{Candidate}
use Rattle.pooled_region.specs.declared.pool.Place.{Place}
use Rattle.pooled_region.specs.declared.pool.Word.{Word}
use Rattle.pooled_region.specs.declared.pool.Free.{Free}
use Rattle.pooled_region.specs.Pool.{no_place, no_word, next_of, place_at, later_of, word_of, candidates_at, count_of, ArePooled}
use Rattle.pooled_region.proofs.Steps.{place_at-same, later_of-same}
use Rattle.pooled_region.proofs.Apart.{eqb_same, Comes, pooled_from}

-- where an old place goes, in a push to word a
list_of : ℕ → ℕ → ℕ → ℕ
list_of a zero zero = suc a
list_of a zero (suc i) = zero
list_of a (suc b) i = suc b

place_of : ℕ → ℕ → ℕ → ℕ
place_of a zero zero = zero
place_of a zero (suc i) = i
place_of a (suc b) i = if b == a then suc i else i

module _ (places : List Place) (words : List Word) (free : Free) (a : ℕ) (c : Candidate) where
  abbrev pub word : Word
  word = get_or words a no_word

  abbrev pub places_then : List Place
  places_then = set places free.first (record { candidate = c; next = word.newest })

  abbrev pub words_then : List Word
  words_then = set words a (record { oldest = word.oldest; newest = free.first; later = word.later + 1 })

  abbrev pub free_then : Free
  free_then = record { first = next_of places free.first; count = free.count - 1 }

  -- the places of the words stay
  kept_word : ArePooled places words free → 0 < free.count → (b i : ℕ) → i < (get_or words b no_word).later
      → get_or places_then (place_at places (get_or words b no_word).newest i) no_place ≡ get_or places (place_at places (get_or words b no_word).newest i) no_place
  kept_word pooled room b i lt = get_or-set_other places free.first (place_at places (get_or words b no_word).newest i) (record { candidate = c; next = word.newest }) no_place
      (λ same. let e : suc b ≡ zero = (pooled.apart (suc b) zero i zero lt room same).0 in absurd (omega arith))

  -- and the other free ones
  kept_free : ArePooled places words free → 0 < free.count → (i : ℕ) → i < free.count - 1
      → get_or places_then (place_at places (next_of places free.first) i) no_place ≡ get_or places (place_at places (next_of places free.first) i) no_place
  kept_free pooled room i lt = get_or-set_other places free.first (place_at places (next_of places free.first) i) (record { candidate = c; next = word.newest }) no_place
      (λ same. let e : suc i ≡ zero = (pooled.apart zero zero (suc i) zero (omega arith) room same).1 in absurd (omega arith))

  step_word : ArePooled places words free → 0 < free.count → (b i : ℕ) → i < (get_or words b no_word).later → place_at places_then (get_or words b no_word).newest i ≡ place_at places (get_or words b no_word).newest i
  step_word pooled room b i lt = place_at-same places places_then (get_or words b no_word).newest i (λ j below. ap (λ (p : Place). p.next) (kept_word pooled room b j (omega arith)))

  taken : ArePooled places words free → 0 < free.count → get_or places_then free.first no_place ≡ record { candidate = c; next = word.newest }
  taken pooled room = get_or-set_same places free.first (record { candidate = c; next = word.newest }) no_place (pooled.within zero zero room)

  here_word : a < length words → get_or words_then a no_word ≡ record { oldest = word.oldest; newest = free.first; later = word.later + 1 }
  here_word inside = get_or-set_same words a (record { oldest = word.oldest; newest = free.first; later = word.later + 1 }) no_word inside

  other_word : (b : ℕ) → b ≢ a → get_or words_then b no_word ≡ get_or words b no_word
  other_word b apart = get_or-set_other words a b (record { oldest = word.oldest; newest = free.first; later = word.later + 1 }) no_word apart

  abbrev From : ℕ → ℕ → Type 0
  From k i = Comes places places_then words words_then free free_then (list_of a) (place_of a) k i

  from_free : ArePooled places words free → 0 < free.count → (i : ℕ) → i < free.count - 1 → From zero i
  unfolding list_of place_of
  from_free pooled room i lt = record {
    list = zero;
    place = suc i;
    below = omega arith;
    is = place_at-same places places_then (next_of places free.first) i (λ j below. ap (λ (p : Place). p.next) (kept_free pooled room j (omega arith)));
    to_list = refl;
    to_place = refl;
  }

  from_here : ArePooled places words free → 0 < free.count → a < length words → (i : ℕ) → i < word.later + 1 → From (suc a) i
  unfolding list_of place_of
  from_here pooled room inside zero lt = record {
    list = zero;
    place = zero;
    below = room;
    is = ap (λ (w : Word). w.newest) (here_word inside);
    to_list = refl;
    to_place = refl;
  }
  from_here pooled room inside (suc i) lt = record {
    list = suc a;
    place = i;
    below = omega arith;
    is = ap (λ (w : Word). place_at places_then w.newest (suc i)) (here_word inside) ∙ ap (λ (p : Place). place_at places_then p.next i) (taken pooled room) ∙ step_word pooled room a i (omega arith);
    to_list = refl;
    to_place = ap (λ t. if t then suc i else i) (eqb_same a);
  }

  from_other : ArePooled places words free → 0 < free.count → (b i : ℕ) → (b == a) ≡ false → b ≢ a → i < (get_or words b no_word).later → From (suc b) i
  unfolding list_of place_of
  from_other pooled room b i test apart lt = record {
    list = suc b;
    place = i;
    below = lt;
    is = ap (λ (w : Word). place_at places_then w.newest i) (other_word b apart) ∙ step_word pooled room b i lt;
    to_list = refl;
    to_place = ap (λ t. if t then suc i else i) test;
  }

  from : ArePooled places words free → 0 < free.count → a < length words → (k i : ℕ) → i < count_of words_then free_then k → From k i
  from pooled room inside zero i lt = from_free pooled room i lt
  from pooled room inside (suc b) i lt = ⊎_elim
      (λ same. let e : b ≡ a = same.1 in
      let long : (get_or words_then b no_word).later ≡ word.later + 1 = ap (λ (n : ℕ). (get_or words_then n no_word).later) e ∙ ap (λ (w : Word). w.later) (here_word inside) in
      subst (λ (n : ℕ). From (suc n) i) (sym e) (from_here pooled room inside i (omega (arith, long, lt))))
      (λ other. let long : (get_or words_then b no_word).later ≡ (get_or words b no_word).later = ap (λ (w : Word). w.later) (other_word b other.1) in
      from_other pooled room b i other.0 other.1 (omega (arith, long, lt)))
      (eqb_tells b a)

  pub pushed_pool : ArePooled places words free → 0 < free.count → a < length words → ArePooled places_then words_then free_then
  pushed_pool pooled room inside = pooled_from places places_then words words_then free free_then (list_of a) (place_of a) pooled
      (length-set places free.first (record { candidate = c; next = word.newest })) (from pooled room inside)

  same_later : ArePooled places words free → 0 < free.count → (b : ℕ) → later_of places_then (get_or words b no_word).newest (get_or words b no_word).later ≡ later_of places (get_or words b no_word).newest (get_or words b no_word).later
  same_later pooled room b = later_of-same places places_then (get_or words b no_word).newest (get_or words b no_word).later (λ i lt. kept_word pooled room b i lt)

  pub pushed_here : ArePooled places words free → 0 < free.count → a < length words → candidates_at places_then words_then a ≡ candidates_at places words a ++ c ∷ []
  pushed_here pooled room inside =
      let more : word.later + 1 ≡ suc word.later = omega arith in
      ap (word_of places_then) (here_word inside)
      ∙ ap (λ n. word.oldest ∷ later_of places_then free.first n) more
      ∙ ap (λ (p : Place). word.oldest ∷ (later_of places_then p.next word.later ++ p.candidate ∷ [])) (taken pooled room)
      ∙ ap (λ (cs : List Candidate). word.oldest ∷ (cs ++ c ∷ [])) (same_later pooled room a)

  pub pushed_others : ArePooled places words free → 0 < free.count → (b : ℕ) → b ≢ a → candidates_at places_then words_then b ≡ candidates_at places words b
  pushed_others pooled room b apart =
      ap (word_of places_then) (other_word b apart) ∙ ap (λ (cs : List Candidate). (get_or words b no_word).oldest ∷ cs) (same_later pooled room b)
