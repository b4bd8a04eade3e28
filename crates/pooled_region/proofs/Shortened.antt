-- The older places of a word's list are given back, in front of the free ones.
use Rattle.std.proofs.Common.{◌≡◌, ◌≢◌, ⊎_elim, ℕ, zero, suc, ◌+◌, ◌-◌, ◌<◌, ◌≤◌, true, false, List, ◌∷◌, length, refl, sym, ◌∙◌, ap, subst, arith, if◌then◌else◌, ◌==◌, nat_lt, get_or, set}
use Rattle.std.proofs.lemmas.Bool.{cases_lt}
use Rattle.std.proofs.lemmas.Bool.Decides.{eqb_tells}
use Rattle.std.proofs.lemmas.List.{get_or-set_same, get_or-set_other, length-set}
use Rattle.persist_model.specs.declared.event.Candidate.{Candidate}
use Rattle.pooled_region.specs.declared.pool.Place.{Place}
use Rattle.pooled_region.specs.declared.pool.Word.{Word}
use Rattle.pooled_region.specs.declared.pool.Free.{Free}
use Rattle.pooled_region.specs.Pool.{no_place, no_word, next_of, place_at, later_of, word_of, candidates_at, start_of, count_of, ArePooled}
use Rattle.pooled_region.proofs.Steps.{place_at-next, place_at-sum, place_at-same, later_of-same}
use Rattle.pooled_region.proofs.Apart.{eqb_same, count_fits, Comes, pooled_from}

-- where an old place goes, where word a keeps so many and gives the others back, of which the last is so many behind the first
list_of : ℕ → ℕ → ℕ → ℕ → ℕ
list_of a kept zero i = zero
list_of a kept (suc b) i = if b == a then (if nat_lt i kept then suc b else zero) else suc b

place_of : ℕ → ℕ → ℕ → ℕ → ℕ → ℕ
place_of a kept behind zero i = i + suc behind
place_of a kept behind (suc b) i = if b == a then (if nat_lt i kept then i else i - kept) else i

lt_test : (i n : ℕ) → i < n → nat_lt i n ≡ true
lt_test i n lt = grind arith

ge_test : (i n : ℕ) → n ≤ i → nat_lt i n ≡ false
ge_test i n ge = grind arith

module _ (places : List Place) (words : List Word) (free : Free) (a kept behind : ℕ) (oldest : Candidate) where
  abbrev pub word : Word
  word = get_or words a no_word

  -- the first and the last place that are given back
  abbrev pub first : ℕ
  first = place_at places word.newest kept

  abbrev pub last : ℕ
  last = place_at places first behind

  abbrev pub last_place : Place
  last_place = record { candidate = (get_or places last no_place).candidate; next = free.first }

  abbrev pub places_then : List Place
  places_then = set places last last_place

  abbrev pub word_then : Word
  word_then = record { oldest = oldest; newest = word.newest; later = kept }

  abbrev pub words_then : List Word
  words_then = set words a word_then

  abbrev pub free_then : Free
  free_then = record { first = first; count = free.count + (word.later - kept) }

  last_is : last ≡ place_at places word.newest (kept + behind)
  last_is = place_at-sum places word.newest kept behind

  -- all places but the last of the word stay
  stays : ArePooled places words free → word.later ≡ kept + suc behind → (k i : ℕ) → i < count_of words free k → (k ≡ suc a → i ≢ kept + behind)
      → get_or places_then (place_at places (start_of words free k) i) no_place ≡ get_or places (place_at places (start_of words free k) i) no_place
  stays pooled long k i lt other = get_or-set_other places last (place_at places (start_of words free k) i) last_place no_place
      (λ same. let both = pooled.apart k (suc a) i (kept + behind) lt (omega (arith, long)) (same ∙ last_is) in other both.0 both.1)

  stays_other : ArePooled places words free → word.later ≡ kept + suc behind → (b i : ℕ) → b ≢ a → i < (get_or words b no_word).later
      → get_or places_then (place_at places (get_or words b no_word).newest i) no_place ≡ get_or places (place_at places (get_or words b no_word).newest i) no_place
  stays_other pooled long b i apart lt = stays pooled long (suc b) i lt (λ e. absurd (apart (omega (arith, e))))

  stays_free : ArePooled places words free → word.later ≡ kept + suc behind → (i : ℕ) → i < free.count
      → get_or places_then (place_at places free.first i) no_place ≡ get_or places (place_at places free.first i) no_place
  stays_free pooled long i lt = stays pooled long zero i lt (λ e. absurd (omega (arith, e)))

  stays_kept : ArePooled places words free → word.later ≡ kept + suc behind → (i : ℕ) → i < kept + behind
      → get_or places_then (place_at places word.newest i) no_place ≡ get_or places (place_at places word.newest i) no_place
  stays_kept pooled long i lt = stays pooled long (suc a) i (omega (arith, long)) (λ e same. omega (arith, lt, same))

  -- steps from the first that is given back to the last
  step_back : ArePooled places words free → word.later ≡ kept + suc behind → (i : ℕ) → i ≤ behind → place_at places_then first i ≡ place_at places first i
  step_back pooled long i le = place_at-same places places_then first i (λ j below.
      let sum : place_at places first j ≡ place_at places word.newest (kept + j) = place_at-sum places word.newest kept j in
      subst (λ (p : ℕ). next_of places_then p ≡ next_of places p) (sym sum) (ap (λ (p : Place). p.next) (stays_kept pooled long (kept + j) (omega arith))))

  last_now : ArePooled places words free → word.later ≡ kept + suc behind → get_or places_then last no_place ≡ last_place
  last_now pooled long =
      let within : place_at places word.newest (kept + behind) < length places = pooled.within (suc a) (kept + behind) (omega (arith, long)) in
      get_or-set_same places last last_place no_place (omega (arith, within, last_is))

  -- and on to the free ones
  step_on : ArePooled places words free → word.later ≡ kept + suc behind → (j : ℕ) → j < free.count → place_at places_then first (suc behind + j) ≡ place_at places free.first j
  step_on pooled long j lt =
      sym (place_at-sum places_then first (suc behind) j)
      ∙ ap (λ p. place_at places_then p j) (place_at-next places_then first behind ∙ ap (next_of places_then) (step_back pooled long behind (omega arith)) ∙ ap (λ (p : Place). p.next) (last_now pooled long))
      ∙ place_at-same places places_then free.first j (λ i below. ap (λ (p : Place). p.next) (stays_free pooled long i (omega arith)))

  here_word : a < length words → get_or words_then a no_word ≡ word_then
  here_word inside = get_or-set_same words a word_then no_word inside

  other_word : (b : ℕ) → b ≢ a → get_or words_then b no_word ≡ get_or words b no_word
  other_word b apart = get_or-set_other words a b word_then no_word apart

  abbrev From : ℕ → ℕ → Type 0
  From k i = Comes places places_then words words_then free free_then (list_of a kept) (place_of a kept behind) k i

  from_given : ArePooled places words free → word.later ≡ kept + suc behind → (i : ℕ) → i < suc behind → From zero i
  unfolding list_of place_of
  from_given pooled long i lt = record {
    list = suc a;
    place = kept + i;
    below = omega (arith, long, lt);
    is = step_back pooled long i (omega arith) ∙ place_at-sum places word.newest kept i;
    to_list = ap (λ t. if t then (if nat_lt (kept + i) kept then suc a else zero) else suc a) (eqb_same a) ∙ ap (λ t. if t then suc a else zero) (ge_test (kept + i) kept (omega arith));
    to_place =
        let back : kept + i - kept ≡ i = omega arith in
        ap (λ t. if t then (if nat_lt (kept + i) kept then kept + i else kept + i - kept) else kept + i) (eqb_same a)
        ∙ ap (λ t. if t then kept + i else kept + i - kept) (ge_test (kept + i) kept (omega arith)) ∙ back;
  }

  from_free : ArePooled places words free → word.later ≡ kept + suc behind → (i : ℕ) → suc behind ≤ i → i < free.count + suc behind → From zero i
  unfolding list_of place_of
  from_free pooled long i ge lt =
      let sum : i ≡ suc behind + (i - suc behind) = omega arith in
      record {
        list = zero;
        place = i - suc behind;
        below = omega arith;
        is = ap (place_at places_then first) sum ∙ step_on pooled long (i - suc behind) (omega arith);
        to_list = refl;
        to_place = omega arith;
      }

  from_here : ArePooled places words free → word.later ≡ kept + suc behind → a < length words → (i : ℕ) → i < kept → From (suc a) i
  unfolding list_of place_of
  from_here pooled long inside i lt = record {
    list = suc a;
    place = i;
    below = omega (arith, long, lt);
    is = ap (λ (w : Word). place_at places_then w.newest i) (here_word inside)
        ∙ place_at-same places places_then word.newest i (λ j below. ap (λ (p : Place). p.next) (stays_kept pooled long j (omega arith)));
    to_list = ap (λ t. if t then (if nat_lt i kept then suc a else zero) else suc a) (eqb_same a) ∙ ap (λ t. if t then suc a else zero) (lt_test i kept lt);
    to_place = ap (λ t. if t then (if nat_lt i kept then i else i - kept) else i) (eqb_same a) ∙ ap (λ t. if t then i else i - kept) (lt_test i kept lt);
  }

  from_other : ArePooled places words free → word.later ≡ kept + suc behind → (b i : ℕ) → (b == a) ≡ false → b ≢ a → i < (get_or words b no_word).later → From (suc b) i
  unfolding list_of place_of
  from_other pooled long b i test apart lt = record {
    list = suc b;
    place = i;
    below = lt;
    is = ap (λ (w : Word). place_at places_then w.newest i) (other_word b apart)
        ∙ place_at-same places places_then (get_or words b no_word).newest i (λ j below. ap (λ (p : Place). p.next) (stays_other pooled long b j apart (omega arith)));
    to_list = ap (λ t. if t then (if nat_lt i kept then suc b else zero) else suc b) test;
    to_place = ap (λ t. if t then (if nat_lt i kept then i else i - kept) else i) test;
  }

  from : ArePooled places words free → word.later ≡ kept + suc behind → a < length words → (k i : ℕ) → i < count_of words_then free_then k → From k i
  from pooled long inside zero i lt = ⊎_elim
      (λ early. from_given pooled long i early)
      (λ late. from_free pooled long i late (omega (arith, long, lt)))
      (cases_lt i (suc behind))
  from pooled long inside (suc b) i lt = ⊎_elim
      (λ same. let e : b ≡ a = same.1 in
      let count : (get_or words_then b no_word).later ≡ kept = ap (λ (n : ℕ). (get_or words_then n no_word).later) e ∙ ap (λ (w : Word). w.later) (here_word inside) in
      subst (λ (n : ℕ). From (suc n) i) (sym e) (from_here pooled long inside i (omega (arith, count, lt))))
      (λ other. let count : (get_or words_then b no_word).later ≡ (get_or words b no_word).later = ap (λ (w : Word). w.later) (other_word b other.1) in
      from_other pooled long b i other.0 other.1 (omega (arith, count, lt)))
      (eqb_tells b a)

  pub cut_pool : ArePooled places words free → word.later ≡ kept + suc behind → a < length words → ArePooled places_then words_then free_then
  cut_pool pooled long inside = pooled_from places places_then words words_then free free_then (list_of a kept) (place_of a kept behind) pooled
      (length-set places last last_place) (from pooled long inside)

  -- so many places are free then
  pub cut_fits : ArePooled places words free → word.later ≡ kept + suc behind → a < length words → free.count + (word.later - kept) ≤ length places
  cut_fits pooled long inside =
      let fits : free_then.count ≤ length places_then = count_fits places_then words_then free_then (cut_pool pooled long inside) zero in
      omega (arith, fits, length-set places last last_place)

  pub cut_here : ArePooled places words free → word.later ≡ kept + suc behind → a < length words → candidates_at places_then words_then a ≡ oldest ∷ later_of places word.newest kept
  cut_here pooled long inside = ap (word_of places_then) (here_word inside)
      ∙ ap (λ (cs : List Candidate). oldest ∷ cs) (later_of-same places places_then word.newest kept (λ i lt. stays_kept pooled long i (omega arith)))

  pub cut_others : ArePooled places words free → word.later ≡ kept + suc behind → (b : ℕ) → b ≢ a → candidates_at places_then words_then b ≡ candidates_at places words b
  cut_others pooled long b apart = ap (word_of places_then) (other_word b apart)
      ∙ ap (λ (cs : List Candidate). (get_or words b no_word).oldest ∷ cs)
      (later_of-same places places_then (get_or words b no_word).newest (get_or words b no_word).later (λ i lt. stays_other pooled long b i apart lt))
