-- A place or a word changed, with all links and lengths as they were.
use Rattle.std.proofs.Common.{◌≡◌, ◌≢◌, ⊎_elim, ℕ, zero, suc, ◌<◌, List, [], ◌∷◌, ◌++◌, length, refl, sym, ◌∙◌, ap, subst, arith, get_or, set}
use Rattle.std.proofs.lemmas.Bool.Decides.{eqb_tells}
use Rattle.std.proofs.lemmas.List.{get_or-set_same, get_or-set_other, length-set}
use Rattle.persist_model.specs.declared.event.Candidate.{Candidate}
use Rattle.persist_model.specs.Region.{marked, mark_last}
use Rattle.persist_model.proofs.Candidates.{mark_last-push}
use Rattle.pooled_region.specs.declared.pool.Place.{Place}
use Rattle.pooled_region.specs.declared.pool.Word.{Word}
use Rattle.pooled_region.specs.declared.pool.Free.{Free}
use Rattle.pooled_region.specs.Pool.{no_place, no_word, next_of, place_at, later_of, word_of, candidates_at, start_of, count_of, ArePooled}
use Rattle.pooled_region.proofs.Steps.{place_at-same, later_of-same}
use Rattle.pooled_region.proofs.Apart.{Comes, pooled_from}

list_itself : ℕ → ℕ → ℕ
list_itself k i = k

place_itself : ℕ → ℕ → ℕ
place_itself k i = i

-- where each list begins and ends as before, and each link is as before
pub pooled_same : (places places' : List Place) (words words' : List Word) (free : Free) → length places' ≡ length places → ((p : ℕ) → next_of places' p ≡ next_of places p)
    → ((b : ℕ) → (get_or words' b no_word).newest ≡ (get_or words b no_word).newest) → ((b : ℕ) → (get_or words' b no_word).later ≡ (get_or words b no_word).later)
    → ArePooled places words free → ArePooled places' words' free
unfolding list_itself place_itself
pooled_same places places' words words' free long links starts counts pooled = pooled_from places places' words words' free free list_itself place_itself pooled long from
  where
    start : (k : ℕ) → start_of words' free k ≡ start_of words free k
    start zero = refl
    start (suc b) = starts b

    count : (k : ℕ) → count_of words' free k ≡ count_of words free k
    count zero = refl
    count (suc b) = counts b

    from : (k i : ℕ) → i < count_of words' free k → Comes places places' words words' free free list_itself place_itself k i
    from k i lt = record {
      list = k;
      place = i;
      below = subst (λ n. i < n) (count k) lt;
      is = ap (λ s. place_at places' s i) (start k) ∙ place_at-same places places' (start_of words free k) i (λ j below. links (place_at places (start_of words free k) j));
      to_list = refl;
      to_place = refl;
    }

-- ---- another oldest candidate

module _ (places : List Place) (words : List Word) (free : Free) (a : ℕ) (oldest : Candidate) where
  abbrev pub words_renewed : List Word
  words_renewed = set words a (record { oldest = oldest; newest = (get_or words a no_word).newest; later = (get_or words a no_word).later })

  renewed_here : a < length words → get_or words_renewed a no_word ≡ record { oldest = oldest; newest = (get_or words a no_word).newest; later = (get_or words a no_word).later }
  renewed_here inside = get_or-set_same words a (record { oldest = oldest; newest = (get_or words a no_word).newest; later = (get_or words a no_word).later }) no_word inside

  renewed_other : (b : ℕ) → b ≢ a → get_or words_renewed b no_word ≡ get_or words b no_word
  renewed_other b apart = get_or-set_other words a b (record { oldest = oldest; newest = (get_or words a no_word).newest; later = (get_or words a no_word).later }) no_word apart

  pub oldest_pool : a < length words → ArePooled places words free → ArePooled places words_renewed free
  oldest_pool inside pooled = pooled_same places places words words_renewed free refl (λ p. refl)
      (λ b. ⊎_elim
      (λ same. let e : b ≡ a = same.1 in subst (λ (n : ℕ). (get_or words_renewed n no_word).newest ≡ (get_or words n no_word).newest) (sym e) (ap (λ (w : Word). w.newest) (renewed_here inside)))
      (λ other. ap (λ (w : Word). w.newest) (renewed_other b other.1)) (eqb_tells b a))
      (λ b. ⊎_elim
      (λ same. let e : b ≡ a = same.1 in subst (λ (n : ℕ). (get_or words_renewed n no_word).later ≡ (get_or words n no_word).later) (sym e) (ap (λ (w : Word). w.later) (renewed_here inside)))
      (λ other. ap (λ (w : Word). w.later) (renewed_other b other.1)) (eqb_tells b a))
      pooled

  pub oldest_here : a < length words → candidates_at places words_renewed a ≡ oldest ∷ later_of places (get_or words a no_word).newest (get_or words a no_word).later
  oldest_here inside = ap (word_of places) (renewed_here inside)

  pub oldest_others : (b : ℕ) → b ≢ a → candidates_at places words_renewed b ≡ candidates_at places words b
  oldest_others b apart = ap (word_of places) (renewed_other b apart)

-- ---- a mark on the newest of the later candidates

module _ (places : List Place) (words : List Word) (free : Free) (a mark : ℕ) where
  abbrev pub word : Word
  word = get_or words a no_word

  abbrev pub place : Place
  place = get_or places word.newest no_place

  abbrev pub marked_place : Place
  marked_place = record { candidate = marked mark place.candidate; next = place.next }

  abbrev pub places_marked : List Place
  places_marked = set places word.newest marked_place

  links_stay : (p : ℕ) → word.newest < length places → next_of places_marked p ≡ next_of places p
  links_stay p inside = ⊎_elim
      (λ same. let e : p ≡ word.newest = same.1 in subst (λ (n : ℕ). next_of places_marked n ≡ next_of places n) (sym e) (ap (λ (q : Place). q.next) (get_or-set_same places word.newest marked_place no_place inside)))
      (λ other. ap (λ (q : Place). q.next) (get_or-set_other places word.newest p marked_place no_place other.1))
      (eqb_tells p word.newest)

  pub marked_pool : 0 < word.later → ArePooled places words free → ArePooled places_marked words free
  marked_pool some pooled = pooled_same places places_marked words words free (length-set places word.newest marked_place) (λ p. links_stay p (pooled.within (suc a) zero some)) (λ b. refl) (λ b. refl) pooled

  pub marked_others : 0 < word.later → ArePooled places words free → (b : ℕ) → b ≢ a → candidates_at places_marked words b ≡ candidates_at places words b
  marked_others some pooled b apart = ap (λ (cs : List Candidate). (get_or words b no_word).oldest ∷ cs)
      (later_of-same places places_marked (get_or words b no_word).newest (get_or words b no_word).later (λ i lt.
      get_or-set_other places word.newest (place_at places (get_or words b no_word).newest i) marked_place no_place
      (λ same. let e : suc b ≡ suc a = (pooled.apart (suc b) (suc a) i zero lt some same).0 in apart (omega arith))))

  pub marked_here : (n : ℕ) → word.later ≡ suc n → ArePooled places words free → candidates_at places_marked words a ≡ mark_last mark (candidates_at places words a)
  marked_here n long pooled =
      let some : 0 < word.later = omega arith in
      let first : get_or places_marked word.newest no_place ≡ marked_place = get_or-set_same places word.newest marked_place no_place (pooled.within (suc a) zero some) in
      let rest : later_of places_marked place.next n ≡ later_of places place.next n = later_of-same places places_marked place.next n (λ i lt.
      get_or-set_other places word.newest (place_at places place.next i) marked_place no_place
      (λ same. let e : suc i ≡ zero = (pooled.apart (suc a) (suc a) (suc i) zero (omega arith) some same).1 in absurd (omega arith))) in
      ap (λ m. word.oldest ∷ later_of places_marked word.newest m) long
      ∙ ap (λ (p : Place). word.oldest ∷ (later_of places_marked p.next n ++ p.candidate ∷ [])) first
      ∙ ap (λ (cs : List Candidate). word.oldest ∷ (cs ++ marked mark place.candidate ∷ [])) rest
      ∙ sym (mark_last-push mark (word.oldest ∷ later_of places place.next n) place.candidate)
      ∙ sym (ap (λ m. mark_last mark (word.oldest ∷ later_of places word.newest m)) long)
