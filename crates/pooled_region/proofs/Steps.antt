-- Walks along lists of places.
use Rattle.std.proofs.Common.{◌≡◌, ℕ, zero, suc, ◌+◌, ◌<◌, Bool, true, false, ◌||◌, List, [], ◌∷◌, ◌++◌, length, refl, sym, ◌∙◌, ap, arith, get_or, append-nil, append_assoc}
use Rattle.std.specs.List.{list_any}
use Rattle.std.proofs.lemmas.List.{length-append, get_or_append_left, get_or_at}
use Rattle.std.proofs.lemmas.List.Folds.{list_any-append}
use Rattle.persist_model.specs.declared.event.Candidate.{Candidate}
use Rattle.pooled_region.specs.declared.pool.Place.{Place}
use Rattle.pooled_region.specs.Pool.{no_place, next_of, place_at, later_of}

-- one step more at the end
pub place_at-next : (places : List Place) (start n : ℕ) → place_at places start (suc n) ≡ next_of places (place_at places start n)
place_at-next places start zero = refl
place_at-next places start (suc n) = place_at-next places (next_of places start) n

-- some steps, and some more
pub place_at-sum : (places : List Place) (start m n : ℕ) → place_at places (place_at places start m) n ≡ place_at places start (m + n)
place_at-sum places start zero n =
    let e : n ≡ zero + n = omega arith in
    ap (place_at places start) e
place_at-sum places start (suc m) n =
    let e : suc (m + n) ≡ suc m + n = omega arith in
    place_at-sum places (next_of places start) m n ∙ ap (place_at places start) e

-- where the links of what is passed are the same
pub place_at-same : (places other : List Place) (start n : ℕ) → ((i : ℕ) → i < n → next_of other (place_at places start i) ≡ next_of places (place_at places start i))
    → place_at other start n ≡ place_at places start n
place_at-same places other start zero same = refl
place_at-same places other start (suc n) same =
    place_at-next other start n ∙ ap (next_of other) (place_at-same places other start n (λ i lt. same i (omega arith)))
    ∙ same n (omega arith) ∙ sym (place_at-next places start n)

-- where the places passed are the same
pub later_of-same : (places other : List Place) (start n : ℕ) → ((i : ℕ) → i < n → get_or other (place_at places start i) no_place ≡ get_or places (place_at places start i) no_place)
    → later_of other start n ≡ later_of places start n
later_of-same places other start zero same = refl
later_of-same places other start (suc n) same =
    let here : get_or other start no_place ≡ get_or places start no_place = same zero (omega arith) in
    let rest : later_of other (next_of places start) n ≡ later_of places (next_of places start) n = later_of-same places other (next_of places start) n (λ i lt. same (suc i) (omega arith)) in
    ap (λ (p : Place). later_of other p.next n ++ p.candidate ∷ []) here
    ∙ ap (λ (cs : List Candidate). cs ++ (get_or places start no_place).candidate ∷ []) rest

-- the newest ones stand at the end
pub later_of-split : (places : List Place) (start m n : ℕ) → later_of places start (m + n) ≡ later_of places (place_at places start m) n ++ later_of places start m
later_of-split places start zero n =
    let e : zero + n ≡ n = omega arith in
    ap (later_of places start) e ∙ sym (append-nil (later_of places start n))
later_of-split places start (suc m) n =
    let e : suc m + n ≡ suc (m + n) = omega arith in
    let c = (get_or places start no_place).candidate in
    let rest = place_at places (next_of places start) m in
    ap (later_of places start) e
    ∙ ap (λ (cs : List Candidate). cs ++ c ∷ []) (later_of-split places (next_of places start) m n)
    ∙ append_assoc (later_of places rest n) (later_of places (next_of places start) m) (c ∷ [])

pub length-later_of : (places : List Place) (start n : ℕ) → length (later_of places start n) ≡ n
length-later_of places start zero = refl
length-later_of places start (suc n) =
    let rest = length-later_of places (next_of places start) n in
    omega (arith, length-append (later_of places (next_of places start) n) ((get_or places start no_place).candidate ∷ []), rest)

-- the candidate with this number, oldest first
pub get_or-later_of : (places : List Place) (start n i j : ℕ) (d : Candidate) → i + suc j ≡ n → get_or (later_of places start n) j d ≡ (get_or places (place_at places start i) no_place).candidate
get_or-later_of places start zero i j d sum = absurd (omega arith)
get_or-later_of places start (suc n) zero j d sum =
    let long : length (later_of places (next_of places start) n) ≡ j = omega (arith, length-later_of places (next_of places start) n) in
    get_or_at (later_of places (next_of places start) n) (get_or places start no_place).candidate [] d j long
get_or-later_of places start (suc n) (suc i) j d sum =
    let within : j < length (later_of places (next_of places start) n) = omega (arith, length-later_of places (next_of places start) n) in
    get_or_append_left (later_of places (next_of places start) n) ((get_or places start no_place).candidate ∷ []) d j within
    ∙ get_or-later_of places (next_of places start) n i j d (omega arith)

-- ---- tests

pub none_along : (p : Candidate → Bool) (places : List Place) (start n : ℕ) → ((i : ℕ) → i < n → p (get_or places (place_at places start i) no_place).candidate ≡ false)
    → list_any p (later_of places start n) ≡ false
none_along p places start zero none = refl
none_along p places start (suc n) none =
    let c = (get_or places start no_place).candidate in
    let here : p c ≡ false = none zero (omega arith) in
    let rest : list_any p (later_of places (next_of places start) n) ≡ false = none_along p places (next_of places start) n (λ i lt. none (suc i) (omega arith)) in
    list_any-append p (later_of places (next_of places start) n) (c ∷ []) ∙ rw (rest, here) refl

pub some_along : (p : Candidate → Bool) (places : List Place) (start n i : ℕ) → i < n → p (get_or places (place_at places start i) no_place).candidate ≡ true
    → list_any p (later_of places start n) ≡ true
some_along p places start zero i below here = absurd (omega arith)
some_along p places start (suc n) zero below here =
    let c = (get_or places start no_place).candidate in
    list_any-append p (later_of places (next_of places start) n) (c ∷ []) ∙ rw here (elim (list_any p (later_of places (next_of places start) n)) as (λ t. (t || (true || false)) ≡ true) [ true ↦ refl | false ↦ refl ])
some_along p places start (suc n) (suc i) below here =
    let c = (get_or places start no_place).candidate in
    let rest : list_any p (later_of places (next_of places start) n) ≡ true = some_along p places (next_of places start) n i (omega arith) here in
    list_any-append p (later_of places (next_of places start) n) (c ∷ []) ∙ rw rest refl
