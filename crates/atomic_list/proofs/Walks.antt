-- The chain as a function.
use Rattle.std.proofs.Common.{◌≡◌, ◌≢◌, inl, inr, ℕ, zero, suc, ◌+◌, ◌*◌, ◌<◌, ◌≤◌, true, false, cond, ◌==◌, List, [], ◌∷◌, ◌++◌, length, refl, ap, sym, ◌∙◌, arith, subst}
use Rattle.std.proofs.lemmas.Bool.Decides.{nat_tests, eqb_tells}
use Rattle.persist_model.specs.Region.{Words}
use Rattle.persist_model.specs.Shape.{Shape, IsBucketOf, first_bucket, count_buckets, bucket_size}
use Rattle.persist_model.specs.Chain.{HEAD, LAST_TAIL, Each, AreBuckets, IsAbsent, HasNoRepeats, last_or, without, Links}
use Rattle.atomic_list.specs.Rules.{IsAtRest, IsAppending, IsRemoving, IsList, at_rest, appending, removing}
use Rattle.atomic_list.specs.Walk.{follow, chain_of}
use Rattle.atomic_list.proofs.Chains.{bucket_above, Each-last, without-absent}
use Rattle.atomic_list.proofs.Cases.{no_bucket_is_0, chain_is_buckets, chain_has_no_repeats}
use Rattle.atomic_list.proofs.Parts.{parts_fit}
use Rattle.atomic_list.proofs.Splits.{Each-left, Each-right, Each-join, HasNoRepeats-insert, without-append, without-first, Links-insert, Links-join}

-- There are at most as many different buckets as the shape part has.
length-without : (b : ℕ) (xs : List ℕ) → HasNoRepeats xs → length xs ≤ suc (length (without b xs))
length-without b [] h = omega arith
length-without b (x ∷ xs) h = elim (eqb_tells x b) [
  | inl e ↦ let on = e.0 in rw on (let same : IsAbsent b xs = subst (λ z. IsAbsent z xs) e.1 h.0 in let q = ap length (without-absent b xs same) in omega arith)
  | inr e ↦ let off = e.0 in rw off (let q = length-without b xs h.1 in omega arith)
]

pub Each-without : (P Q : ℕ → Type 0) (b : ℕ) (xs : List ℕ) → ((x : ℕ) → x ≢ b → P x → Q x) → Each P xs → Each Q (without b xs)
Each-without P Q b [] f h = tt
Each-without P Q b (x ∷ xs) f h = elim (eqb_tells x b) [
  | inl e ↦ let on = e.0 in rw on (Each-without P Q b xs f h.1)
  | inr e ↦ let off = e.0 in rw off (f x e.1 h.0, Each-without P Q b xs f h.1)
]

pub HasNoRepeats-without_one : (b : ℕ) (xs : List ℕ) → HasNoRepeats xs → HasNoRepeats (without b xs)
HasNoRepeats-without_one b [] h = tt
HasNoRepeats-without_one b (x ∷ xs) h = elim (eqb_tells x b) [
  | inl e ↦ let on = e.0 in rw on (HasNoRepeats-without_one b xs h.1)
  | inr e ↦ let off = e.0 in rw off (Each-without (λ z. x ≢ z) (λ z. x ≢ z) b xs (λ z ne k. k) h.0, HasNoRepeats-without_one b xs h.1)
]

abbrev IsPlaceIn : ℕ → ℕ → ℕ → ℕ → Type 0
IsPlaceIn s low n b = (j : ℕ) × (low ≤ j) × (j < low + n) × (b ≡ 32 + j * s)

pigeonhole : (s low n : ℕ) (xs : List ℕ) → HasNoRepeats xs → Each (IsPlaceIn s low n) xs → length xs ≤ n
pigeonhole s low zero [] once h = omega arith
pigeonhole s low zero (x ∷ xs) once h = let lt = h.0.2 in let ge = h.0.1 in absurd (omega arith)
pigeonhole s low (suc n) xs once h =
    let last = 32 + (low + n) * s in
    let fewer = pigeonhole s low n (without last xs) (HasNoRepeats-without_one last xs once)
    (Each-without (IsPlaceIn s low (suc n)) (IsPlaceIn s low n) last xs (λ x ne q. (q.0, q.1, below q.0 x ne q.2 q.3, q.3)) h) in
    let one = length-without last xs once in omega arith
  where
    below : (j x : ℕ) → x ≢ 32 + (low + n) * s → j < low + suc n → x ≡ 32 + j * s → j < low + n
    below j x ne lt e = elim (eqb_tells j (low + n)) [ inl q ↦ absurd (ne (e ∙ ap (λ m. 32 + m * s) q.1)) | inr q ↦ let d = q.1 in omega arith ]

pub few_buckets : (shape : Shape) (part : ℕ) (xs : List ℕ) → HasNoRepeats xs → AreBuckets (IsBucketOf shape part) xs → length xs ≤ count_buckets shape part
few_buckets shape part xs once h = pigeonhole (bucket_size shape) (first_bucket shape part) (count_buckets shape part) xs once h

-- following NEXT to the end
follow-whole : (w : Words) (n from : ℕ) (xs : List ℕ) → length xs < n → Links w from xs 0 → follow w 0 n from ≡ xs
follow-whole w zero from xs lt h = absurd (omega arith)
follow-whole w (suc n) from [] lt h = rw h
follow-whole w (suc n) from (x ∷ xs) lt h =
    let off : (x == 0) ≡ false = grind (arith, nat_tests, h.1) in
    rw (h.0, off) (ap (λ ys. x ∷ ys) (follow-whole w n x xs (omega arith) h.2))

-- following NEXT through the last
follow-cut : (w : Words) (n from x : ℕ) (xs : List ℕ) (to : ℕ) → length xs < n → HasNoRepeats (x ∷ xs) → Links w from (x ∷ xs) to → follow w (last_or x xs) n from ≡ x ∷ xs
follow-cut w zero from x xs to lt once h = absurd (omega arith)
follow-cut w (suc n) from x [] to lt once h =
    let off : (x == 0) ≡ false = grind (arith, nat_tests, h.1) in
    let on : (x == x) ≡ true = grind (arith, nat_tests) in rw (h.0, off, on)
follow-cut w (suc n) from x (y ∷ ys) to lt once h =
    let off : (x == 0) ≡ false = grind (arith, nat_tests, h.1) in
    let ne : x ≢ last_or y ys = Each-last (λ z. x ≢ z) y ys once.0.0 once.0.1 in
    let more : (x == last_or y ys) ≡ false = grind (arith, nat_tests, ne) in
    rw (h.0, off, more) (ap (λ zs. x ∷ zs) (follow-cut w n x y ys to (omega arith) once.1 h.2))

-- at most n are followed
abbrev front_of : ℕ → Words → ℕ → List ℕ
front_of n w last = cond (last == 0) [] (follow w last (suc n) HEAD)

front_of-last : (n : ℕ) (w : Words) (front : List ℕ) (to : ℕ) → length front ≤ n → HasNoRepeats front → IsAbsent 0 front → Links w HEAD front to →
    front_of n w (last_or 0 front) ≡ front
front_of-last n w [] to few once h l = refl
front_of-last n w (x ∷ xs) to few once h l =
    let ne : 0 ≢ last_or x xs = Each-last (λ z. 0 ≢ z) x xs h.0 h.1 in
    let off : (last_or x xs == 0) ≡ false = grind (arith, nat_tests, ne) in
    rw off (follow-cut w (suc n) HEAD x xs to (omega arith) once l)

cut_front : (n : ℕ) (w : Words) (front : List ℕ) (to : ℕ) → w LAST_TAIL ≡ last_or 0 front → length front ≤ n → HasNoRepeats front → IsAbsent 0 front → Links w HEAD front to →
    front_of n w (w LAST_TAIL) ≡ front
cut_front n w front to e few once h l = subst (λ t. front_of n w t ≡ front) (sym e) (front_of-last n w front to few once h l)

module _ (shape : Shape) (part : ℕ) (w : Words) (below : part < shape.partitions) where
  few : (xs : List ℕ) → HasNoRepeats xs → AreBuckets (IsBucketOf shape part) xs → length xs ≤ shape.buckets
  few xs once h = let most = few_buckets shape part xs once h in let fits = parts_fit shape part below in omega arith

  of_rest : (xs : List ℕ) → IsAtRest shape part w xs → chain_of shape w ≡ xs
  unfolding chain_of
  of_rest xs h =
      let most = few xs h.no_repeats h.buckets in
      rw (h.to_append, h.to_remove, follow-whole w (suc shape.buckets) HEAD xs (omega arith) h.links) (without-absent 0 xs (no_bucket_is_0 shape part xs h.buckets))

  of_appending : (front : List ℕ) (node : ℕ) → IsAppending shape part w front node → chain_of shape w ≡ front ++ node ∷ []
  unfolding chain_of
  of_appending front node h =
      let above = bucket_above shape part node h.bucket in
      let off : (node == 0) ≡ false = grind (arith, nat_tests) in
      let most = few front h.no_repeats h.buckets in
      let nonzero = no_bucket_is_0 shape part front h.buckets in
      rw (h.to_append, off) (ap (λ ys. ys ++ node ∷ []) (elim h.links [
        | inl l ↦ cut_front shape.buckets w front 0 h.last_tail most h.no_repeats nonzero l
        | inr l ↦ cut_front shape.buckets w front node h.last_tail most h.no_repeats nonzero l
      ]))

  of_removing : (front : List ℕ) (node : ℕ) (rest : List ℕ) → IsRemoving shape part w front node rest → chain_of shape w ≡ front ++ rest
  unfolding chain_of
  of_removing front node rest h =
      let above = bucket_above shape part node h.bucket in
      let most = few (front ++ rest) h.no_repeats h.buckets in
      let once = HasNoRepeats-insert front node rest h.no_repeats h.absent in
      let whole = few (front ++ node ∷ rest) once
      (Each-join (IsBucketOf shape part) front (node ∷ rest) (Each-left (IsBucketOf shape part) front rest h.buckets) (h.bucket, Each-right (IsBucketOf shape part) front rest h.buckets)) in
      rw (h.to_append, h.to_remove) (elim h.links [
        | inl l ↦ ap (without node) (follow-whole w (suc shape.buckets) HEAD (front ++ node ∷ rest) (omega arith) (Links-insert w HEAD front node rest 0 (omega arith) l h.next))
            ∙ (rw (without-append node front (node ∷ rest), without-first node rest, ← without-append node front rest) (without-absent node (front ++ rest) h.absent))
        | inr l ↦ ap (without node) (follow-whole w (suc shape.buckets) HEAD (front ++ rest) (omega arith) (Links-join w HEAD node front rest 0 l h.next))
            ∙ without-absent node (front ++ rest) h.absent
      ])

pub chain_of_list : (shape : Shape) (part : ℕ) (w : Words) (xs : List ℕ) → part < shape.partitions → IsList shape part w xs →
    (chain_of shape w ≡ xs) × (length xs ≤ count_buckets shape part)
chain_of_list shape part w xs below h = (of_list h, few_buckets shape part xs (chain_has_no_repeats shape part w xs h) (chain_is_buckets shape part w xs h))
  where
    of_list : IsList shape part w xs → chain_of shape w ≡ xs
    of_list (at_rest h) = of_rest shape part w below xs h
    of_list (appending front node h e) = of_appending shape part w below front node h ∙ sym e
    of_list (removing front node rest h e) = of_removing shape part w below front node rest h ∙ sym e
