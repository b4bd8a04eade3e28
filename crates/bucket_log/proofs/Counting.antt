-- How many of a chain's buckets stand up to an address, and that it says whether all of the part's buckets up to there are in the chain.
use Rattle.std.proofs.Common.{◌≡◌, ◌≢◌, ◌⊎◌, ◌↔◌, inl, inr, ℕ, zero, suc, ◌+◌, ◌-◌, ◌*◌, ◌<◌, ◌≤◌, Bool, true, false, ◌==◌, IsTrue, leb, List, [], ◌∷◌, ◌++◌, length, Some, refl, ap, sym, ◌∙◌, arith, subst, length-append}
use Rattle.std.specs.List.{filter}
use Rattle.std.proofs.lemmas.Bool.{cases_lt, cases_Bool, leb-true, le-leb, lt-leb, eqb-true, eq-eqb}
use Rattle.std.proofs.lemmas.Bool.Decides.{eqb_tells}
use Rattle.std.proofs.lemmas.List.Elements.{filter-append}
use Rattle.persist_model.specs.Region.{Words}
use Rattle.persist_model.specs.Records.{IsAmong}
use Rattle.persist_model.specs.Shape.{Shape, bucket, bucket_size, IsBucketOf}
use Rattle.persist_model.specs.Chain.{Each, IsAbsent, HasNoRepeats, without}
use Rattle.atomic_list.specs.Walk.{chain_of}
use Rattle.atomic_list.proofs.Chains.{Each-weaker, without-absent}
use Rattle.atomic_list.proofs.Walks.{Each-without, HasNoRepeats-without_one}
use Rattle.region_layout.specs.declared.layout.Layout.{Layout}
use Rattle.region_layout.specs.declared.layout.Buckets.{Buckets}
use Rattle.region_layout.specs.Layout.{layout_shape, IsPartition}
use Rattle.bucket_log.specs.Reads.{IsLogOfPart, IsInPart, IsLeastOutside, HasAllTo, IsFirstPart, count_to}
use Rattle.bucket_log.proofs.Walking.{good_chain}

-- ---- a list that has the values of f below n

among_without : (b x : ℕ) (xs : List ℕ) → x ≢ b → IsAmong xs x → IsAmong (without b xs) x
among_without b x [] ne m = absurd m
among_without b x (y ∷ ys) ne m = elim (eqb_tells y b) [
  | inl e ↦ rw e.0 (elim m [ inl q ↦ absurd (ne (q ∙ e.1)) | inr k ↦ among_without b x ys ne k ])
  | inr e ↦ rw e.0 (elim m [ inl q ↦ inl q | inr k ↦ inr (among_without b x ys ne k) ])
]

without_no_more : (b : ℕ) (xs : List ℕ) → length (without b xs) ≤ length xs
without_no_more b [] = omega arith
without_no_more b (y ∷ ys) =
    let rest = without_no_more b ys in
    elim (eqb_tells y b) [ inl e ↦ rw e.0 (omega (arith, rest)) | inr e ↦ rw e.0 (omega (arith, rest)) ]

without_less : (b : ℕ) (xs : List ℕ) → IsAmong xs b → length (without b xs) + 1 ≤ length xs
without_less b [] m = absurd m
without_less b (y ∷ ys) m = elim (eqb_tells y b) [
  | inl e ↦ (let rest = without_no_more b ys in rw e.0 (omega (arith, rest)))
  | inr e ↦ rw e.0 (elim m [ inl q ↦ absurd (e.1 (sym q)) | inr k ↦ (let rest = without_less b ys k in omega (arith, rest)) ])
]

pub covered_few : (f : ℕ → ℕ) (n : ℕ) (xs : List ℕ) → ((i j : ℕ) → f i ≡ f j → i ≡ j) → ((i : ℕ) → i < n → IsAmong xs (f i)) → n ≤ length xs
covered_few f zero xs one each = omega arith
covered_few f (suc n) xs one each =
    let rest = covered_few f n (without (f n) xs) one (λ i lt. among_without (f n) (f i) xs (λ e. (let same = one i n e in omega (arith, same, lt))) (each i (omega (arith, lt)))) in
    let less = without_less (f n) xs (each n (omega arith)) in
    omega (arith, rest, less)

-- ---- a list of different values of f below n

abbrev IsValueOf : (ℕ → ℕ) → ℕ → ℕ → Type 0
IsValueOf f n x = (i : ℕ) × (i < n) × (x ≡ f i)

without_one : (b : ℕ) (xs : List ℕ) → HasNoRepeats xs → length xs ≤ length (without b xs) + 1
without_one b [] once = omega arith
without_one b (x ∷ xs) once = elim (eqb_tells x b) [
  | inl e ↦ (let same : IsAbsent b xs = subst (λ z. IsAbsent z xs) e.1 once.0 in let q = ap length (without-absent b xs same) in rw e.0 (omega (arith, q)))
  | inr e ↦ (let rest = without_one b xs once.1 in rw e.0 (omega (arith, rest)))
]

different_few : (f : ℕ → ℕ) (n : ℕ) (xs : List ℕ) → HasNoRepeats xs → Each (IsValueOf f n) xs → length xs ≤ n
different_few f zero [] once each = omega arith
different_few f zero (x ∷ xs) once each = let lt = each.0.1 in absurd (omega (arith, lt))
different_few f (suc n) xs once each =
    let rest = different_few f n (without (f n) xs) (HasNoRepeats-without_one (f n) xs once)
    (Each-without (IsValueOf f (suc n)) (IsValueOf f n) (f n) xs (λ x ne q. (q.0, below q.0 x ne q.1 q.2, q.2)) each) in
    let one = without_one (f n) xs once in
    omega (arith, rest, one)
  where
    below : (i x : ℕ) → x ≢ f n → i < suc n → x ≡ f i → i < n
    below i x ne lt e = elim (eqb_tells i n) [ inl q ↦ absurd (ne (e ∙ ap f q.1)) | inr q ↦ (let off = q.1 in omega (arith, lt, off)) ]

-- ---- those of a list that pass a test

filter_each : (p : ℕ → Bool) (P Q : ℕ → Type 0) (xs : List ℕ) → ((x : ℕ) → P x → p x ≡ true → Q x) → Each P xs → Each Q (filter p xs)
filter_each p P Q [] f each = tt
filter_each p P Q (x ∷ xs) f each = elim (cases_Bool (p x)) [
  | inl e ↦ rw e (f x each.0 e, filter_each p P Q xs f each.1)
  | inr e ↦ rw e (filter_each p P Q xs f each.1)
]

filter_once : (p : ℕ → Bool) (xs : List ℕ) → HasNoRepeats xs → HasNoRepeats (filter p xs)
filter_once p [] once = tt
filter_once p (x ∷ xs) once = elim (cases_Bool (p x)) [
  | inl e ↦ rw e (filter_each p (λ z. x ≢ z) (λ z. x ≢ z) xs (λ z ne t. ne) once.0, filter_once p xs once.1)
  | inr e ↦ rw e (filter_once p xs once.1)
]

filter_among : (p : ℕ → Bool) (xs : List ℕ) (b : ℕ) → IsAmong xs b → p b ≡ true → IsAmong (filter p xs) b
filter_among p [] b m on = absurd m
filter_among p (x ∷ xs) b m on = elim (cases_Bool (p x)) [
  | inl e ↦ rw e (elim m [ inl q ↦ inl q | inr k ↦ inr (filter_among p xs b k on) ])
  | inr e ↦ rw e (elim m [ inl q ↦ (let z : p b ≡ p x = ap p q in cc) | inr k ↦ filter_among p xs b k on ])
]

among_filter : (p : ℕ → Bool) (xs : List ℕ) (b : ℕ) → IsAmong (filter p xs) b → IsAmong xs b
among_filter p [] b m = m
among_filter p (x ∷ xs) b m = elim (cases_Bool (p x)) [
  | inl e ↦ elim (rw e at m) [ inl q ↦ inl q | inr k ↦ inr (among_filter p xs b k) ]
  | inr e ↦ inr (among_filter p xs b (rw e at m))
]

among_or_absent : (b : ℕ) (xs : List ℕ) → IsAmong xs b ⊎ IsAbsent b xs
among_or_absent b [] = inr tt
among_or_absent b (x ∷ xs) = elim (eqb_tells b x) [
  | inl e ↦ inl (inl e.1)
  | inr e ↦ elim (among_or_absent b xs) [ inl m ↦ inl (inr m) | inr off ↦ inr (e.1, off) ]
]

-- ---- bucket addresses

rising : (s i j : ℕ) → i < j → i * s + s ≤ j * s
rising s i j h = grind arith

pub bucket_one : (shape : Shape) (i j : ℕ) → bucket shape i ≡ bucket shape j → i ≡ j
bucket_one shape i j e = elim (cases_lt i j) [
  | inl lt ↦ (let g = rising (bucket_size shape) i j lt in absurd (omega (arith, g, e)))
  | inr ge ↦ elim (cases_lt j i) [
    | inl lt ↦ (let g = rising (bucket_size shape) j i lt in absurd (omega (arith, g, e)))
    | inr le ↦ omega (arith, ge, le)
  ]
]

pub bucket_order : (shape : Shape) (i j : ℕ) → bucket shape i < bucket shape j → i < j
bucket_order shape i j lt = elim (cases_lt i j) [
  | inl is ↦ is
  | inr ge ↦ elim (cases_lt j i) [
    | inl more ↦ (let g = rising (bucket_size shape) j i more in absurd (omega (arith, g, lt)))
    | inr le ↦ (let same : i ≡ j = omega (arith, ge, le) in let z : bucket shape i ≡ bucket shape j = ap (bucket shape) same in absurd (omega (arith, z, lt)))
  ]
]

bucket_up : (shape : Shape) (i j : ℕ) → i ≤ j → bucket shape i ≤ bucket shape j
bucket_up shape i j le = elim (cases_lt (bucket shape j) (bucket shape i)) [
  | inl lt ↦ (let more = bucket_order shape j i lt in absurd (omega (arith, more, le)))
  | inr is ↦ is
]

bucket_down : (shape : Shape) (i j : ℕ) → bucket shape i ≤ bucket shape j → i ≤ j
bucket_down shape i j le = elim (cases_lt j i) [
  | inl more ↦ (let g = rising (bucket_size shape) j i more in absurd (omega (arith, g, le)))
  | inr is ↦ is
]

-- ---- the count

pub count_more : (at next : ℕ) (front : List ℕ) (count : ℕ) → count ≡ count_to at front → next ≤ at → count + 1 ≡ count_to at (front ++ next ∷ [])
count_more at next front count e le =
    let on : leb next at ≡ true = le-leb next at le in
    let q = ap length (filter-append (λ b. leb b at) front (next ∷ [])) in
    let one : length (filter (λ b. leb b at) (next ∷ [])) ≡ 1 = rw on refl in
    let size = length-append (filter (λ b. leb b at) front) (filter (λ b. leb b at) (next ∷ [])) in
    omega (arith, e, q, one, size)

pub count_same : (at next : ℕ) (front : List ℕ) (count : ℕ) → count ≡ count_to at front → at < next → count ≡ count_to at (front ++ next ∷ [])
count_same at next front count e lt =
    let off : leb next at ≡ false = lt-leb next at lt in
    let q = ap length (filter-append (λ b. leb b at) front (next ∷ [])) in
    let none : length (filter (λ b. leb b at) (next ∷ [])) ≡ 0 = rw off refl in
    let size = length-append (filter (λ b. leb b at) front) (filter (λ b. leb b at) (next ∷ [])) in
    omega (arith, e, q, none, size)

module _ (shape : Shape) (part : Buckets) (chain : List ℕ) (once : HasNoRepeats chain) (own : Each (λ b. (k : ℕ) × IsInPart part k × (b ≡ bucket shape k)) chain) (j : ℕ) (from : part.first ≤ j) where
  abbrev at : ℕ
  at = bucket shape j

  abbrev some : List ℕ
  some = filter (λ b. leb b at) chain

  abbrev most : ℕ
  most = j + 1 - part.first

  abbrev value : ℕ → ℕ
  value i = bucket shape (part.first + i)

  value_one : (i k : ℕ) → value i ≡ value k → i ≡ k
  value_one i k e = let q = bucket_one shape (part.first + i) (part.first + k) e in omega (arith, q)

  value_of : (i : ℕ) → part.first ≤ i → i ≤ j → IsValueOf value most (bucket shape i)
  value_of i low high = (i - part.first, omega (arith, low, high, from), (let e : i ≡ part.first + (i - part.first) = omega (arith, low) in ap (bucket shape) e))

  some_once : HasNoRepeats some
  some_once = filter_once (λ b. leb b at) chain once

  some_values : Each (IsValueOf value most) some
  some_values = filter_each (λ b. leb b at) (λ b. (k : ℕ) × IsInPart part k × (b ≡ bucket shape k)) (IsValueOf value most) chain
      (λ b h on. subst (IsValueOf value most) (sym h.2) (value_of h.0 h.1.0 (bucket_down shape h.0 j (subst (λ n. n ≤ at) h.2 (leb-true b at on))))) own

  no_more : count_to at chain ≤ most
  no_more = different_few value most some some_once some_values

  all_counted : HasAllTo shape part chain j → count_to at chain ≡ most
  all_counted all =
      let least = covered_few value most some value_one (λ i lt. (let high : part.first + i ≤ j = omega (arith, lt, from) in
      filter_among (λ b. leb b at) chain (value i) (all (part.first + i) (omega arith) high) (le-leb (value i) at (bucket_up shape (part.first + i) j high)))) in
      let few = no_more in
      omega (arith, least, few)

  counted_all : count_to at chain ≡ most → HasAllTo shape part chain j
  counted_all e i low high = elim (among_or_absent (bucket shape i) some) [
    | inl m ↦ among_filter (λ b. leb b at) chain (bucket shape i) m
    | inr off ↦ (let few = different_few value most (bucket shape i ∷ some) (off, some_once) (value_of i low high, some_values) in absurd (omega (arith, few, e)))
  ]

  pub count_tells : (count_to at chain ≡ most) ↔ HasAllTo shape part chain j
  count_tells = (counted_all, all_counted)

-- the buckets of p are those of the part
pub of_part : (shape : Shape) (part : Buckets) (p : ℕ) → IsPartition shape p part → (b : ℕ) → IsBucketOf shape p b → (j : ℕ) × IsInPart part j × (b ≡ bucket shape j)
of_part shape part p is b h = let first = is.0 in let count = is.1 in let low = h.1 in let high = h.2 in (h.0, (omega (arith, low, first), omega (arith, high, first, count)), h.3)

test_tells : {P : Type 0} (a b n : ℕ) → a ≡ n → (n ≡ b) ↔ P → IsTrue (a == b) ↔ P
test_tells a b n e h = ((λ t. h.0 (sym e ∙ eqb-true a b t)), (λ p. eq-eqb a b (e ∙ h.1 p)))

-- the count that is read says whether all buckets up to number j are in the chain
pub count_says : (layout : Layout) (part : Buckets) (size : ℕ) (w : Words) → IsLogOfPart layout part size w → (j : ℕ) → part.first ≤ j → (used : ℕ) →
    used ≡ count_to (bucket (layout_shape layout) j) (chain_of (layout_shape layout) w) → IsTrue (used == j + 1 - part.first) ↔ HasAllTo (layout_shape layout) part (chain_of (layout_shape layout) w) j
count_says layout part size w log j from used e =
    let good = good_chain layout size w log.log in
    let own = Each-weaker (IsBucketOf (layout_shape layout) log.log.has_list.part) (λ b. (k : ℕ) × IsInPart part k × (b ≡ bucket (layout_shape layout) k))
    (of_part (layout_shape layout) part log.log.has_list.part log.is_part) (chain_of (layout_shape layout) w) good.buckets in
    test_tells used (j + 1 - part.first) (count_to (bucket (layout_shape layout) j) (chain_of (layout_shape layout) w)) e
    (count_tells (layout_shape layout) part (chain_of (layout_shape layout) w) good.once own j from)

-- where all buckets below low are in the chain, and not all up to high, and the two have met, that one is the least outside
pub least_is : (shape : Shape) (part : Buckets) (chain : List ℕ) (low high b : ℕ) → part.first ≤ low → high ≡ low → high ≤ part.first + part.count → low ≢ part.first + part.count →
    ((i : ℕ) → part.first ≤ i → i < low → IsAmong chain (bucket shape i)) → (high < part.first + part.count → HasAllTo shape part chain high → ⊥) →
    b ≡ bucket shape low → IsLeastOutside shape part chain (Some b)
least_is shape part chain low high b from met to off below not_all e = (
  low,
  (from, omega (arith, met, to, off)),
  e,
  (λ m. not_all (omega (arith, met, to, off)) (λ i least most. elim (cases_lt i low) [
    | inl lt ↦ below i least lt
    | inr ge ↦ (let same : i ≡ low = omega (arith, ge, most, met) in subst (λ n. IsAmong chain (bucket shape n)) (sym same) (subst (IsAmong chain) e m))
  ])),
  below,
)

-- a chain of so many buckets hasn't all up to the one behind as many
too_few : (shape : Shape) (part : Buckets) (chain : List ℕ) (used : ℕ) → used ≡ length chain → HasAllTo shape part chain (part.first + used) → ⊥
too_few shape part chain used e all =
    let more = covered_few (λ i. bucket shape (part.first + i)) (used + 1) chain
    (λ i j q. (let k = bucket_one shape (part.first + i) (part.first + j) q in omega (arith, k))) (λ i lt. all (part.first + i) (omega arith) (omega (arith, lt))) in
    absurd (omega (arith, more, e))

-- where the chain's buckets are the first of the part, the one behind them is the least outside
pub least_behind : (shape : Shape) (part : Buckets) (chain : List ℕ) (used b : ℕ) → used ≡ length chain → IsFirstPart shape part chain used → b ≡ bucket shape (part.first + used) →
    IsLeastOutside shape part chain (Some b)
least_behind shape part chain used b e first is =
    let few = first.0 in
    least_is shape part chain (part.first + used) (part.first + used) b (omega arith) refl (omega (arith, few)) (λ q. absurd (omega (arith, few, q))) first.1 (λ lt all. too_few shape part chain used e all) is
