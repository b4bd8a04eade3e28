-- The walk of any words: it visits some buckets, and there is one list of them.
use Rattle.std.proofs.Common.{◌≡◌, ◌≢◌, ◌⊎◌, inl, inr, ℕ, zero, suc, ◌+◌, ◌<◌, ◌≤◌, List, [], ◌∷◌, length, refl, sym, ap, ◌∙◌, subst, arith}
use Rattle.std.proofs.lemmas.Bool.Decides.{eqb_tells}
use Rattle.persist_model.specs.Region.{Words}
use Rattle.persist_model.specs.Records.{IsAmong}
use Rattle.persist_model.specs.Shape.{Shape, bucket, first_bucket, count_buckets, IsBucketOf}
use Rattle.persist_model.specs.Chain.{HEAD, TO_APPEND, LAST_TAIL, Each, AreBuckets, IsAbsent, HasNoRepeats, last_or, without, Links}
use Rattle.persist_model.specs.Visit.{IsCutAt, IsUncut, IsVisit}
use Rattle.log_laws.proofs.Deciding.{IsDecided, decide_equal, decide_not, decide_both, decide_as, decide_some, decide_at_most, decide_among, absent_of, absent_not}

-- what the walk visits from here on: seen are the buckets that it visited, the last of them is before, and from names the next
pub record IsRest (B : ℕ → Type 0) (w : Words) (seen : List ℕ) (before from : ℕ) (xs : List ℕ) : Type 0 where
  pub links : Links w from xs (w (last_or from xs))
  pub buckets : AreBuckets B xs
  pub no_repeats : HasNoRepeats xs
  pub fresh : Each (λ x. IsAbsent x seen) xs
  pub uncut : IsUncut w before xs
  pub stops : IsCutAt w (last_or before xs) ⊎ (B (w (last_or from xs)) → ⊥) ⊎ IsAmong seen (w (last_or from xs)) ⊎ IsAmong xs (w (last_or from xs))

-- ---- some

-- left are buckets that weren't seen, with all that weren't
pub length-without : (b : ℕ) (xs : List ℕ) → length (without b xs) ≤ length xs
length-without b [] = omega arith
length-without b (x ∷ xs) = let le = length-without b xs in elim (eqb_tells x b) [ inl e ↦ rw e.0 (omega (arith, le)) | inr e ↦ rw e.0 (omega (arith, le)) ]

pub without_less : (b : ℕ) (xs : List ℕ) → IsAmong xs b → length (without b xs) < length xs
without_less b [] m = absurd m
without_less b (x ∷ xs) m = elim (eqb_tells x b) [
  | inl e ↦ (let le = length-without b xs in rw e.0 (omega (arith, le)))
  | inr ne ↦ elim m [ inl e ↦ absurd (ne.1 (sym e)) | inr k ↦ (let lt = without_less b xs k in rw ne.0 (omega (arith, lt))) ]
]

pub among_without : (b c : ℕ) (xs : List ℕ) → c ≢ b → IsAmong xs c → IsAmong (without b xs) c
among_without b c [] ne m = m
among_without b c (x ∷ xs) ne m = elim (eqb_tells x b) [
  | inl e ↦ rw e.0 (elim m [ inl same ↦ absurd (ne (same ∙ e.1)) | inr k ↦ among_without b c xs ne k ])
  | inr other ↦ rw other.0 (elim m [ inl same ↦ inl same | inr k ↦ inr (among_without b c xs ne k) ])
]

each_flipped : (x : ℕ) (seen xs : List ℕ) → Each (λ y. IsAbsent y (x ∷ seen)) xs → IsAbsent x xs × Each (λ y. IsAbsent y seen) xs
each_flipped x seen [] h = (tt, tt)
each_flipped x seen (y ∷ ys) h = let k = each_flipped x seen ys h.1 in (((λ e. h.0.0 (sym e)), k.0), (h.0.1, k.1))

stops_on : (B : ℕ → Type 0) (w : Words) (seen : List ℕ) (x last beyond : ℕ) (xs : List ℕ) →
    IsCutAt w last ⊎ (B beyond → ⊥) ⊎ IsAmong (x ∷ seen) beyond ⊎ IsAmong xs beyond → IsCutAt w last ⊎ (B beyond → ⊥) ⊎ IsAmong seen beyond ⊎ IsAmong (x ∷ xs) beyond
stops_on B w seen x last beyond xs (inl h) = inl h
stops_on B w seen x last beyond xs (inr (inl h)) = inr (inl h)
stops_on B w seen x last beyond xs (inr (inr (inl (inl e)))) = inr (inr (inr (inl e)))
stops_on B w seen x last beyond xs (inr (inr (inl (inr m)))) = inr (inr (inl m))
stops_on B w seen x last beyond xs (inr (inr (inr m))) = inr (inr (inr (inr m)))

pub rest_on : (B : ℕ → Type 0) (w : Words) (seen : List ℕ) (before from : ℕ) (xs : List ℕ) → (B 0 → ⊥) → (IsCutAt w before → ⊥) → B (w from) → IsAbsent (w from) seen →
    IsRest B w (w from ∷ seen) (w from) (w from) xs → IsRest B w seen before from (w from ∷ xs)
rest_on B w seen before from xs nonzero uncut b new h = record {
  links = (refl, (λ e. nonzero (subst B e b)), h.links);
  buckets = (b, h.buckets);
  no_repeats = ((each_flipped (w from) seen xs h.fresh).0, h.no_repeats);
  fresh = (new, (each_flipped (w from) seen xs h.fresh).1);
  uncut = (uncut, h.uncut);
  stops = stops_on B w seen (w from) (last_or (w from) xs) (w (last_or (w from) xs)) xs h.stops;
}

pub rest_none : (B : ℕ → Type 0) (w : Words) (seen : List ℕ) (before from : ℕ) → IsCutAt w before ⊎ (B (w from) → ⊥) ⊎ IsAmong seen (w from) → IsRest B w seen before from []
rest_none B w seen before from h = record {
  links = refl;
  buckets = tt;
  no_repeats = tt;
  fresh = tt;
  uncut = tt;
  stops = elim h [ inl c ↦ inl c | inr (inl n) ↦ inr (inl n) | inr (inr m) ↦ inr (inr (inl m)) ];
}

unfoldable pub decide_cut : (w : Words) (b : ℕ) → IsDecided (IsCutAt w b)
unfolding decide_both decide_not decide_equal
decide_cut w b = decide_both _ _ (decide_not _ (decide_equal (w TO_APPEND) 0)) (decide_equal (w LAST_TAIL) b)

pub left_more : (B : ℕ → Type 0) (seen left : List ℕ) (x : ℕ) → ((b : ℕ) → B b → IsAbsent b seen → IsAmong left b) → (b : ℕ) → B b → IsAbsent b (x ∷ seen) → IsAmong (without x left) b
left_more B seen left x all b h absent = among_without x b left absent.0 (all b h absent.1)

pub left_fewer : (B : ℕ → Type 0) (seen left : List ℕ) (x n : ℕ) → ((b : ℕ) → B b → IsAbsent b seen → IsAmong left b) → B x → IsAbsent x seen → length left ≤ suc n → length (without x left) ≤ n
left_fewer B seen left x n all b absent le = let lt = without_less x left (all x b absent) in omega (arith, lt, le)

pub left_none : (B : ℕ → Type 0) (seen left : List ℕ) (x : ℕ) → ((b : ℕ) → B b → IsAbsent b seen → IsAmong left b) → B x → IsAbsent x seen → length left ≤ 0 → ⊥
left_none B seen left x all b absent le = let lt = without_less x left (all x b absent) in omega (arith, lt, le)

unfoldable pub rest_some : (B : ℕ → Type 0) (w : Words) → ((b : ℕ) → IsDecided (B b)) → (B 0 → ⊥) →
    (n : ℕ) (left seen : List ℕ) (before from : ℕ) → length left ≤ n → ((b : ℕ) → B b → IsAbsent b seen → IsAmong left b) → (xs : List ℕ) × IsRest B w seen before from xs
unfolding decide_cut decide_among
rest_some B w decide nonzero zero left seen before from le all = elim (decide_cut w before) [
  | inl c ↦ ([], rest_none B w seen before from (inl c))
  | inr nc ↦ elim (decide (w from)) [
    | inr nb ↦ ([], rest_none B w seen before from (inr (inl nb)))
    | inl b ↦ elim (decide_among seen (w from)) [
      | inl m ↦ ([], rest_none B w seen before from (inr (inr m)))
      | inr new ↦ absurd (left_none B seen left (w from) all b (absent_of seen (w from) new) le)
    ]
  ]
]
rest_some B w decide nonzero (suc n) left seen before from le all = elim (decide_cut w before) [
  | inl c ↦ ([], rest_none B w seen before from (inl c))
  | inr nc ↦ elim (decide (w from)) [
    | inr nb ↦ ([], rest_none B w seen before from (inr (inl nb)))
    | inl b ↦ elim (decide_among seen (w from)) [
      | inl m ↦ ([], rest_none B w seen before from (inr (inr m)))
      | inr new ↦ (
          let absent = absent_of seen (w from) new in
          let further : (xs : List ℕ) × IsRest B w (w from ∷ seen) (w from) (w from) xs =
          rest_some B w decide nonzero n (without (w from) left) (w from ∷ seen) (w from) (w from) (left_fewer B seen left (w from) n all b absent le) (left_more B seen left (w from) all) in
          (w from ∷ further.0, rest_on B w seen before from further.0 nonzero nc b absent further.1))
    ]
  ]
]

-- ---- one

rest_back : (B : ℕ → Type 0) (w : Words) (seen : List ℕ) (before from x : ℕ) (xs : List ℕ) → IsRest B w seen before from (x ∷ xs) → IsRest B w (x ∷ seen) x x xs
rest_back B w seen before from x xs h = record {
  links = h.links.2;
  buckets = h.buckets.1;
  no_repeats = h.no_repeats.1;
  fresh = back xs h.no_repeats.0 h.fresh.1;
  uncut = h.uncut.1;
  stops = stops_back h.stops;
}
  where
    back : (ys : List ℕ) → IsAbsent x ys → Each (λ y. IsAbsent y seen) ys → Each (λ y. IsAbsent y (x ∷ seen)) ys
    back [] a f = tt
    back (y ∷ ys) a f = (((λ e. a.0 (sym e)), f.0), back ys a.1 f.1)

    stops_back : IsCutAt w (last_or x xs) ⊎ (B (w (last_or x xs)) → ⊥) ⊎ IsAmong seen (w (last_or x xs)) ⊎ IsAmong (x ∷ xs) (w (last_or x xs)) →
        IsCutAt w (last_or x xs) ⊎ (B (w (last_or x xs)) → ⊥) ⊎ IsAmong (x ∷ seen) (w (last_or x xs)) ⊎ IsAmong xs (w (last_or x xs))
    stops_back (inl c) = inl c
    stops_back (inr (inl n)) = inr (inl n)
    stops_back (inr (inr (inl m))) = inr (inr (inl (inr m)))
    stops_back (inr (inr (inr (inl e)))) = inr (inr (inl (inl e)))
    stops_back (inr (inr (inr (inr m)))) = inr (inr (inr m))

-- a walk that stops doesn't go on
no_more : (B : ℕ → Type 0) (w : Words) (seen : List ℕ) (before from y : ℕ) (ys : List ℕ) → IsRest B w seen before from [] → IsRest B w seen before from (y ∷ ys) → ⊥
no_more B w seen before from y ys h k = by h.stops
  where
    same : w from ≡ y
    same = k.links.0

    by : IsCutAt w before ⊎ (B (w from) → ⊥) ⊎ IsAmong seen (w from) ⊎ IsAmong [] (w from) → ⊥
    by (inl c) = k.uncut.0 c
    by (inr (inl n)) = n (subst B (sym same) k.buckets.0)
    by (inr (inr (inl m))) = absent_not seen y k.fresh.0 (subst (λ b. IsAmong seen b) same m)
    by (inr (inr (inr m))) = m

pub rest_one : (B : ℕ → Type 0) (w : Words) (seen : List ℕ) (before from : ℕ) (xs ys : List ℕ) → IsRest B w seen before from xs → IsRest B w seen before from ys → xs ≡ ys
rest_one B w seen before from [] [] h k = refl
rest_one B w seen before from [] (y ∷ ys) h k = absurd (no_more B w seen before from y ys h k)
rest_one B w seen before from (x ∷ xs) [] h k = absurd (no_more B w seen before from x xs k h)
rest_one B w seen before from (x ∷ xs) (y ∷ ys) h k =
    let e : y ≡ x = sym k.links.0 ∙ h.links.0 in
    let further : IsRest B w (x ∷ seen) x x ys = subst (λ z. IsRest B w (z ∷ seen) z z ys) e (rest_back B w seen before from y ys k) in
    let same : xs ≡ ys = rest_one B w (x ∷ seen) x x xs ys (rest_back B w seen before from x xs h) further in
    ap (λ z. z ∷ xs) (sym e) ∙ ap (λ zs. y ∷ zs) same

-- ---- the whole walk

none_seen : (xs : List ℕ) → Each (λ x. IsAbsent x []) xs
none_seen [] = tt
none_seen (x ∷ xs) = (tt, none_seen xs)

pub visit_of_rest : (B : ℕ → Type 0) (w : Words) (xs : List ℕ) → IsRest B w [] 0 HEAD xs → IsVisit B w xs
visit_of_rest B w xs h = record {
  links = h.links;
  buckets = h.buckets;
  no_repeats = h.no_repeats;
  uncut = h.uncut;
  stops = elim h.stops [ inl c ↦ inl c | inr (inl n) ↦ inr (inl n) | inr (inr (inl m)) ↦ absurd m | inr (inr (inr m)) ↦ inr (inr m) ];
}

pub rest_of_visit : (B : ℕ → Type 0) (w : Words) (xs : List ℕ) → IsVisit B w xs → IsRest B w [] 0 HEAD xs
rest_of_visit B w xs h = record {
  links = h.links;
  buckets = h.buckets;
  no_repeats = h.no_repeats;
  fresh = none_seen xs;
  uncut = h.uncut;
  stops = elim h.stops [ inl c ↦ inl c | inr (inl n) ↦ inr (inl n) | inr (inr m) ↦ inr (inr (inr m)) ];
}

pub visit_one : (B : ℕ → Type 0) (w : Words) (xs ys : List ℕ) → IsVisit B w xs → IsVisit B w ys → xs ≡ ys
visit_one B w xs ys h k = rest_one B w [] 0 HEAD xs ys (rest_of_visit B w xs h) (rest_of_visit B w ys k)

-- ---- the buckets of a partition

pub no_bucket_0 : (shape : Shape) (p : ℕ) → IsBucketOf shape p 0 → ⊥
no_bucket_0 shape p h = let e = h.3 in omega (arith, e)

pub above_header : (shape : Shape) (p b : ℕ) → IsBucketOf shape p b → 32 ≤ b
above_header shape p b h = let e = h.3 in omega (arith, e)

pub bucket_on : (shape : Shape) (p b : ℕ) → (j : ℕ) × (j < first_bucket shape p + count_buckets shape p) × ((first_bucket shape p ≤ j) × (b ≡ bucket shape j)) → IsBucketOf shape p b
bucket_on shape p b h = (h.0, h.2.0, h.1, h.2.1)

pub bucket_back : (shape : Shape) (p b : ℕ) → IsBucketOf shape p b → (j : ℕ) × (j < first_bucket shape p + count_buckets shape p) × ((first_bucket shape p ≤ j) × (b ≡ bucket shape j))
bucket_back shape p b h = (h.0, h.2, (h.1, h.3))

unfoldable pub decide_bucket : (shape : Shape) (p b : ℕ) → IsDecided (IsBucketOf shape p b)
unfolding decide_some decide_both decide_at_most decide_equal decide_as
decide_bucket shape p b = decide_as _ (IsBucketOf shape p b) (bucket_on shape p b) (bucket_back shape p b)
    (decide_some (λ j. (first_bucket shape p ≤ j) × (b ≡ bucket shape j)) (first_bucket shape p + count_buckets shape p)
    (λ j. decide_both _ _ (decide_at_most (first_bucket shape p) j) (decide_equal b (bucket shape j))))

-- the first n buckets of the region
abbrev pub buckets_below : Shape → ℕ → List ℕ
buckets_below shape zero = []
buckets_below shape (suc n) = bucket shape n ∷ buckets_below shape n

pub bucket_among : (shape : Shape) (n j : ℕ) → j < n → IsAmong (buckets_below shape n) (bucket shape j)
bucket_among shape zero j lt = absurd (omega (arith, lt))
bucket_among shape (suc n) j lt = elim (eqb_tells j n) [ inl e ↦ inl (ap (bucket shape) e.1) | inr ne ↦ (let apart = ne.1 in inr (bucket_among shape n j (omega (arith, lt, apart)))) ]

pub all_among : (shape : Shape) (p b : ℕ) → IsBucketOf shape p b → IsAbsent b [] → IsAmong (buckets_below shape (first_bucket shape p + count_buckets shape p)) b
all_among shape p b h absent = subst (λ x. IsAmong (buckets_below shape (first_bucket shape p + count_buckets shape p)) x) (sym h.3) (bucket_among shape _ h.0 h.2)

pub at_most_same : (n : ℕ) → n ≤ n
at_most_same n = omega arith

unfoldable pub visit_some : (shape : Shape) (p : ℕ) (w : Words) → (xs : List ℕ) × IsVisit (IsBucketOf shape p) w xs
unfolding rest_some decide_bucket
visit_some shape p w =
    let all = buckets_below shape (first_bucket shape p + count_buckets shape p) in
    let found : (xs : List ℕ) × IsRest (IsBucketOf shape p) w [] 0 HEAD xs =
    rest_some (IsBucketOf shape p) w (decide_bucket shape p) (no_bucket_0 shape p) (length all) all [] 0 HEAD (at_most_same (length all)) (all_among shape p) in
    (found.0, visit_of_rest (IsBucketOf shape p) w found.0 found.1)
