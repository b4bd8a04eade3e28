-- How a walk goes on: what a loop over NEXT knows of the buckets that it has visited.
use Rattle.std.proofs.Common.{◌≡◌, ◌≢◌, ◌⊎◌, inl, inr, ℕ, zero, suc, ◌+◌, ◌<◌, ◌≤◌, List, [], ◌∷◌, ◌++◌, length, refl, sym, subst, arith}
use Rattle.std.proofs.lemmas.Bool.Decides.{eqb_tells}
use Rattle.persist_model.specs.Region.{Words}
use Rattle.persist_model.specs.Records.{IsAmong}
use Rattle.persist_model.specs.Shape.{Shape, bucket, first_bucket, count_buckets, IsBucketOf}
use Rattle.persist_model.specs.Chain.{HEAD, Each, AreBuckets, IsAbsent, HasNoRepeats, last_or, without, Links}
use Rattle.persist_model.specs.Visit.{IsCutAt, IsUncut, link_behind, IsVisit}
use Rattle.log_laws.proofs.AddressLists.{each_join, no_repeats_push}
use Rattle.log_laws.proofs.Visits.{without_less, among_without}

-- the walk has come behind these buckets
pub record IsGoing (B : ℕ → Type 0) (w : Words) (visited : List ℕ) : Type 0 where
  pub links : Links w HEAD visited (link_behind w visited)
  pub buckets : AreBuckets B visited
  pub no_repeats : HasNoRepeats visited
  pub uncut : IsUncut w 0 visited

pub going_begins : (B : ℕ → Type 0) (w : Words) → IsGoing B w []
going_begins B w = record { links = refl; buckets = tt; no_repeats = tt; uncut = tt }

last-push : (d : ℕ) (xs : List ℕ) (y : ℕ) → last_or d (xs ++ y ∷ []) ≡ y
last-push d [] y = refl
last-push d (x ∷ xs) y = last-push x xs y

links-push : (w : Words) (from : ℕ) (xs : List ℕ) (y : ℕ) → Links w from xs y → y ≢ 0 → Links w from (xs ++ y ∷ []) (w y)
links-push w from [] y h ne = (h, ne, refl)
links-push w from (x ∷ xs) y h ne = (h.0, h.1, links-push w x xs y h.2 ne)

uncut-push : (w : Words) (before : ℕ) (xs : List ℕ) (y : ℕ) → IsUncut w before xs → (IsCutAt w (last_or before xs) → ⊥) → IsUncut w before (xs ++ y ∷ [])
uncut-push w before [] y h nc = (nc, tt)
uncut-push w before (x ∷ xs) y h nc = (h.0, uncut-push w x xs y h.1 nc)

-- it goes on to the next bucket
pub going_on : (B : ℕ → Type 0) (w : Words) (visited : List ℕ) → (B 0 → ⊥) → IsGoing B w visited → (IsCutAt w (last_or 0 visited) → ⊥) → B (link_behind w visited) →
    IsAbsent (link_behind w visited) visited → IsGoing B w (visited ++ link_behind w visited ∷ [])
going_on B w visited nonzero h uncut b absent = record {
  links = subst (λ z. Links w HEAD (visited ++ link_behind w visited ∷ []) (w z)) (sym (last-push HEAD visited (link_behind w visited)))
      (links-push w HEAD visited (link_behind w visited) h.links (λ e. nonzero (subst B e b)));
  buckets = each_join B visited (link_behind w visited ∷ []) h.buckets (b, tt);
  no_repeats = no_repeats_push visited (link_behind w visited) h.no_repeats absent;
  uncut = uncut-push w 0 visited (link_behind w visited) h.uncut uncut;
}

-- and stops
pub going_ends : (B : ℕ → Type 0) (w : Words) (visited : List ℕ) → IsGoing B w visited → IsCutAt w (last_or 0 visited) ⊎ (B (link_behind w visited) → ⊥) ⊎ IsAmong visited (link_behind w visited) →
    IsVisit B w visited
going_ends B w visited h stops = record { links = h.links; buckets = h.buckets; no_repeats = h.no_repeats; uncut = h.uncut; stops = stops }

pub going_of_visit : (B : ℕ → Type 0) (w : Words) (visited : List ℕ) → IsVisit B w visited → IsGoing B w visited
going_of_visit B w visited h = record { links = h.links; buckets = h.buckets; no_repeats = h.no_repeats; uncut = h.uncut }

-- ---- how many buckets it visits

each_without : (b : ℕ) (xs left : List ℕ) → IsAbsent b xs → Each (IsAmong left) xs → Each (IsAmong (without b left)) xs
each_without b [] left absent h = tt
each_without b (x ∷ xs) left absent h = (among_without b x left (λ e. absent.0 (sym e)) h.0, each_without b xs left absent.1 h.1)

-- a list without repeats of some things is no longer than the list of them
pub few_of : (xs left : List ℕ) → HasNoRepeats xs → Each (IsAmong left) xs → length xs ≤ length left
few_of [] left once h = omega arith
few_of (x ∷ xs) left once h =
    let le = few_of xs (without x left) once.1 (each_without x xs left once.0 h.1) in
    let lt = without_less x left h.0 in omega (arith, le, lt)

-- the first n buckets of a partition
abbrev part_buckets : Shape → ℕ → ℕ → List ℕ
part_buckets shape p zero = []
part_buckets shape p (suc n) = bucket shape (first_bucket shape p + n) ∷ part_buckets shape p n

part_long : (shape : Shape) (p n : ℕ) → length (part_buckets shape p n) ≡ n
part_long shape p zero = refl
part_long shape p (suc n) = let e = part_long shape p n in omega (arith, e)

part_among : (shape : Shape) (p n j : ℕ) → first_bucket shape p ≤ j → j < first_bucket shape p + n → IsAmong (part_buckets shape p n) (bucket shape j)
part_among shape p zero j le lt = absurd (omega (arith, le, lt))
part_among shape p (suc n) j le lt = elim (eqb_tells j (first_bucket shape p + n)) [
  | inl e ↦ inl (subst (λ x. bucket shape j ≡ bucket shape x) e.1 refl)
  | inr ne ↦ (let apart = ne.1 in inr (part_among shape p n j le (omega (arith, lt, apart))))
]

each_part_among : (shape : Shape) (p : ℕ) (xs : List ℕ) → AreBuckets (IsBucketOf shape p) xs → Each (IsAmong (part_buckets shape p (count_buckets shape p))) xs
each_part_among shape p [] h = tt
each_part_among shape p (x ∷ xs) h =
    (subst (λ y. IsAmong (part_buckets shape p (count_buckets shape p)) y) (sym h.0.3) (part_among shape p (count_buckets shape p) h.0.0 h.0.1 h.0.2), each_part_among shape p xs h.1)

-- it visits at most as many buckets as the partition has
pub few_visited : (shape : Shape) (p : ℕ) (w : Words) (visited : List ℕ) → IsGoing (IsBucketOf shape p) w visited → length visited ≤ count_buckets shape p
few_visited shape p w visited h =
    let le = few_of visited (part_buckets shape p (count_buckets shape p)) h.no_repeats (each_part_among shape p visited h.buckets) in
    let e = part_long shape p (count_buckets shape p) in omega (arith, le, e)
