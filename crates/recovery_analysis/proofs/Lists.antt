-- Facts on lists: members, tests, and lists that ascend.
use Rattle.std.proofs.Common.{◌≡◌, ◌⊎◌, inl, inr, ℕ, zero, suc, ◌<◌, Bool, true, false, cond, ◌&&◌, List, [], ◌∷◌, ◌++◌, length, map, reverse, take, drop, get_or, refl, sym, ap, ◌∙◌, subst, arith, append-nil}
use Rattle.std.specs.List.{filter}
use Rattle.std.proofs.lemmas.List.{reverse-append}
use Rattle.std.proofs.lemmas.List.Elements.{filter-append}
use Rattle.persist_model.specs.Records.{IsAmong}
use Rattle.persist_model.proofs.Among.{among_left, among_right, among_append}
use Rattle.recovery_analysis.specs.Grouping.{IsAscending}

-- ---- members

-- where a member stands
pub place_of : {X : Type 0} (xs : List X) (y : X) → IsAmong xs y → (k : ℕ) × (k < length xs) × (get_or xs k y ≡ y)
place_of [] y m = absurd m
place_of (x ∷ xs) y (inl e) = (0, omega arith, sym e)
place_of (x ∷ xs) y (inr m) = let k = place_of xs y m in let lt = k.1 in (suc k.0, omega (arith, lt), k.2)

pub among_at : {X : Type 0} (xs : List X) (k : ℕ) (d : X) → k < length xs → IsAmong xs (get_or xs k d)
among_at [] k d lt = absurd (omega (arith, lt))
among_at (x ∷ xs) zero d lt = inl refl
among_at (x ∷ xs) (suc k) d lt = inr (among_at xs k d (omega (arith, lt)))

-- where a member of the first n stands
pub place_in_take : {X : Type 0} (n : ℕ) (xs : List X) (y : X) → IsAmong (take n xs) y → (k : ℕ) × (k < n) × (k < length xs) × (get_or xs k y ≡ y)
place_in_take zero xs y m = absurd m
place_in_take (suc n) [] y m = absurd m
place_in_take (suc n) (x ∷ xs) y (inl e) = (0, omega arith, omega arith, sym e)
place_in_take (suc n) (x ∷ xs) y (inr m) = let k = place_in_take n xs y m in let lt = k.1 in let below = k.2 in (suc k.0, omega (arith, lt), omega (arith, below), k.3)

pub take_among : {X : Type 0} (n : ℕ) (xs : List X) (y : X) → IsAmong (take n xs) y → IsAmong xs y
take_among zero xs y m = absurd m
take_among (suc n) [] y m = absurd m
take_among (suc n) (x ∷ xs) y (inl e) = inl e
take_among (suc n) (x ∷ xs) y (inr m) = inr (take_among n xs y m)

pub drop_among : {X : Type 0} (n : ℕ) (xs : List X) (y : X) → IsAmong (drop n xs) y → IsAmong xs y
drop_among zero xs y m = m
drop_among (suc n) [] y m = m
drop_among (suc n) (x ∷ xs) y m = inr (drop_among n xs y m)

pub map_among : {X Y : Type 0} (f : X → Y) (xs : List X) (x : X) → IsAmong xs x → IsAmong (map f xs) (f x)
map_among f [] x m = absurd m
map_among f (y ∷ ys) x (inl e) = inl (ap f e)
map_among f (y ∷ ys) x (inr m) = inr (map_among f ys x m)

pub among_map : {X Y : Type 0} (f : X → Y) (xs : List X) (r : Y) → IsAmong (map f xs) r → (x : X) × IsAmong xs x × (r ≡ f x)
among_map f [] r m = absurd m
among_map f (y ∷ ys) r (inl e) = (y, inl refl, e)
among_map f (y ∷ ys) r (inr m) = let k = among_map f ys r m in (k.0, inr k.1, k.2)

pub reverse-cons : {X : Type 0} (x : X) (xs : List X) → reverse (x ∷ xs) ≡ reverse xs ++ x ∷ []
reverse-cons x xs = reverse-append (x ∷ []) xs

pub reverse_among : {X : Type 0} (xs : List X) (r : X) → IsAmong xs r → IsAmong (reverse xs) r
reverse_among [] r m = absurd m
reverse_among (x ∷ xs) r (inl e) = subst (λ zs. IsAmong zs r) (sym (reverse-cons x xs)) (among_right (reverse xs) (x ∷ []) r (inl e))
reverse_among (x ∷ xs) r (inr m) = subst (λ zs. IsAmong zs r) (sym (reverse-cons x xs)) (among_left (reverse xs) (x ∷ []) r (reverse_among xs r m))

pub among_reverse : {X : Type 0} (xs : List X) (r : X) → IsAmong (reverse xs) r → IsAmong xs r
among_reverse [] r m = m
among_reverse (x ∷ xs) r m = elim (among_append (reverse xs) (x ∷ []) r (subst (λ zs. IsAmong zs r) (reverse-cons x xs) m)) [
  | inl k ↦ inr (among_reverse xs r k)
  | inr k ↦ elim k [ inl e ↦ inl e | inr z ↦ absurd z ]
]

-- ---- tests

pub filter_same : {X : Type 0} (p q : X → Bool) (xs : List X) → ((x : X) → p x ≡ q x) → filter p xs ≡ filter q xs
filter_same p q [] same = refl
filter_same p q (x ∷ xs) same = ap (λ b. cond b (x ∷ filter p xs) (filter p xs)) (same x) ∙ ap (λ ys. cond (q x) (x ∷ ys) ys) (filter_same p q xs same)

pub filter_whole : {X : Type 0} (p : X → Bool) (xs : List X) → ((x : X) → IsAmong xs x → p x ≡ true) → filter p xs ≡ xs
filter_whole p [] each = refl
filter_whole p (x ∷ xs) each = ap (λ b. cond b (x ∷ filter p xs) (filter p xs)) (each x (inl refl)) ∙ ap (λ ys. x ∷ ys) (filter_whole p xs (λ y m. each y (inr m)))

pub filter_none : {X : Type 0} (p : X → Bool) (xs : List X) → ((x : X) → IsAmong xs x → p x ≡ false) → filter p xs ≡ []
filter_none p [] each = refl
filter_none p (x ∷ xs) each = ap (λ b. cond b (x ∷ filter p xs) (filter p xs)) (each x (inl refl)) ∙ filter_none p xs (λ y m. each y (inr m))

twice_by : {X : Type 0} (p q : X → Bool) (x : X) (xs : List X) (b a : Bool) → q x ≡ b → p x ≡ a → filter p (filter q xs) ≡ filter (λ y. p y && q y) xs →
    filter p (cond b (x ∷ filter q xs) (filter q xs)) ≡ cond (a && b) (x ∷ filter (λ y. p y && q y) xs) (filter (λ y. p y && q y) xs)
twice_by p q x xs true true on e rest = ap (λ t. cond t (x ∷ filter p (filter q xs)) (filter p (filter q xs))) e ∙ ap (λ ys. x ∷ ys) rest
twice_by p q x xs true false on e rest = ap (λ t. cond t (x ∷ filter p (filter q xs)) (filter p (filter q xs))) e ∙ rest
twice_by p q x xs false true on e rest = rest
twice_by p q x xs false false on e rest = rest

pub filter_twice : {X : Type 0} (p q : X → Bool) (xs : List X) → filter p (filter q xs) ≡ filter (λ x. p x && q x) xs
filter_twice p q [] = refl
filter_twice p q (x ∷ xs) = twice_by p q x xs (q x) (p x) refl refl (filter_twice p q xs)

cond_map : {X Y : Type 0} (f : X → Y) (b : Bool) (x : X) (xs : List X) (ys : List Y) → ys ≡ map f xs → cond b (f x ∷ ys) ys ≡ map f (cond b (x ∷ xs) xs)
cond_map f true x xs ys e = ap (λ zs. f x ∷ zs) e
cond_map f false x xs ys e = e

pub filter_map_is : {X Y : Type 0} (p : Y → Bool) (f : X → Y) (xs : List X) → filter p (map f xs) ≡ map f (filter (λ x. p (f x)) xs)
filter_map_is p f [] = refl
filter_map_is p f (x ∷ xs) = cond_map f (p (f x)) x (filter (λ y. p (f y)) xs) (filter p (map f xs)) (filter_map_is p f xs)

pub filter_reverse : {X : Type 0} (p : X → Bool) (xs : List X) → filter p (reverse xs) ≡ reverse (filter p xs)
filter_reverse p [] = refl
filter_reverse p (x ∷ xs) = ap (filter p) (reverse-cons x xs) ∙ filter-append p (reverse xs) (x ∷ []) ∙ ap (λ ys. ys ++ filter p (x ∷ [])) (filter_reverse p xs) ∙ by (p x)
  where
    by : (b : Bool) → reverse (filter p xs) ++ cond b (x ∷ []) [] ≡ reverse (cond b (x ∷ filter p xs) (filter p xs))
    by true = sym (reverse-cons x (filter p xs))
    by false = append-nil (reverse (filter p xs))

among_by : {X : Type 0} (p : X → Bool) (y x : X) (ys : List X) (b : Bool) → p y ≡ b → (IsAmong (filter p ys) x → IsAmong ys x × (p x ≡ true)) →
    IsAmong (cond b (y ∷ filter p ys) (filter p ys)) x → IsAmong (y ∷ ys) x × (p x ≡ true)
among_by p y x ys true e again (inl same) = (inl same, ap p same ∙ e)
among_by p y x ys true e again (inr k) = let h = again k in (inr h.0, h.1)
among_by p y x ys false e again k = let h = again k in (inr h.0, h.1)

pub filter_among : {X : Type 0} (p : X → Bool) (xs : List X) (x : X) → IsAmong (filter p xs) x → IsAmong xs x × (p x ≡ true)
filter_among p [] x m = absurd m
filter_among p (y ∷ ys) x m = among_by p y x ys (p y) refl (filter_among p ys x) m

by_among : {X : Type 0} (p : X → Bool) (y x : X) (ys : List X) (b : Bool) → p y ≡ b → p x ≡ true → (IsAmong ys x → IsAmong (filter p ys) x) →
    (x ≡ y) ⊎ IsAmong ys x → IsAmong (cond b (y ∷ filter p ys) (filter p ys)) x
by_among p y x ys true e on again (inl same) = inl same
by_among p y x ys true e on again (inr k) = inr (again k)
by_among p y x ys false e on again (inl same) = let z : true ≡ false = sym on ∙ ap p same ∙ e in cc
by_among p y x ys false e on again (inr k) = again k

pub among_filter : {X : Type 0} (p : X → Bool) (xs : List X) (x : X) → IsAmong xs x → p x ≡ true → IsAmong (filter p xs) x
among_filter p [] x m on = absurd m
among_filter p (y ∷ ys) x m on = by_among p y x ys (p y) refl on (λ k. among_filter p ys x k on) m

-- ---- numbers that ascend

pub ascending_push : (ns : List ℕ) (n : ℕ) → IsAscending ns → ((m : ℕ) → IsAmong ns m → m < n) → IsAscending (ns ++ n ∷ [])
ascending_push [] n h below = ((λ m k. absurd k), tt)
ascending_push (x ∷ ns) n h below = (
  (λ m k. elim (among_append ns (n ∷ []) m k) [
    | inl j ↦ h.0 m j
    | inr j ↦ elim j [ inl e ↦ (let lt = below x (inl refl) in omega (arith, lt, e)) | inr z ↦ absurd z ]
  ]),
  ascending_push ns n h.1 (λ m k. below m (inr k)),
)
