-- Lists without repeats: how they join, and how long they can be.
use Rattle.std.proofs.Common.{◌≡◌, ◌≢◌, ◌⊎◌, inl, inr, ⊎_elim, ℕ, zero, suc, ◌<◌, ◌≤◌, false, ◌==◌, List, [], ◌∷◌, ◌++◌, length, refl, ap, sym, arith, subst}
use Rattle.std.proofs.lemmas.Bool.Decides.{nat_tests, eqb_tells}
use Rattle.persist_model.specs.Records.{IsAmong}
use Rattle.persist_model.specs.Chain.{Each, IsAbsent, HasNoRepeats, without}
use Rattle.lane_traits.proofs.Among.{absent_of, of_absent}

pub among_left : {X : Type 0} (xs ys : List X) (x : X) → IsAmong xs x → IsAmong (xs ++ ys) x
among_left [] ys x h = absurd h
among_left (z ∷ xs) ys x (inl e) = inl e
among_left (z ∷ xs) ys x (inr h) = inr (among_left xs ys x h)

pub among_right : {X : Type 0} (xs ys : List X) (x : X) → IsAmong ys x → IsAmong (xs ++ ys) x
among_right [] ys x h = h
among_right (z ∷ xs) ys x h = inr (among_right xs ys x h)

pub among_either : {X : Type 0} (xs ys : List X) (x : X) → IsAmong (xs ++ ys) x → IsAmong xs x ⊎ IsAmong ys x
among_either [] ys x h = inr h
among_either (z ∷ xs) ys x (inl e) = inl (inl e)
among_either (z ∷ xs) ys x (inr h) = ⊎_elim (λ k. inl (inr k)) (λ k. inr k) (among_either xs ys x h)

abbrev pub AreApart : List ℕ → List ℕ → Type 0
AreApart xs ys = (b : ℕ) → IsAmong xs b → IsAmong ys b → ⊥

pub once_joined : (xs ys : List ℕ) → HasNoRepeats xs → HasNoRepeats ys → AreApart xs ys → HasNoRepeats (xs ++ ys)
once_joined [] ys hx hy apart = hy
once_joined (x ∷ xs) ys hx hy apart = (
  absent_of (xs ++ ys) x (λ h. ⊎_elim (of_absent xs x hx.0) (apart x (inl refl)) (among_either xs ys x h)),
  once_joined xs ys hx.1 hy (λ b h k. apart b (inr h) k),
)

pub once_left : (xs ys : List ℕ) → HasNoRepeats (xs ++ ys) → HasNoRepeats xs
once_left [] ys h = tt
once_left (x ∷ xs) ys h = (absent_of xs x (λ k. of_absent (xs ++ ys) x h.0 (among_left xs ys x k)), once_left xs ys h.1)

pub once_right : (xs ys : List ℕ) → HasNoRepeats (xs ++ ys) → HasNoRepeats ys
once_right [] ys h = h
once_right (x ∷ xs) ys h = once_right xs ys h.1

pub once_apart : (xs ys : List ℕ) → HasNoRepeats (xs ++ ys) → AreApart xs ys
once_apart [] ys h b k m = k
once_apart (x ∷ xs) ys h b (inl e) m = of_absent (xs ++ ys) x h.0 (among_right xs ys x (subst (IsAmong ys) e m))
once_apart (x ∷ xs) ys h b (inr k) m = once_apart xs ys h.1 b k m

-- ---- how long

without-absent : (b : ℕ) (xs : List ℕ) → IsAbsent b xs → without b xs ≡ xs
without-absent b [] h = refl
without-absent b (x ∷ xs) h =
    let apart = h.0 in
    let off : (x == b) ≡ false = (let ne : x ≢ b = λ e. apart (sym e) in grind (arith, nat_tests)) in
    rw off (ap (λ ys. x ∷ ys) (without-absent b xs h.1))

length-without : (b : ℕ) (xs : List ℕ) → HasNoRepeats xs → length xs ≤ suc (length (without b xs))
length-without b [] h = omega arith
length-without b (x ∷ xs) h = elim (eqb_tells x b) [
  | inl e ↦ let on = e.0 in rw on (let same : IsAbsent b xs = subst (λ z. IsAbsent z xs) e.1 h.0 in let q = ap length (without-absent b xs same) in omega arith)
  | inr e ↦ let off = e.0 in rw off (let q = length-without b xs h.1 in omega arith)
]

Each-without : (P Q : ℕ → Type 0) (b : ℕ) (xs : List ℕ) → ((x : ℕ) → x ≢ b → P x → Q x) → Each P xs → Each Q (without b xs)
Each-without P Q b [] f h = tt
Each-without P Q b (x ∷ xs) f h = elim (eqb_tells x b) [
  | inl e ↦ let on = e.0 in rw on (Each-without P Q b xs f h.1)
  | inr e ↦ let off = e.0 in rw off (f x e.1 h.0, Each-without P Q b xs f h.1)
]

HasNoRepeats-without : (b : ℕ) (xs : List ℕ) → HasNoRepeats xs → HasNoRepeats (without b xs)
HasNoRepeats-without b [] h = tt
HasNoRepeats-without b (x ∷ xs) h = elim (eqb_tells x b) [
  | inl e ↦ let on = e.0 in rw on (HasNoRepeats-without b xs h.1)
  | inr e ↦ let off = e.0 in rw off (Each-without (λ z. x ≢ z) (λ z. x ≢ z) b xs (λ z ne k. k) h.0, HasNoRepeats-without b xs h.1)
]

-- numbers below n, each once, are n at most
pub at_most : (n : ℕ) (xs : List ℕ) → HasNoRepeats xs → Each (λ x. x < n) xs → length xs ≤ n
at_most zero [] once below = omega arith
at_most zero (x ∷ xs) once below = absurd (let h = below.0 in omega (arith, h))
at_most (suc n) xs once below =
    let fewer = at_most n (without n xs) (HasNoRepeats-without n xs once)
    (Each-without (λ x. x < suc n) (λ x. x < n) n xs (λ x ne lt. omega (arith, ne, lt)) below) in
    let long = length-without n xs once in
    omega (arith, fewer, long)

pub each_of : (P : ℕ → Type 0) (xs : List ℕ) → ((x : ℕ) → IsAmong xs x → P x) → Each P xs
each_of P [] f = tt
each_of P (x ∷ xs) f = (f x (inl refl), each_of P xs (λ y h. f y (inr h)))

-- ---- one element

pub decide : (xs : List ℕ) (b : ℕ) → IsAmong xs b ⊎ (IsAmong xs b → ⊥)
decide [] b = inr (λ h. h)
decide (x ∷ xs) b = ⊎_elim
    (λ same. inl (inl same.1))
    (λ other. ⊎_elim (λ h. inl (inr h)) (λ absent. inr (λ k. ⊎_elim other.1 absent k)) (decide xs b))
    (eqb_tells b x)

pub among_more : (xs ys : List ℕ) (y b : ℕ) → IsAmong (xs ++ ys) b → IsAmong (xs ++ y ∷ ys) b
among_more [] ys y b h = inr h
among_more (x ∷ xs) ys y b (inl e) = inl e
among_more (x ∷ xs) ys y b (inr h) = inr (among_more xs ys y b h)

pub among_here : (xs ys : List ℕ) (y : ℕ) → IsAmong (xs ++ y ∷ ys) y
among_here [] ys y = inl refl
among_here (x ∷ xs) ys y = inr (among_here xs ys y)

pub among_fewer : (xs ys : List ℕ) (y b : ℕ) → IsAmong (xs ++ y ∷ ys) b → b ≢ y → IsAmong (xs ++ ys) b
among_fewer [] ys y b (inl e) ne = absurd (ne e)
among_fewer [] ys y b (inr h) ne = h
among_fewer (x ∷ xs) ys y b (inl e) ne = inl e
among_fewer (x ∷ xs) ys y b (inr h) ne = inr (among_fewer xs ys y b h ne)

pub once_fewer : (xs ys : List ℕ) (y : ℕ) → HasNoRepeats (xs ++ y ∷ ys) → HasNoRepeats (xs ++ ys) × (IsAmong (xs ++ ys) y → ⊥)
once_fewer [] ys y once = (once.1, of_absent ys y once.0)
once_fewer (x ∷ xs) ys y once =
    let again = once_fewer xs ys y once.1 in
    let apart = of_absent (xs ++ y ∷ ys) x once.0 in (
      (absent_of (xs ++ ys) x (λ h. apart (among_more xs ys y x h)), again.0),
      ⊎_elim (λ e. apart (subst (λ b. IsAmong (xs ++ y ∷ ys) b) e (among_here xs ys y))) again.1,
    )
