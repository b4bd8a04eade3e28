-- Lists of addresses in which each stands once.
use Rattle.std.proofs.Common.{◌≡◌, ◌≢◌, ◌⊎◌, inl, inr, ⊎_elim, ℕ, Bool, true, false, ◌||◌, List, [], ◌∷◌, ◌++◌, ◌==◌, refl, sym, ◌∙◌, ap, subst, arith, append-nil}
use Rattle.std.specs.Prelude.{filter}
use Rattle.std.proofs.lemmas.Bool.{false_from_ne_true}
use Rattle.std.proofs.lemmas.Bool.Decides.{eqb_tells, nat_tests}
use Rattle.std.proofs.lemmas.List.Elements.{filter-append}
use Rattle.persist_model.specs.Records.{IsAmong}
use Rattle.persist_model.specs.Chain.{HasNoRepeats, IsAbsent}
use Rattle.lane_traits.specs.Space.{is_not}
use Rattle.lane_traits.specs.Draft.{is_among}

pub same_eq : (n : ℕ) → (n == n) ≡ true
same_eq n = grind (arith, nat_tests)

pub apart_eq : (m n : ℕ) → m ≢ n → (m == n) ≡ false
apart_eq m n ne = grind (arith, nat_tests)

-- the test and the fact
pub among_of : (xs : List ℕ) (b : ℕ) → is_among xs b ≡ true → IsAmong xs b
among_of [] b h = cc
among_of (x ∷ xs) b h = ⊎_elim
    (λ same. inl same.1)
    (λ other. inr (among_of xs b (subst (λ t. (t || is_among xs b) ≡ true) other.0 h)))
    (eqb_tells b x)

pub not_among : (xs : List ℕ) (b : ℕ) → (IsAmong xs b → ⊥) → is_among xs b ≡ false
not_among xs b absent = false_from_ne_true (is_among xs b) (λ h. absent (among_of xs b h))

or_assoc : (s t u : Bool) → ((s || t) || u) ≡ (s || (t || u))
or_assoc true t u = refl
or_assoc false t u = refl

or_false : (t : Bool) → (t || false) ≡ t
or_false true = refl
or_false false = refl

-- with one more at the end
pub is_among-last : (xs : List ℕ) (x b : ℕ) → is_among (xs ++ x ∷ []) b ≡ (is_among xs b || (b == x))
is_among-last [] x b = or_false (b == x)
is_among-last (y ∷ ys) x b = ap (λ t. (b == y) || t) (is_among-last ys x b) ∙ sym (or_assoc (b == y) (is_among ys b) (b == x))

pub among_last : (xs : List ℕ) (x b : ℕ) → IsAmong (xs ++ x ∷ []) b → IsAmong xs b ⊎ (b ≡ x)
among_last [] x b (inl e) = inr e
among_last [] x b (inr h) = absurd h
among_last (y ∷ ys) x b (inl e) = inl (inl e)
among_last (y ∷ ys) x b (inr h) = ⊎_elim (λ k. inl (inr k)) (λ e. inr e) (among_last ys x b h)

pub among_front : (xs : List ℕ) (x b : ℕ) → IsAmong xs b → IsAmong (xs ++ x ∷ []) b
among_front [] x b h = absurd h
among_front (y ∷ ys) x b (inl e) = inl e
among_front (y ∷ ys) x b (inr h) = inr (among_front ys x b h)

pub among_end : (xs : List ℕ) (x : ℕ) → IsAmong (xs ++ x ∷ []) x
among_end [] x = inl refl
among_end (y ∷ ys) x = inr (among_end ys x)

pub absent_of : (xs : List ℕ) (x : ℕ) → (IsAmong xs x → ⊥) → IsAbsent x xs
absent_of [] x h = tt
absent_of (y ∷ ys) x h = (λ e. h (inl e), absent_of ys x (λ k. h (inr k)))

pub of_absent : (xs : List ℕ) (x : ℕ) → IsAbsent x xs → IsAmong xs x → ⊥
of_absent [] x absent h = h
of_absent (y ∷ ys) x absent (inl e) = absent.0 e
of_absent (y ∷ ys) x absent (inr h) = of_absent ys x absent.1 h

pub once_front : (xs : List ℕ) (x : ℕ) → HasNoRepeats (xs ++ x ∷ []) → HasNoRepeats xs × (IsAmong xs x → ⊥)
once_front [] x once = (tt, λ h. h)
once_front (y ∷ ys) x once =
    let rest = once_front ys x once.1 in
    let apart : IsAmong (ys ++ x ∷ []) y → ⊥ = of_absent (ys ++ x ∷ []) y once.0 in (
      (absent_of ys y (λ h. apart (among_front ys x y h)), rest.0),
      ⊎_elim (λ e. apart (subst (λ b. IsAmong (ys ++ x ∷ []) b) e (among_end ys x))) rest.1,
    )

pub once_more : (xs : List ℕ) (x : ℕ) → HasNoRepeats xs → (IsAmong xs x → ⊥) → HasNoRepeats (xs ++ x ∷ [])
once_more [] x once absent = (tt, tt)
once_more (y ∷ ys) x once absent = (
  absent_of (ys ++ x ∷ []) y (λ h. ⊎_elim (of_absent ys y once.0) (λ e. absent (inl (sym e))) (among_last ys x y h)),
  once_more ys x once.1 (λ h. absent (inr h)),
)

pub kept_all : (xs : List ℕ) (x : ℕ) → (IsAmong xs x → ⊥) → filter (is_not x) xs ≡ xs
kept_all [] x absent = refl
kept_all (y ∷ ys) x absent =
    let off : (y == x) ≡ false = apart_eq y x (λ e. absent (inl (sym e))) in
    rw off (ap (λ zs. y ∷ zs) (kept_all ys x (λ h. absent (inr h))))

-- without the last, all that is left are those before it
pub without_last : (xs : List ℕ) (x : ℕ) → (IsAmong xs x → ⊥) → filter (is_not x) (xs ++ x ∷ []) ≡ xs
without_last xs x absent =
    let on : (x == x) ≡ true = same_eq x in
    filter-append (is_not x) xs (x ∷ []) ∙ rw (on, kept_all xs x absent) (append-nil xs)
