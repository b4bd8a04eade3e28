-- Lists of buckets.
use Rattle.std.proofs.Common.{◌≡◌, inl, inr, ℕ, zero, suc, ◌+◌, ◌-◌, ◌<◌, ◌≤◌, not, ◌==◌, List, [], ◌∷◌, length, filter, get_or, drop, refl, sym, ap, ◌∙◌, subst, add-one, arith, drop-cons}
use Rattle.std.proofs.lemmas.Bool.Decides.{eqb_tells}
use Rattle.std.proofs.lemmas.List.{drop_all}
use Rattle.persist_model.specs.Records.{IsAmong}
use Rattle.persist_model.specs.Chain.{Each, last_or, without}

pub filter_without : (b : ℕ) (xs : List ℕ) → filter (λ x. not (x == b)) xs ≡ without b xs
filter_without b [] = refl
filter_without b (x ∷ xs) = elim (eqb_tells x b) [ inl e ↦ rw e.0 (filter_without b xs) | inr e ↦ rw e.0 (ap (λ ys. x ∷ ys) (filter_without b xs)) ]

pub drop_next : (xs : List ℕ) (i : ℕ) → i < length xs → drop i xs ≡ get_or xs i 0 ∷ drop (i + 1) xs
drop_next xs i lt = rw (add-one, drop-cons xs i 0) refl

pub last_is : (xs : List ℕ) (d : ℕ) → 0 < length xs → get_or xs (length xs - 1) 0 ≡ last_or d xs
last_is [] d lt = absurd (omega (arith, lt))
last_is (x ∷ []) d lt = refl
last_is (x ∷ y ∷ xs) d lt =
    let e : length (x ∷ y ∷ xs) - 1 ≡ suc (length (y ∷ xs) - 1) = omega arith in
    ap (λ i. get_or (x ∷ y ∷ xs) i 0) e ∙ last_is (y ∷ xs) x (omega arith)

-- ---- whether b is one of xs: what is left decides

pub among_here : (xs : List ℕ) (b i : ℕ) → i < length xs → get_or xs i 0 ≡ b → IsAmong xs b
among_here [] b i lt e = absurd (omega (arith, lt))
among_here (x ∷ xs) b zero lt e = inl (sym e)
among_here (x ∷ xs) b (suc i) lt e = inr (among_here xs b i (omega (arith, lt)) e)

pub among_left : (xs : List ℕ) (b i : ℕ) → i < length xs → IsAmong (drop i xs) b → (get_or xs i 0 ≡ b → ⊥) → IsAmong (drop (i + 1) xs) b
among_left xs b i lt m ne = elim (subst (λ ys. IsAmong ys b) (drop_next xs i lt) m) [ inl e ↦ absurd (ne (sym e)) | inr k ↦ k ]

pub among_none : (xs : List ℕ) (b i : ℕ) → length xs ≤ i → IsAmong (drop i xs) b → ⊥
among_none xs b i le m = subst (λ ys. IsAmong ys b) (drop_all i xs le) m

-- ---- what holds of each

pub each_at : (P : ℕ → Type 0) (xs : List ℕ) (i : ℕ) → i < length xs → Each P xs → P (get_or xs i 0)
each_at P [] i lt h = absurd (omega (arith, lt))
each_at P (x ∷ xs) zero lt h = h.0
each_at P (x ∷ xs) (suc i) lt h = each_at P xs i (omega (arith, lt)) h.1
