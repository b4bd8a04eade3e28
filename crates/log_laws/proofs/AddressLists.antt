-- Lists of addresses.
use Rattle.std.proofs.Common.{◌≡◌, ◌≢◌, inl, inr, ℕ, zero, suc, ◌+◌, ◌<◌, ◌≤◌, List, [], ◌∷◌, ◌++◌, sym, subst, arith}
use Rattle.std.specs.List.{range_with_len}
use Rattle.std.proofs.lemmas.Bool.Decides.{eqb_tells}
use Rattle.persist_model.specs.Region.{Words}
use Rattle.persist_model.specs.Chain.{Each, IsAbsent, HasNoRepeats, last_or, Links}

pub each_left : (P : ℕ → Type 0) (xs ys : List ℕ) → Each P (xs ++ ys) → Each P xs
each_left P [] ys h = tt
each_left P (x ∷ xs) ys h = (h.0, each_left P xs ys h.1)

pub each_right : (P : ℕ → Type 0) (xs ys : List ℕ) → Each P (xs ++ ys) → Each P ys
each_right P [] ys h = h
each_right P (x ∷ xs) ys h = each_right P xs ys h.1

pub each_join : (P : ℕ → Type 0) (xs ys : List ℕ) → Each P xs → Each P ys → Each P (xs ++ ys)
each_join P [] ys h k = k
each_join P (x ∷ xs) ys h k = (h.0, each_join P xs ys h.1 k)

pub each_map : (P Q : ℕ → Type 0) (xs : List ℕ) → ((x : ℕ) → P x → Q x) → Each P xs → Each Q xs
each_map P Q [] f h = tt
each_map P Q (x ∷ xs) f h = (f x h.0, each_map P Q xs f h.1)

pub each_last : (P : ℕ → Type 0) (d : ℕ) (xs : List ℕ) → P d → Each P xs → P (last_or d xs)
each_last P d [] p h = p
each_last P d (x ∷ xs) p h = each_last P x xs h.0 h.1

pub no_repeats_push : (xs : List ℕ) (y : ℕ) → HasNoRepeats xs → IsAbsent y xs → HasNoRepeats (xs ++ y ∷ [])
no_repeats_push [] y h k = (tt, tt)
no_repeats_push (x ∷ xs) y h k = (each_join (λ z. x ≢ z) xs (y ∷ []) h.0 ((λ e. k.0 (sym e)), tt), no_repeats_push xs y h.1 k.1)

pub no_repeats_left : (xs ys : List ℕ) → HasNoRepeats (xs ++ ys) → HasNoRepeats xs
no_repeats_left [] ys h = tt
no_repeats_left (x ∷ xs) ys h = (each_left (λ z. x ≢ z) xs ys h.0, no_repeats_left xs ys h.1)

pub last_is_absent : (xs : List ℕ) (y : ℕ) → HasNoRepeats (xs ++ y ∷ []) → IsAbsent y xs
last_is_absent [] y h = tt
last_is_absent (x ∷ xs) y h = ((λ e. (each_right (λ z. x ≢ z) xs (y ∷ []) h.0).0 (sym e)), last_is_absent xs y h.1)

pub links_last : (w : Words) (from : ℕ) (xs : List ℕ) (to : ℕ) → Links w from xs to → w (last_or from xs) ≡ to
links_last w from [] to h = h
links_last w from (x ∷ xs) to h = links_last w x xs to h.2

-- none of a walk is 0
pub links_nonzero : (w : Words) (from : ℕ) (xs : List ℕ) (to : ℕ) → Links w from xs to → IsAbsent 0 xs
links_nonzero w from [] to h = tt
links_nonzero w from (x ∷ xs) to h = ((λ e. h.1 (sym e)), links_nonzero w x xs to h.2)

-- ---- the numbers of a range

pub each_in_range : (P : ℕ → Type 0) (s n : ℕ) → ((p : ℕ) → s ≤ p → p < s + n → P p) → Each P (range_with_len s n)
each_in_range P s zero f = tt
each_in_range P s (suc n) f = (f s (omega arith) (omega arith), each_in_range P (s + 1) n (λ p le lt. f p (omega (arith, le)) (omega (arith, lt))))

pub of_range : (P : ℕ → Type 0) (s n : ℕ) → Each P (range_with_len s n) → (p : ℕ) → s ≤ p → p < s + n → P p
of_range P s zero h p le lt = absurd (omega (arith, le, lt))
of_range P s (suc n) h p le lt = elim (eqb_tells p s) [
  | inl e ↦ subst P (sym e.1) h.0
  | inr ne ↦ (let apart = ne.1 in of_range P (s + 1) n h.1 p (omega (arith, le, apart)) (omega (arith, lt)))
]
