-- A loop that tries rules in order: what is left to be tried completes the whole.
use Rattle.std.proofs.Common.{◌≡◌, inl, inr, ℕ, ◌+◌, ◌<◌, ◌≤◌, List, [], ◌∷◌, ◌++◌, length, get_or, drop, refl, sym, subst}
use Rattle.persist_model.specs.Chain.{Each}
use Rattle.persist_model.specs.Faults.{FaultSet, TriedEach, NoFault}
use Rattle.std.proofs.lemmas.List.{drop_all}
use Rattle.sound_check.proofs.BucketLists.{drop_next}

-- where what is left holds all hold, and a fault of what is left is the first of all
pub record IsLeft (P : ℕ → Type 0) (n : ℕ) (at : ℕ → ℕ) (all left : List ℕ) : Type 0 where
  pub holds : Each P left → Each P all
  pub fails : (i a : ℕ) → TriedEach P n at left NoFault i a → TriedEach P n at all NoFault i a

pub left_all : (P : ℕ → Type 0) (n : ℕ) (at : ℕ → ℕ) (all : List ℕ) → IsLeft P n at all all
left_all P n at all = record { holds = λ h. h; fails = λ i a f. f }

-- a fault of the first ones stays with more behind them
pub each_more : (P : ℕ → Type 0) (n : ℕ) (at : ℕ → ℕ) (xs ys : List ℕ) (next : FaultSet) (i a : ℕ) → TriedEach P n at xs NoFault i a → TriedEach P n at (xs ++ ys) next i a
each_more P n at [] ys next i a f = absurd f
each_more P n at (x ∷ xs) ys next i a (inl f) = inl f
each_more P n at (x ∷ xs) ys next i a (inr f) = inr (f.0, each_more P n at xs ys next i a f.1)

each_join : (P : ℕ → Type 0) (xs ys : List ℕ) → Each P xs → Each P ys → Each P (xs ++ ys)
each_join P [] ys h k = k
each_join P (x ∷ xs) ys h k = (h.0, each_join P xs ys h.1 k)

each_behind : (P : ℕ → Type 0) (n : ℕ) (at : ℕ → ℕ) (xs ys : List ℕ) (i a : ℕ) → Each P xs → TriedEach P n at ys NoFault i a → TriedEach P n at (xs ++ ys) NoFault i a
each_behind P n at [] ys i a h f = f
each_behind P n at (x ∷ xs) ys i a h f = inr (h.0, each_behind P n at xs ys i a h.1 f)

-- the first ones hold
pub left_goes_on : (P : ℕ → Type 0) (n : ℕ) (at : ℕ → ℕ) (all front left : List ℕ) → IsLeft P n at all (front ++ left) → Each P front → IsLeft P n at all left
left_goes_on P n at all front left h good = record {
  holds = λ k. h.holds (each_join P front left good k);
  fails = λ i a f. h.fails i a (each_behind P n at front left i a good f);
}

-- or one of them doesn't
pub left_fails : (P : ℕ → Type 0) (n : ℕ) (at : ℕ → ℕ) (all front left : List ℕ) → IsLeft P n at all (front ++ left) → (i a : ℕ) → TriedEach P n at front NoFault i a → TriedEach P n at all NoFault i a
left_fails P n at all front left h i a f = h.fails i a (each_more P n at front left NoFault i a f)

-- ---- one by one

pub left_next : (P : ℕ → Type 0) (n : ℕ) (at : ℕ → ℕ) (all xs : List ℕ) (i : ℕ) → i < length xs → IsLeft P n at all (drop i xs) → P (get_or xs i 0) → IsLeft P n at all (drop (i + 1) xs)
left_next P n at all xs i lt h p =
    left_goes_on P n at all (get_or xs i 0 ∷ []) (drop (i + 1) xs) (subst (λ ys. IsLeft P n at all ys) (drop_next xs i lt) h) (p, tt)

pub left_here : (P : ℕ → Type 0) (n : ℕ) (at : ℕ → ℕ) (all xs : List ℕ) (i : ℕ) → i < length xs → IsLeft P n at all (drop i xs) → (P (get_or xs i 0) → ⊥) → TriedEach P n at all NoFault n (at (get_or xs i 0))
left_here P n at all xs i lt h bad =
    left_fails P n at all (get_or xs i 0 ∷ []) (drop (i + 1) xs) (subst (λ ys. IsLeft P n at all ys) (drop_next xs i lt) h) n (at (get_or xs i 0)) (inl (bad, refl, refl))

pub drop_past : (xs : List ℕ) (i : ℕ) → length xs ≤ i → drop i xs ≡ []
drop_past xs i le = drop_all i xs le

pub left_none : (P : ℕ → Type 0) (n : ℕ) (at : ℕ → ℕ) (all xs : List ℕ) (i : ℕ) → length xs ≤ i → IsLeft P n at all (drop i xs) → Each P all
left_none P n at all xs i le h = h.holds (subst (λ ys. Each P ys) (sym (drop_past xs i le)) tt)

-- ---- a fault by the numbers that say it

pub fault_at : (faults : FaultSet) (i a j b : ℕ) → i ≡ j → a ≡ b → faults j b → faults i a
fault_at faults i a j b e f h = subst (λ n. faults n a) (sym e) (subst (faults j) (sym f) h)
