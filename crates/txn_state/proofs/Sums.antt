-- Sums over the lanes.
use Rattle.std.proofs.Common.{◌≡◌, ◌≢◌, inl, inr, ℕ, zero, suc, ◌<◌, ◌≤◌, refl, sym, ap, ◌∙◌, arith}
use Rattle.std.proofs.lemmas.Bool.Decides.{eqb_tells}
use Rattle.txn_laws.specs.Rooms.{sum_below}
use Rattle.txn_state.specs.Beside.{SumsDiffer}

-- of the same summands
pub sums_same : (f g : ℕ → ℕ) (n : ℕ) → ((k : ℕ) → k < n → f k ≡ g k) → sum_below f n ≡ sum_below g n
sums_same f g zero same = refl
sums_same f g (suc n) same = let others = sums_same f g n (λ k lt. same k (omega (arith, lt))) in let last = same n (omega arith) in omega (arith, others, last)

-- of no greater summands
pub sums_less : (f g : ℕ → ℕ) (n : ℕ) → ((k : ℕ) → k < n → f k ≤ g k) → sum_below f n ≤ sum_below g n
sums_less f g zero less = omega arith
sums_less f g (suc n) less = let others = sums_less f g n (λ k lt. less k (omega (arith, lt))) in let last = less n (omega arith) in omega (arith, others, last)

pub sums_differ : SumsDiffer
sums_differ f g l zero lt same = absurd (omega (arith, lt))
sums_differ f g l (suc n) lt same = elim (eqb_tells n l) [
  | inl e ↦ (let others = sums_same f g n (λ k less. same k (λ is. absurd (below k less (is ∙ sym e.1)))) in
      let first : f n ≡ f l = ap f e.1 in
      let second : g n ≡ g l = ap g e.1 in
      omega (arith, others, first, second))
  | inr ne ↦ (let others = sums_differ f g l n (above ne.1) same in let last = same n ne.1 in omega (arith, others, last))
]
  where
    below : (k : ℕ) → k < n → k ≡ n → ⊥
    below k less is = omega (arith, less, is)

    above : n ≢ l → l < n
    above ne = omega (arith, lt, ne)

-- a summand is no more than the sum
pub summand_within : (f : ℕ → ℕ) (l n : ℕ) → l < n → f l ≤ sum_below f n
summand_within f l zero lt = absurd (omega (arith, lt))
summand_within f l (suc n) lt = elim (eqb_tells n l) [
  | inl e ↦ (let same : f n ≡ f l = ap f e.1 in omega (arith, same))
  | inr ne ↦ (let others = summand_within f l n (above ne.1) in omega (arith, others))
]
  where
    above : n ≢ l → l < n
    above ne = omega (arith, lt, ne)

-- of nothing
pub sums_none : (f : ℕ → ℕ) (n : ℕ) → ((k : ℕ) → f k ≡ 0) → sum_below f n ≡ 0
sums_none f zero none = refl
sums_none f (suc n) none = let others = sums_none f n none in let last = none n in omega (arith, others, last)

-- of ones at most
pub sums_few : (f : ℕ → ℕ) (n : ℕ) → ((k : ℕ) → f k ≤ 1) → sum_below f n ≤ n
sums_few f zero few = omega arith
sums_few f (suc n) few = let others = sums_few f n few in let last = few n in omega (arith, others, last)
