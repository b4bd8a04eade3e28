-- How many buckets a number of records takes.
use Rattle.std.proofs.Common.{◌≡◌, inl, inr, ℕ, zero, suc, ◌+◌, ◌-◌, ◌*◌, ◌/◌, ◌%◌, ◌<◌, ◌≤◌, arith, refl}
use Rattle.std.proofs.lemmas.Bool.{cases_lt}
use Rattle.batch_log.specs.FreeBuckets.{buckets_for}

-- m buckets have enough cells for n records, and one less hasn't
pub record IsEnough (cells m n : ℕ) : Type 0 where
  pub all : n ≤ cells * m
  pub no_less : cells * m < n + cells

pub enough_for : (cells n : ℕ) → 1 ≤ cells → IsEnough cells (buckets_for cells n) n
enough_for cells n some =
    let q : ℕ = (n + (cells - 1)) / cells in
    let r : ℕ = (n + (cells - 1)) % cells in
    let whole : cells * q + r ≡ n + (cells - 1) = omega (arith, some) in
    let small : r < cells = omega (arith, some) in
    record { all = omega (arith, whole, small, some); no_less = omega (arith, whole, small, some) }

-- without the first bucket and its records
pub enough_behind : (cells m n : ℕ) → IsEnough cells (suc m) n → IsEnough cells m (n - cells)
enough_behind cells m n h =
    let all = h.all in
    let no_less = h.no_less in
    elim (cases_lt n cells) [
      | inl lt ↦ record { all = omega (arith, lt); no_less = omega (arith, lt, no_less) }
      | inr ge ↦ record { all = omega (arith, ge, all); no_less = omega (arith, ge, no_less) }
    ]

-- where there are two buckets the first is full
pub first_full : (cells m n : ℕ) → IsEnough cells (suc (suc m)) n → cells < n
first_full cells m n h = let no_less = h.no_less in omega (arith, no_less)

pub full_first : (cells m n : ℕ) → IsEnough cells (suc m) n → 1 ≤ m → cells < n
full_first cells zero n h some = absurd (omega (arith, some))
full_first cells (suc m) n h some = first_full cells m n h

-- where there is a bucket it has a record
pub first_some : (cells m n : ℕ) → IsEnough cells (suc m) n → 1 ≤ n
first_some cells m n h = let no_less = h.no_less in omega (arith, no_less)

-- where the first isn't full it is the only one
pub first_only : (cells m n : ℕ) → IsEnough cells (suc m) n → n < cells → m ≡ 0
first_only cells zero n h lt = refl
first_only cells (suc m) n h lt = let more = first_full cells m n h in absurd (omega (arith, more, lt))

-- no bucket is for no records
pub none_left : (cells n : ℕ) → IsEnough cells 0 n → n ≡ 0
none_left cells n h = let all = h.all in omega (arith, all)
