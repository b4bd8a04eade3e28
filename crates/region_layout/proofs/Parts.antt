-- Each bucket is in one partition.
use Rattle.std.proofs.Common.{◌≡◌, ◌≢◌, ℕ, suc, ◌+◌, ◌-◌, ◌*◌, ◌/◌, ◌<◌, ◌≤◌, min, ◌∙◌, ap, arith, cond, ⊎_elim, ne_eqb, eq-eqb}
use Rattle.std.proofs.lemmas.Bool.{cases_lt}
use Rattle.std.proofs.Math.Nat.{mul-le-mul_right, div-mul-le_self, lt-div-mul-add}
use Rattle.persist_model.specs.Shape.{Shape, bucket_size, first_bucket, count_buckets, part_of}
use Rattle.region_layout.specs.Layout.{IsAllowed}
use Rattle.region_layout.specs.Apart.{IsWordOfBucket, IsInPartition, PartsAreApart}
use Rattle.region_layout.proofs.Places.{row_of}

-- at least m times n, divided by n
div_least : (x n m : ℕ) → 0 < n → m * n ≤ x → m ≤ x / n
div_least x n m some least =
    ⊎_elim
    (λ (l : x / n < m). absurd (omega (arith, least, lt-div-mul-add {a = x} {b = n} some, mul-le-mul_right {m = suc (x / n)} {n = m} n (omega arith))))
    (λ (l : m ≤ x / n). l)
    (cases_lt (x / n) m)

-- how many buckets each partition but the last has
abbrev each_of : Shape → ℕ
each_of shape = shape.buckets / shape.partitions

pub each_least : (shape : Shape) → IsAllowed shape → 4 ≤ each_of shape
each_least shape allowed = div_least shape.buckets shape.partitions 4 (omega (arith, allowed.partitions.0)) allowed.split

all_within : (shape : Shape) (p : ℕ) → p ≤ shape.partitions → p * each_of shape ≤ shape.buckets
all_within shape p within = omega (arith, mul-le-mul_right {m = p} {n = shape.partitions} (each_of shape) within, div-mul-le_self shape.buckets shape.partitions)

count_last : (shape : Shape) (p : ℕ) → p + 1 ≡ shape.partitions → count_buckets shape p ≡ shape.buckets - p * each_of shape
count_last shape p is = ap (λ b. cond b (shape.buckets - first_bucket shape p) (shape.buckets / shape.partitions)) (eq-eqb (p + 1) shape.partitions is)

count_other : (shape : Shape) (p : ℕ) → p + 1 ≢ shape.partitions → count_buckets shape p ≡ each_of shape
count_other shape p is = ap (λ b. cond b (shape.buckets - first_bucket shape p) (shape.buckets / shape.partitions)) (ne_eqb (p + 1) shape.partitions is)

-- a partition is the last, or not
pub by_last : (shape : Shape) (p : ℕ) (P : Type 0) → p < shape.partitions
    → (p + 1 ≡ shape.partitions → count_buckets shape p ≡ shape.buckets - p * each_of shape → P)
    → (suc p < shape.partitions → count_buckets shape p ≡ each_of shape → P) → P
by_last shape p P within last other =
    ⊎_elim
    (λ (l : p + 1 < shape.partitions). other (omega arith) (count_other shape p (λ e. omega arith)))
    (λ (l : shape.partitions ≤ p + 1). let e : p + 1 ≡ shape.partitions = omega arith in last e (count_last shape p e))
    (cases_lt (p + 1) shape.partitions)

inside : (shape : Shape) (p j : ℕ) → p < shape.partitions → IsInPartition shape p j → j < shape.buckets
inside shape p j within h =
    by_last shape p (j < shape.buckets) within
    (λ last count. omega (arith, h.1, count, all_within shape p (omega arith)))
    (λ more count. omega (arith, h.1, count, all_within shape (suc p) (omega arith)))

-- a bucket of a partition that has another behind it
below_next : (shape : Shape) (p j : ℕ) → suc p < shape.partitions → IsInPartition shape p j → j < suc p * each_of shape
below_next shape p j more h = omega (arith, h.1, count_other shape p (λ e. omega arith))

not_before : (shape : Shape) (p q j : ℕ) → q < shape.partitions → IsInPartition shape p j → IsInPartition shape q j → p < q → ⊥
not_before shape p q j within h g less =
    omega (arith, below_next shape p j (omega arith) h, g.0, mul-le-mul_right {m = suc p} {n = q} (each_of shape) (omega arith))

apart : (shape : Shape) (p q j : ℕ) → p < shape.partitions → q < shape.partitions → IsInPartition shape p j → IsInPartition shape q j → p ≡ q
apart shape p q j p_within q_within h g =
    ⊎_elim
    (λ (l : p < q). absurd (not_before shape p q j q_within h g l))
    (λ (l : q ≤ p). ⊎_elim (λ (m : q < p). absurd (not_before shape q p j p_within g h m)) (λ (m : p ≤ q). omega arith) (cases_lt q p))
    (cases_lt p q)

enough : (shape : Shape) → IsAllowed shape → (p : ℕ) → p < shape.partitions → 4 ≤ count_buckets shape p
enough shape allowed p within =
    by_last shape p (4 ≤ count_buckets shape p) within
    (λ last count. omega (arith, count, each_least shape allowed, all_within shape (suc p) (omega arith)))
    (λ more count. omega (arith, count, each_least shape allowed))

-- the partition that has bucket j
number_of : Shape → ℕ → ℕ
number_of shape j = min (j / each_of shape) (shape.partitions - 1)

covered : (shape : Shape) → IsAllowed shape → (j : ℕ) → j < shape.buckets → (p : ℕ) × (p < shape.partitions) × IsInPartition shape p j
unfolding number_of
covered shape allowed j within =
    let each = each_of shape in
    let p = number_of shape j in
    let some : 0 < each = omega (arith, each_least shape allowed) in
    let under : j / each * each ≤ j = div-mul-le_self j each in
    let is_part : p < shape.partitions = omega (arith, allowed.partitions.0) in
    let low : p * each ≤ j = omega (arith, under, mul-le-mul_right {m = p} {n = j / each} each (omega arith)) in (
      p,
      is_part,
      (
        low,
        by_last shape p (j < first_bucket shape p + count_buckets shape p) is_part
            (λ last count. omega (arith, count, low))
            (λ more count.
            let is : p ≡ j / each = omega arith in
            omega (arith, count, lt-div-mul-add {a = j} {b = each} some, ap (λ n. n * each) is)),
      ),
    )

found : (shape : Shape) → IsAllowed shape → (p j a : ℕ) → p < shape.partitions → IsInPartition shape p j → IsWordOfBucket shape j a → part_of shape a ≡ p
found shape allowed p j a within h word =
    let each = each_of shape in
    let some : 0 < each = omega (arith, each_least shape allowed) in
    let least : p ≤ j / each = div_least j each p some h.0 in
    ap (λ n. min (n / each) (shape.partitions - 1)) (row_of 32 (bucket_size shape) j a word.1 word.2)
    ∙ by_last shape p (min (j / each) (shape.partitions - 1) ≡ p) within
    (λ last count. omega arith)
    (λ more count.
    let most : j / each < suc p =
    ⊎_elim
    (λ (l : j / each < suc p). l)
    (λ (l : suc p ≤ j / each). absurd (omega (arith, below_next shape p j more h, div-mul-le_self j each, mul-le-mul_right {m = suc p} {n = j / each} each l)))
    (cases_lt (j / each) (suc p)) in
    omega arith)

pub parts_apart : PartsAreApart
parts_apart shape allowed = record {
  covered = covered shape allowed;
  apart = apart shape;
  inside = inside shape;
  enough = enough shape allowed;
  found = found shape allowed;
}
