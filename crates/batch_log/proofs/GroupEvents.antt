-- The events of a group by their numbers.
use Rattle.std.proofs.Common.{◌≡◌, ◌↔◌, ◌⊎◌, inl, inr, ℕ, zero, suc, ◌+◌, ◌-◌, ◌*◌, ◌/◌, ◌%◌, ◌<◌, ◌≤◌, ◌≢◌, min, List, [], ◌∷◌, ◌++◌, length, take, drop, get_or, Option, Some, None, refl, ap, sym, ◌∙◌, arith, subst, length-append}
use Rattle.std.specs.Prelude.{slice_get}
use Rattle.std.proofs.lemmas.Bool.{cases_lt}
use Rattle.std.proofs.lemmas.List.{length-take}
use Rattle.persist_model.specs.declared.event.Event.{Event}
use Rattle.persist_model.specs.declared.event.Event.TheVariants.{Store, PStore, WriteBack, Fence}
use Rattle.persist_model.specs.ImageRecords.{cell_address}
use Rattle.region_layout.specs.declared.cell.Cell.{Cell}
use Rattle.atomic_list.specs.Plans.{insertion}
use Rattle.batch_log.specs.FreeBuckets.{buckets_for}
use Rattle.batch_log.specs.Plans.{cell_part, filling, bucket_plan, group_plan, bucket_events, count_fences, BucketsHaveEvents, GroupsHaveEvents, GroupsHaveFences}
use Rattle.batch_log.proofs.Enough.{IsEnough, enough_for, enough_behind, full_first, first_only, none_left}
use Rattle.batch_log.proofs.Events.{get-left, get-right, length-bucket_plan}

pub size-take : (n : ℕ) (xs : List Cell) → length (take n xs) ≡ min n (length xs)
size-take n xs = length-take n xs

pub take_few : (n : ℕ) (xs : List Cell) → length (take n xs) ≤ n
take_few zero xs = omega arith
take_few (suc n) [] = omega arith
take_few (suc n) (x ∷ xs) = let rest = take_few n xs in omega (arith, rest)

pub take_full : (n : ℕ) (xs : List Cell) → n ≤ length xs → length (take n xs) ≡ n
take_full zero xs le = refl
take_full (suc n) [] le = absurd (omega (arith, le))
take_full (suc n) (x ∷ xs) le = let rest = take_full n xs (omega (arith, le)) in omega (arith, rest)

pub take_short : (n : ℕ) (xs : List Cell) → length xs ≤ n → take n xs ≡ xs
take_short zero [] le = refl
take_short zero (x ∷ xs) le = absurd (omega (arith, le))
take_short (suc n) [] le = refl
take_short (suc n) (x ∷ xs) le = ap (λ ys. x ∷ ys) (take_short n xs (omega (arith, le)))

pub drop_size : (n : ℕ) (xs : List Cell) → length (drop n xs) ≡ length xs - n
drop_size zero xs = omega arith
drop_size (suc n) [] = omega arith
drop_size (suc n) (x ∷ xs) = let rest = drop_size n xs in omega (arith, rest)

pub drop_more : (n m : ℕ) (xs : List Cell) → drop n (drop m xs) ≡ drop (m + n) xs
drop_more n zero xs = ap (λ k. drop k xs) (let e : n ≡ 0 + n = omega arith in e)
drop_more zero (suc m) [] = ap (λ k. drop {A = Cell} k []) (let e : suc m ≡ suc m + 0 = omega arith in e)
drop_more (suc n) (suc m) [] = let e : suc (m + suc n) ≡ suc m + suc n = omega arith in ap (λ k. drop {A = Cell} k []) e
drop_more n (suc m) (x ∷ xs) = drop_more n m xs ∙ (let e : suc (m + n) ≡ suc m + n = omega arith in ap (λ k. drop k (x ∷ xs)) e)

-- the bucket behind which the one with this number is put
abbrev pub tail_at : ℕ → List ℕ → ℕ → ℕ
tail_at tail buckets zero = tail
tail_at tail buckets (suc n) = get_or buckets n 0

-- the plan of the bucket with this number
abbrev pub plan_at : ℕ → ℕ → List ℕ → List Cell → ℕ → List Event
plan_at cells tail buckets records n = bucket_plan cells (get_or buckets n 0) (tail_at tail buckets n) (take cells (drop (n * cells) records))

tail_behind : (tail b : ℕ) (buckets : List ℕ) (n : ℕ) → tail_at b buckets n ≡ tail_at tail (b ∷ buckets) (suc n)
tail_behind tail b buckets zero = refl
tail_behind tail b buckets (suc n) = refl

get_past : (xs : List Event) (i : ℕ) → length xs ≤ i → slice_get xs i ≡ None
get_past [] i le = refl
get_past (x ∷ xs) zero le = absurd (omega (arith, le))
get_past (x ∷ xs) (suc i) le = get_past xs i (omega (arith, le))

-- Event i is that with number rest of the bucket with number n.
pub group_at : (cells tail : ℕ) (buckets : List ℕ) (records : List Cell) (n rest i : ℕ) → IsEnough cells (length buckets) (length records) → n < length buckets →
    rest < 11 + 8 * cells → i ≡ n * (11 + 8 * cells) + rest → slice_get (group_plan cells tail buckets records) i ≡ slice_get (plan_at cells tail buckets records n) rest
group_at cells tail [] records n rest i enough lt small e = absurd (omega (arith, lt))
group_at cells tail (b ∷ buckets) records zero rest i enough lt small e =
    let same : i ≡ rest = omega (arith, e) in
    let front : take cells (drop (0 * cells) records) ≡ take cells records = ap (λ k. take cells (drop k records)) (let z : 0 * cells ≡ 0 = omega arith in z) in
    let size = length-bucket_plan cells b tail (take cells records) (take_few cells records) in
    ap (slice_get (group_plan cells tail (b ∷ buckets) records)) same
    ∙ (elim (cases_lt rest (length (bucket_plan cells b tail (take cells records)))) [
      | inl within ↦ get-left (bucket_plan cells b tail (take cells records)) (group_plan cells b buckets (drop cells records)) rest within
      | inr past ↦ last (length records) refl size past
    ])
    ∙ sym (ap (λ xs. slice_get (bucket_plan cells b tail xs) rest) front)
  where
    last : (m : ℕ) → m ≡ length records → length (bucket_plan cells b tail (take cells records)) ≡ bucket_events cells (length (take cells records)) →
        length (bucket_plan cells b tail (take cells records)) ≤ rest →
        slice_get (bucket_plan cells b tail (take cells records) ++ group_plan cells b buckets (drop cells records)) rest ≡ slice_get (bucket_plan cells b tail (take cells records)) rest
    last m is size past = alone buckets (first_only cells (length buckets) (length records) enough (few (cases_lt (length records) cells)))
      where
        few : (length records < cells) ⊎ (cells ≤ length records) → length records < cells
        few (inl less) = less
        few (inr more) = let full = take_full cells records more in absurd (omega (arith, full, size, past, small))

        alone : (bs : List ℕ) → length bs ≡ 0 →
            slice_get (bucket_plan cells b tail (take cells records) ++ group_plan cells b bs (drop cells records)) rest ≡ slice_get (bucket_plan cells b tail (take cells records)) rest
        alone [] none =
            get-right (bucket_plan cells b tail (take cells records)) [] rest past ∙ sym (get_past (bucket_plan cells b tail (take cells records)) rest past)
        alone (x ∷ bs) none = absurd (omega (arith, none))
group_at cells tail (b ∷ buckets) records (suc n) rest i enough lt small e =
    let more = full_first cells (length buckets) (length records) enough (omega (arith, lt)) in
    let full = take_full cells records (omega (arith, more)) in
    let size = length-bucket_plan cells b tail (take cells records) (take_few cells records) in
    let at : i - length (bucket_plan cells b tail (take cells records)) ≡ n * (11 + 8 * cells) + rest = omega (arith, e, size, full) in
    get-right (bucket_plan cells b tail (take cells records)) (group_plan cells b buckets (drop cells records)) i (omega (arith, e, size, full))
    ∙ group_at cells b buckets (drop cells records) n rest (i - length (bucket_plan cells b tail (take cells records)))
    (subst (IsEnough cells (length buckets)) (sym (drop_size cells records)) (enough_behind cells (length buckets) (length records) enough)) (omega (arith, lt)) small at
    ∙ ap (λ xs. slice_get (bucket_plan cells (get_or buckets n 0) (tail_at b buckets n) (take cells xs)) rest)
    (drop_more (n * cells) cells records ∙ (let k : cells + n * cells ≡ suc n * cells = omega arith in ap (λ m. drop m records) k))
    ∙ ap (λ t. slice_get (bucket_plan cells (get_or buckets n 0) t (take cells (drop (suc n * cells) records))) rest) (tail_behind tail b buckets n)

-- no event is behind the last bucket's
pub group_past : (cells tail : ℕ) (buckets : List ℕ) (records : List Cell) (i : ℕ) → length buckets * (11 + 8 * cells) ≤ i → slice_get (group_plan cells tail buckets records) i ≡ None
group_past cells tail [] records i le = refl
group_past cells tail (b ∷ buckets) records i le =
    let size = length-bucket_plan cells b tail (take cells records) (take_few cells records) in
    let few = take_few cells records in
    get-right (bucket_plan cells b tail (take cells records)) (group_plan cells b buckets (drop cells records)) i (omega (arith, size, few, le))
    ∙ group_past cells b buckets (drop cells records) (i - length (bucket_plan cells b tail (take cells records))) (omega (arith, size, few, le))

-- ---- how many there are

pub length-group_plan : (cells tail : ℕ) (buckets : List ℕ) (records : List Cell) → IsEnough cells (length buckets) (length records) →
    length (group_plan cells tail buckets records) ≡ (11 + cells) * length buckets + 7 * length records
length-group_plan cells tail [] records enough = let none = none_left cells (length records) enough in omega (arith, none)
length-group_plan cells tail (b ∷ buckets) records enough =
    let size = length-bucket_plan cells b tail (take cells records) (take_few cells records) in
    let rest = length-group_plan cells b buckets (drop cells records)
    (subst (IsEnough cells (length buckets)) (sym (drop_size cells records)) (enough_behind cells (length buckets) (length records) enough)) in
    let both = length-append (bucket_plan cells b tail (take cells records)) (group_plan cells b buckets (drop cells records)) in
    let parts = parts_of cells records in
    omega (arith, size, rest, both, parts)
  where
    parts_of : (n : ℕ) (xs : List Cell) → length (take n xs) + length (drop n xs) ≡ length xs
    parts_of zero xs = omega arith
    parts_of (suc n) [] = refl
    parts_of (suc n) (x ∷ xs) = let k = parts_of n xs in omega (arith, k)

has_events : (plan : List Event) (i : ℕ) → (slice_get plan i ≡ None) ↔ (length plan ≤ i)
has_events [] i = (λ e. omega arith, λ h. refl)
has_events (x ∷ plan) zero = (λ e. cc, λ h. absurd (omega arith))
has_events (x ∷ plan) (suc i) = let k = has_events plan i in (λ e. (let le = k.0 e in omega (arith, le)), λ h. k.1 (omega (arith, h)))

pub buckets_have_events : BucketsHaveEvents
buckets_have_events cells bucket tail records few i =
    subst (λ n. (slice_get (bucket_plan cells bucket tail records) i ≡ None) ↔ (n ≤ i)) (length-bucket_plan cells bucket tail records few) (has_events (bucket_plan cells bucket tail records) i)

pub groups_have_events : GroupsHaveEvents
groups_have_events cells tail buckets records some enough i =
    subst (λ n. (slice_get (group_plan cells tail buckets records) i ≡ None) ↔ (n ≤ i))
    (length-group_plan cells tail buckets records (subst (λ m. IsEnough cells m (length records)) (sym enough) (enough_for cells (length records) some)))
    (has_events (group_plan cells tail buckets records) i)

-- ---- the fences

fences-append : (es fs : List Event) → count_fences (es ++ fs) ≡ count_fences es + count_fences fs
fences-append [] fs = omega arith
fences-append (Store a v ∷ es) fs = fences-append es fs
fences-append (PStore a v ∷ es) fs = fences-append es fs
fences-append (WriteBack a ∷ es) fs = fences-append es fs
fences-append (Fence ∷ es) fs = let rest = fences-append es fs in omega (arith, rest)

fences_of_part : (at : ℕ) (o : Option Cell) → count_fences (cell_part at o) ≡ 0
fences_of_part at (Some cell) = refl
fences_of_part at None = refl

fences_of_filling : (bucket n : ℕ) (records : List Cell) → count_fences (filling bucket records n) ≡ 0
fences_of_filling bucket zero records = refl
fences_of_filling bucket (suc n) records =
    let both = fences-append (filling bucket records n) (cell_part (cell_address bucket n) (slice_get records n)) in
    let rest = fences_of_filling bucket n records in
    let part = fences_of_part (cell_address bucket n) (slice_get records n) in
    omega (arith, both, rest, part)

pub groups_have_fences : GroupsHaveFences
groups_have_fences cells tail [] records = refl
groups_have_fences cells tail (b ∷ buckets) records =
    let both = fences-append (bucket_plan cells b tail (take cells records)) (group_plan cells b buckets (drop cells records)) in
    let first = fences-append (filling b (take cells records) cells) (insertion (record { node = b; tail = tail })) in
    let none = fences_of_filling b cells (take cells records) in
    let rest = groups_have_fences cells b buckets (drop cells records) in
    omega (arith, both, first, none, rest)

-- ---- as they are computed

pub tail_first : (tail t n : ℕ) (buckets : List ℕ) → n ≡ 0 → t ≡ tail → t ≡ tail_at tail buckets n
tail_first tail t zero buckets z e = e
tail_first tail t (suc n) buckets z e = absurd (omega (arith, z))

pub tail_later : (tail t n : ℕ) (buckets : List ℕ) → n ≢ 0 → t ≡ get_or buckets (n - 1) 0 → t ≡ tail_at tail buckets n
tail_later tail t zero buckets ne e = absurd (ne refl)
tail_later tail t (suc n) buckets ne e = e ∙ (let k : suc n - 1 ≡ n = omega arith in ap (λ m. get_or buckets m 0) k)

take_to : (n cells to : ℕ) (records : List Cell) → to ≡ min (length records) (n + cells) → take (to - n) (drop n records) ≡ take cells (drop n records)
take_to n cells to records e =
    let rest = drop_size n records in
    elim (cases_lt (n + cells) (length records)) [
      | inl lt ↦ (let k : to - n ≡ cells = omega (arith, e, lt) in ap (λ m. take m (drop n records)) k)
      | inr ge ↦ take_short (to - n) (drop n records) (omega (arith, e, ge, rest)) ∙ sym (take_short cells (drop n records) (omega (arith, ge, rest)))
    ]

pub event_by : (cells tail i : ℕ) (buckets : List ℕ) (records : List Cell) (per t to : ℕ) (bs : List ℕ) (rs : List Cell) (e : Option Event) → 1 ≤ cells →
    length buckets ≡ buckets_for cells (length records) → per ≡ cells → bs ≡ buckets → rs ≡ records →
    t ≡ tail_at tail bs (i / (11 + 8 * per)) → to ≡ min (length rs) (i / (11 + 8 * per) * cells + cells) → i / (11 + 8 * per) < length bs →
    e ≡ slice_get (bucket_plan cells (get_or bs (i / (11 + 8 * per)) 0) t (take (to - i / (11 + 8 * per) * cells) (drop (i / (11 + 8 * per) * cells) rs))) (i % (11 + 8 * per)) →
    e ≡ slice_get (group_plan cells tail buckets records) i
event_by cells tail i buckets records per t to bs rs e some enough per_is bs_is rs_is t_is to_is below is =
    is
    ∙ (λ j. slice_get (bucket_plan cells (get_or (bs_is j) (i / (11 + 8 * per_is j)) 0) t
    (take (to - i / (11 + 8 * per_is j) * cells) (drop (i / (11 + 8 * per_is j) * cells) (rs_is j)))) (i % (11 + 8 * per_is j)))
    ∙ ap (λ u. slice_get (bucket_plan cells (get_or buckets (i / (11 + 8 * cells)) 0) u (take (to - i / (11 + 8 * cells) * cells) (drop (i / (11 + 8 * cells) * cells) records))) (i % (11 + 8 * cells)))
    (t_is ∙ (λ j. tail_at tail (bs_is j) (i / (11 + 8 * per_is j))))
    ∙ ap (λ xs. slice_get (bucket_plan cells (get_or buckets (i / (11 + 8 * cells)) 0) (tail_at tail buckets (i / (11 + 8 * cells))) xs) (i % (11 + 8 * cells))) (take_to (i / (11 + 8 * cells) * cells) cells to records
    (to_is ∙ (λ j. min (length (rs_is j)) (i / (11 + 8 * per_is j) * cells + cells))))
    ∙ sym (group_at cells tail buckets records (i / (11 + 8 * cells)) (i % (11 + 8 * cells)) i (subst (λ m. IsEnough cells m (length records)) (sym enough) (enough_for cells (length records) some))
    (subst (λ m. m < length buckets) (λ j. i / (11 + 8 * per_is j)) (subst (λ xs. i / (11 + 8 * per) < length xs) bs_is below))
    (omega arith) (whole i (11 + 8 * cells) (omega arith)))
  where
    whole : (i n : ℕ) → 1 ≤ n → i ≡ i / n * n + i % n
    whole i n some = omega (arith, some)
