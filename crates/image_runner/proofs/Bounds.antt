-- How many events a recovery may take, as a number.
use Rattle.std.proofs.Common.{◌≡◌, ◌⊎◌, inl, inr, ℕ, zero, suc, ◌+◌, ◌-◌, ◌*◌, ◌/◌, ◌<◌, ◌≤◌, ◌==◌, Bool, true, false, if◌then◌else◌, List, [], ◌∷◌, length, map, refl, sym, ◌∙◌, ap, subst, arith}
use Rattle.std.proofs.Math.Nat.{div-le_self, div-mul-le_self, mul-le-mul_right}
use Rattle.std.proofs.lemmas.Bool.Decides.{eqb_tells}
use Rattle.persist_model.specs.Region.{Words}
use Rattle.persist_model.specs.Records.{Record, Log, IsAmong, IsNewer, IsNewestFirst}
use Rattle.persist_model.specs.Chain.{Each, IsAbsent, HasNoRepeats, view, last_or}
use Rattle.persist_model.specs.Need.{need_in}
use Rattle.persist_model.specs.Shape.{Shape, shape_of, heap, bucket, bucket_size, first_bucket, count_buckets, part_of, log_words, IsBucketOf, IsShape, SECOND_MAGIC}
use Rattle.persist_model.specs.ImageRecords.{cell_address, record_at, IsRecordOf}
use Rattle.persist_model.specs.State.{State, total_need}
use Rattle.persist_model.specs.Sound.{HasState, IsSound, closed_cells, room_of}
use Rattle.log_laws.proofs.SameLists.{chain_buckets}
use Rattle.persist_hash.proofs.Lists.{at_most}
use Rattle.recovery_passes.specs.Recovered.{HasNeed, with_checkpoint, forced, settled, most_events, AreFew}
use Rattle.migration.specs.Owed.{AreFewInAll, own_events}

-- ---- a record's address is below the heap

each_among : (P : ℕ → Type 0) (xs : List ℕ) (x : ℕ) → Each P xs → IsAmong xs x → P x
each_among P [] x h m = absurd m
each_among P (y ∷ ys) x h (inl e) = subst P (sym e) h.0
each_among P (y ∷ ys) x h (inr m) = each_among P ys x h.1 m

parts_share : (q parts buckets p : ℕ) → q * parts ≤ buckets → p < parts → p * q + q ≤ buckets
parts_share q parts buckets p all below =
    let more : suc p * q ≤ parts * q = mul-le-mul_right {m = suc p} {n = parts} q (omega arith) in
    omega (arith, more, all)

bucket_number : (shape : Shape) (p j : ℕ) → p < shape.partitions → j < first_bucket shape p + count_buckets shape p → j < shape.buckets
bucket_number shape p j within below =
    let share = parts_share (shape.buckets / shape.partitions) shape.partitions shape.buckets p (div-mul-le_self shape.buckets shape.partitions) within in
    by_test (p + 1 == shape.partitions) share below
  where
    by_test : (b : Bool) → p * (shape.buckets / shape.partitions) + (shape.buckets / shape.partitions) ≤ shape.buckets
        → j < first_bucket shape p + (if b then shape.buckets - first_bucket shape p else shape.buckets / shape.partitions) → j < shape.buckets
    by_test true share lt = omega (arith, share, lt)
    by_test false share lt = omega (arith, share, lt)

bucket_ends : (shape : Shape) (j : ℕ) → j < shape.buckets → bucket shape j + bucket_size shape ≤ heap shape
bucket_ends shape j below =
    let more : suc j * bucket_size shape ≤ shape.buckets * bucket_size shape = mul-le-mul_right {m = suc j} {n = shape.buckets} (bucket_size shape) (omega arith) in
    omega (arith, more)

cell_below : (shape : Shape) (p b c : ℕ) → p < shape.partitions → IsBucketOf shape p b → c < shape.cells → cell_address b c < heap shape
cell_below shape p b c within is below =
    let end = bucket_ends shape is.0 (bucket_number shape p is.0 within is.2) in
    let at : b ≡ bucket shape is.0 = is.3 in
    omega (arith, end, at, below)

-- ---- each address once

module _ (w : Words) (log : Log) (same_is : (r s : Record) → IsAmong log r → IsAmong log s → r.at ≡ s.at → r ≡ s) where
  newer_apart : (r s : Record) → r ≡ s → IsNewer r s → ⊥
  newer_apart r s same (inl less) = let e = ap (λ (x : Record). x.lsn) same in omega (arith, e, less)
  newer_apart r s same (inr more) = let e = ap (λ (x : Record). x.at) same in let lt = more.1 in omega (arith, e, lt)

  absent_before : (r : Record) (earlier : Log) → IsAmong log r → ((s : Record) → IsAmong earlier s → IsAmong log s) → ((s : Record) → IsAmong earlier s → IsNewer r s)
      → IsAbsent r.at (map (λ (x : Record). x.at) earlier)
  absent_before r [] here among newer = tt
  absent_before r (s ∷ earlier) here among newer = (
    (λ same. newer_apart r s (same_is r s here (among s (inl refl)) same) (newer s (inl refl))),
    absent_before r earlier here (λ x m. among x (inr m)) (λ x m. newer x (inr m)),
  )

  pub once : (part : Log) → ((s : Record) → IsAmong part s → IsAmong log s) → IsNewestFirst part → HasNoRepeats (map (λ (x : Record). x.at) part)
  once [] among newest = tt
  once (r ∷ earlier) among newest = (
    absent_before r earlier (among r (inl refl)) (λ s m. among s (inr m)) newest.0,
    once earlier (λ s m. among s (inr m)) newest.1,
  )

each_at : (n : ℕ) (log : Log) → ((r : Record) → IsAmong log r → r.at < n) → Each (λ a. a < n) (map (λ (x : Record). x.at) log)
each_at n [] h = tt
each_at n (r ∷ log) h = (h r (inl refl), each_at n log (λ s m. h s (inr m)))

long_at : (log : Log) → length (map (λ (x : Record). x.at) log) ≡ length log
long_at [] = refl
long_at (r ∷ log) = ap suc (long_at log)

-- an image has no more records than there are words before the heap
few_records : (shape : Shape) (w : Words) (s : State) → HasState shape w s → length s.log ≤ heap shape
few_records shape w s has =
    subst (λ n. n ≤ heap shape) (long_at s.log)
    (at_most (heap shape) (map (λ (x : Record). x.at) s.log) (once w s.log same_is s.log (λ r m. m) has.records.newest_first) (each_at (heap shape) s.log at_below))
  where
    at_of : (r : Record) (m : IsAmong s.log r) → (p : ℕ) × (p < shape.partitions) × IsRecordOf shape.cells (has.chains p) (log_words shape w) r
    at_of r m = (has.records.each r).0 m

    at_below : (r : Record) → IsAmong s.log r → r.at < heap shape
    at_below r m =
        let k = at_of r m in
        let in_bucket = each_among (IsBucketOf shape k.0) (has.chains k.0) k.2.bucket
        (chain_buckets (IsBucketOf shape k.0) (view k.0 (log_words shape w)) (has.chains k.0) (has.lists k.0 k.1).rules) k.2.is_among in
        let at : r.at ≡ cell_address k.2.bucket k.2.place = ap (λ (x : Record). x.at) k.2.is in
        subst (λ n. n < heap shape) (sym at) (cell_below shape k.0 k.2.bucket k.2.place k.1 in_bucket k.2.below)

    itself : (r : Record) → IsAmong s.log r → r ≡ record_at (log_words shape w) r.at
    itself r m =
        let k = at_of r m in
        let at : r.at ≡ cell_address k.2.bucket k.2.place = ap (λ (x : Record). x.at) k.2.is in
        k.2.is ∙ ap (record_at (log_words shape w)) (sym at)

    same_is : (r x : Record) → IsAmong s.log r → IsAmong s.log x → r.at ≡ x.at → r ≡ x
    same_is r x m n same = itself r m ∙ ap (record_at (log_words shape w)) same ∙ sym (itself x n)

-- ---- the need

closed_few : (w : Words) (b n : ℕ) → closed_cells w b n ≤ n
closed_few w b zero = omega arith
closed_few w b (suc n) =
    let fewer = closed_few w b n in
    let one : (if w (cell_address b n) == 0 then 1 else 0) ≤ 1 = elim (w (cell_address b n) == 0) as (λ t. (if t then 1 else 0) ≤ 1) [ true ↦ omega arith | false ↦ omega arith ] in
    omega (arith, fewer, one)

count_few : (shape : Shape) (p : ℕ) → count_buckets shape p ≤ shape.buckets
count_few shape p =
    let share = div-le_self shape.buckets shape.partitions in
    elim (p + 1 == shape.partitions) as (λ t. (if t then shape.buckets - first_bucket shape p else shape.buckets / shape.partitions) ≤ shape.buckets) [ true ↦ omega arith | false ↦ share ]

room_small : (shape : Shape) (w : Words) (p : ℕ) (chain : List ℕ) → room_of shape w p chain ≤ shape.cells + shape.buckets * shape.cells
room_small shape w p chain =
    let few = count_few shape p in
    let free : (count_buckets shape p - length chain) * shape.cells ≤ shape.buckets * shape.cells = mul-le-mul_right {m = count_buckets shape p - length chain} {n = shape.buckets} shape.cells (omega (arith, few)) in
    let closed = closed_few w (last_or 0 chain) shape.cells in
    let last : (if last_or 0 chain == 0 then 0 else closed_cells w (last_or 0 chain) shape.cells) ≤ shape.cells =
    elim (last_or 0 chain == 0) as (λ t. (if t then 0 else closed_cells w (last_or 0 chain) shape.cells) ≤ shape.cells) [ true ↦ omega arith | false ↦ closed ] in
    omega (arith, free, last)

total_small : (part : ℕ → ℕ) (log : Log) (most n : ℕ) → ((p : ℕ) → p < n → need_in part p log ≤ most) → total_need part n log ≤ n * most
total_small part log most zero h = omega arith
total_small part log most (suc n) h =
    let fewer = total_small part log most n (λ p lt. h p (omega arith)) in
    let here = h n (omega arith) in
    omega (arith, fewer, here)

-- ---- all of it

-- the bound for the largest region
abbrev pub MOST : ℕ
MOST = 4194304

need_total : (shape : Shape) (s : State) (n : ℕ) → HasNeed shape s n → n ≤ total_need (part_of shape) shape.partitions s.log + 1
need_total shape s n (with_checkpoint force pending is) = omega (arith, is)
need_total shape s n (forced force is) = omega (arith, is)
need_total shape s n (settled none is) = omega (arith, is)

sum_small : (cells buckets heap_is r need n : ℕ) → (cells ≡ 1) ⊎ (cells ≡ 16) → buckets ≤ 1024 → heap_is ≡ 32 + buckets * (8 + 8 * cells) → r ≤ heap_is
    → need ≤ 3 * (cells + buckets * cells) → n ≤ need + 1 → 20 + 2 * r + (23 + cells) * n + 7 * buckets + 24 < MOST
sum_small cells buckets heap_is r need n (inl one) few start records needed last =
    let start' : heap_is ≡ 32 + buckets * 16 = start ∙ ap (λ c. 32 + buckets * (8 + 8 * c)) one in
    let needed' : need ≤ 3 * (1 + buckets * 1) = subst (λ c. need ≤ 3 * (c + buckets * c)) one needed in
    subst (λ c. 20 + 2 * r + (23 + c) * n + 7 * buckets + 24 < MOST) (sym one) (omega (arith, few, start', records, needed', last))
sum_small cells buckets heap_is r need n (inr many) few start records needed last =
    let start' : heap_is ≡ 32 + buckets * 136 = start ∙ ap (λ c. 32 + buckets * (8 + 8 * c)) many in
    let needed' : need ≤ 3 * (16 + buckets * 16) = subst (λ c. need ≤ 3 * (c + buckets * c)) many needed in
    subst (λ c. 20 + 2 * r + (23 + c) * n + 7 * buckets + 24 < MOST) (sym many) (omega (arith, few, start', records, needed', last))

three_parts : (w : Words) (size : ℕ) → IsShape size w → (shape_of w).partitions ≤ 3
three_parts w size shape = elim (eqb_tells (w 0) SECOND_MAGIC) [
  | inl second ↦ subst (λ b. (if b then w 6 else 1) ≤ 3) (sym second.0) ((shape.partitions second.1).1)
  | inr other ↦ subst (λ b. (if b then w 6 else 1) ≤ 3) (sym other.0) (omega arith)
]

module _ (size : ℕ) (w : Words) (sound : IsSound size w) where
  need_small : total_need (part_of (shape_of w)) (shape_of w).partitions sound.state.log ≤ 3 * ((shape_of w).cells + (shape_of w).buckets * (shape_of w).cells)
  need_small =
      let most : ℕ = (shape_of w).cells + (shape_of w).buckets * (shape_of w).cells in
      let total = total_small (part_of (shape_of w)) sound.state.log ((shape_of w).cells + (shape_of w).buckets * (shape_of w).cells) (shape_of w).partitions
      (λ p lt.
      let undo = (sound.sound.room p lt).undo in
      let room = sound.has.room p lt in
      let small = room_small (shape_of w) (log_words (shape_of w) w) p (sound.has.chains p) in
      omega (arith, undo, room, small)) in
      let parts = mul-le-mul_right {m = (shape_of w).partitions} {n = 3} ((shape_of w).cells + (shape_of w).buckets * (shape_of w).cells) (three_parts w size sound.shape) in
      omega (arith, total, parts)

  refuse : (n more events : ℕ) → more ≤ 24 → (HasNeed (shape_of w) sound.state n → events ≤ most_events (shape_of w) (length sound.state.log) n + more) → MOST ≤ events
      → HasNeed (shape_of w) sound.state n → ⊥
  refuse n more events little few many need =
      let records = few_records (shape_of w) w sound.state sound.has in
      let bound = few need in
      let small = sum_small (shape_of w).cells (shape_of w).buckets (heap (shape_of w)) (length sound.state.log) (total_need (part_of (shape_of w)) (shape_of w).partitions sound.state.log) n
      sound.shape.cells sound.shape.buckets.1 refl records need_small (need_total (shape_of w) sound.state n need) in
      omega (arith, bound, small, many, little)

  not_many_by : (more events : ℕ) → more ≤ 24 → ((n : ℕ) → HasNeed (shape_of w) sound.state n → events ≤ most_events (shape_of w) (length sound.state.log) n + more) → MOST ≤ events → ⊥
  not_many_by more events little few many =
      let need : ℕ = total_need (part_of (shape_of w)) (shape_of w).partitions sound.state.log in
      elim (eqb_tells (w 1) 2) [
        | inl lazy ↦ refuse (total_need (part_of (shape_of w)) (shape_of w).partitions sound.state.log) more events little (few (total_need (part_of (shape_of w)) (shape_of w).partitions sound.state.log)) many (settled (λ pending.
            refuse (total_need (part_of (shape_of w)) (shape_of w).partitions sound.state.log + 1) more events little (few (total_need (part_of (shape_of w)) (shape_of w).partitions sound.state.log + 1)) many (with_checkpoint lazy.1 pending refl)) refl)
        | inr force ↦ refuse (total_need (part_of (shape_of w)) (shape_of w).partitions sound.state.log) more events little (few (total_need (part_of (shape_of w)) (shape_of w).partitions sound.state.log)) many (forced force.1 refl)
      ]

  -- no image may take so many events to recover it
  pub not_many : (events : ℕ) → AreFew w events → MOST ≤ events → ⊥
  not_many events few many = not_many_by 0 events (omega arith) (λ n need. (let bound = few sound.state n sound.has need in omega (arith, bound))) many

  own_few : own_events w ≤ 24
  own_few = elim (w 0 == SECOND_MAGIC) as (λ b. (if b then 0 else 24) ≤ 24) [ true ↦ omega arith | false ↦ omega arith ]

  -- nor to migrate it
  pub not_many_in_all : (events : ℕ) → AreFewInAll w events → MOST ≤ events → ⊥
  not_many_in_all events few many = not_many_by (own_events w) events own_few (λ n need. few sound.state n sound.has need) many
