-- Each image of a group has its records in whole buckets.
use Rattle.std.proofs.Common.{◌≡◌, ◌≢◌, inl, inr, ℕ, zero, suc, ◌+◌, ◌-◌, ◌*◌, ◌<◌, ◌≤◌, List, [], ◌∷◌, ◌++◌, take, drop, length, Some, refl, sym, ap, subst, ◌∙◌, arith, append-nil, length-append}
use Rattle.std.specs.Prelude.{slice_get}
use Rattle.std.proofs.lemmas.Bool.{cases_lt}
use Rattle.std.proofs.lemmas.List.{map-append, take-append-le, length-map}
use Rattle.persist_model.specs.declared.event.Event.{Event}
use Rattle.persist_model.specs.Region.{Words}
use Rattle.persist_model.specs.Progress.{Progress, start, advance_all, Reaches}
use Rattle.persist_model.specs.Runs.{progress_at}
use Rattle.persist_model.specs.Records.{Record, Log}
use Rattle.persist_model.specs.Shape.{Shape, IsBucketOf, heap, log_words, heap_words}
use Rattle.persist_model.specs.Chain.{view, out_event, Each, IsAbsent, HasNoRepeats, last_or}
use Rattle.persist_model.specs.Sound.{HasState}
use Rattle.persist_model.specs.State.{State}
use Rattle.persist_model.proofs.Among.{among_left, among_right, among_append}
use Rattle.persist_model.proofs.Projecting.{advance_all-append}
use Rattle.log_laws.specs.Recovering.{with_heap}
use Rattle.log_laws.proofs.Recovering.{state_with_heap}
use Rattle.atomic_list.specs.Rules.{IsAtRest}
use Rattle.atomic_list.proofs.Chains.{Each-push, last-push}
use Rattle.region_layout.specs.declared.cell.Cell.{Cell}
use Rattle.region_layout.specs.Layout.{IsAllowed}
use Rattle.bucket_log.proofs.PartStates.{log_words_same}
use Rattle.batch_log.specs.Plans.{bucket_plan, group_plan}
use Rattle.batch_log.specs.Buckets.{CanFill, bucket_records, free_cells, region_bucket}
use Rattle.batch_log.specs.States.{falls, GainsAll, behind}
use Rattle.batch_log.specs.Groups.{group_records, region_group, MayHave, state_of, GroupsLead}
use Rattle.batch_log.proofs.Enough.{IsEnough, enough_for, enough_behind, first_some, full_first}
use Rattle.batch_log.proofs.Events.{length-bucket_plan}
use Rattle.batch_log.proofs.GroupEvents.{take_few, take_full, drop_size}
use Rattle.batch_log.proofs.FillImages.{take_beyond}
use Rattle.batch_log.proofs.Rooms.{falls_twice}
use Rattle.batch_log.proofs.BucketLaws.{buckets_settle}
use Rattle.batch_log.proofs.StateImages.{state_waits, state_images, state_stands, ended, ended_is, ended_reached, rests_behind, full_behind}

-- ---- what an image may have

pub may_none : (cells : ℕ) (buckets : List ℕ) (records : List Cell) (k : ℕ) → k ≡ 0 → MayHave cells buckets records k 0
may_none cells [] records k z = refl
may_none cells (b ∷ buckets) records k z = omega (arith, z)

pub may_last : (cells tail : ℕ) (buckets : List ℕ) (records : List Cell) (j : ℕ) → MayHave cells buckets records (length (group_plan cells tail buckets records)) j → j ≡ length buckets
may_last cells tail [] records j h = h
may_last cells tail (b ∷ buckets) records zero h =
    let size = length-bucket_plan cells b tail (take cells records) (take_few cells records) in
    let both = length-append (bucket_plan cells b tail (take cells records)) (group_plan cells b buckets (drop cells records)) in
    absurd (omega (arith, h, size, both))
may_last cells tail (b ∷ buckets) records (suc j) h =
    let size = length-bucket_plan cells b tail (take cells records) (take_few cells records) in
    let both = length-append (bucket_plan cells b tail (take cells records)) (group_plan cells b buckets (drop cells records)) in
    let rest : length (group_plan cells tail (b ∷ buckets) records) - (11 + cells + 7 * length (take cells records)) ≡ length (group_plan cells b buckets (drop cells records)) = omega (arith, size, both) in
    ap suc (may_last cells b buckets (drop cells records) j (subst (λ k. MayHave cells buckets (drop cells records) k j) rest h.1))

-- ---- the group's first bucket

-- as CanCome, with the number of buckets by bounds
pub record Comes (shape : Shape) (p : ℕ) (w : Words) (chain : List ℕ) (tail : ℕ) (buckets : List ℕ) (records : List Cell) : Type 0 where
  pub at_rest : IsAtRest shape p w chain
  pub tail_is : tail ≡ last_or 0 chain
  pub are_buckets : Each (IsBucketOf shape p) buckets
  pub absent : Each (λ b. IsAbsent b chain) buckets
  pub no_repeats : HasNoRepeats buckets
  pub enough : IsEnough shape.cells (length buckets) (length records)
  pub gates : (c : ℕ) (cell : Cell) → slice_get records c ≡ Some cell → cell.lsn ≢ 0

get_take : (n c : ℕ) (xs : List Cell) (cell : Cell) → slice_get (take n xs) c ≡ Some cell → slice_get xs c ≡ Some cell
get_take zero c xs cell e = cc
get_take (suc n) c [] cell e = e
get_take (suc n) zero (x ∷ xs) cell e = e
get_take (suc n) (suc c) (x ∷ xs) cell e = get_take n c xs cell e

get_drop : (n c : ℕ) (xs : List Cell) (cell : Cell) → slice_get (drop n xs) c ≡ Some cell → (d : ℕ) × (slice_get xs d ≡ Some cell)
get_drop zero c xs cell e = (c, e)
get_drop (suc n) c [] cell e = cc
get_drop (suc n) c (x ∷ xs) cell e = let h = get_drop n c xs cell e in (suc h.0, h.1)

some_taken : (n : ℕ) (xs : List Cell) → 1 ≤ n → 1 ≤ length xs → 1 ≤ length (take n xs)
some_taken zero xs a b = absurd (omega (arith, a))
some_taken (suc n) [] a b = b
some_taken (suc n) (x ∷ xs) a b = omega arith

pub first_fills : (shape : Shape) (p : ℕ) (w : Words) (chain : List ℕ) (tail b : ℕ) (buckets : List ℕ) (records : List Cell) → 1 ≤ shape.cells → Comes shape p w chain tail (b ∷ buckets) records →
    CanFill shape p w chain b tail (take shape.cells records)
first_fills shape p w chain tail b buckets records some h = record {
  at_rest = h.at_rest;
  is_bucket = h.are_buckets.0;
  absent = h.absent.0;
  tail_is = h.tail_is;
  some = some_taken shape.cells records some (first_some shape.cells (length buckets) (length records) h.enough);
  few = take_few shape.cells records;
  gates = λ c cell e. h.gates c cell (get_take shape.cells c records cell e);
}

absent_each : (b : ℕ) (chain buckets : List ℕ) → Each (λ x. IsAbsent x chain) buckets → IsAbsent b buckets → Each (λ x. IsAbsent x (chain ++ b ∷ [])) buckets
absent_each b chain [] h once = tt
absent_each b chain (x ∷ xs) h once = (Each-push (λ y. x ≢ y) chain b h.0 (λ e. once.0 (sym e)), absent_each b chain xs h.1 once.1)

pub others_come : (shape : Shape) (p : ℕ) (w v : Words) (chain : List ℕ) (tail b : ℕ) (buckets : List ℕ) (records : List Cell) → Comes shape p w chain tail (b ∷ buckets) records →
    IsAtRest shape p v (chain ++ b ∷ []) → Comes shape p v (chain ++ b ∷ []) b buckets (drop shape.cells records)
others_come shape p w v chain tail b buckets records h rest = record {
  at_rest = rest;
  tail_is = sym (last-push 0 chain b);
  are_buckets = h.are_buckets.1;
  absent = absent_each b chain buckets h.absent.1 h.no_repeats.0;
  no_repeats = h.no_repeats.1;
  enough = subst (IsEnough shape.cells (length buckets)) (sym (drop_size shape.cells records)) (enough_behind shape.cells (length buckets) (length records) h.enough);
  gates = λ c cell e. (let there = get_drop shape.cells c records cell e in h.gates there.0 cell there.1);
}

-- ---- logs that gain bucket by bucket

gains_rest : (log first later : Log) (rs us : List Record) → GainsAll log rs first → GainsAll log (rs ++ us) later → GainsAll first us later
gains_rest log first later rs us one both = record {
  newest_first = both.newest_first;
  each = λ x. (
    (λ m. elim ((both.each x).0 m) [
      | inl k ↦ elim (among_append rs us x k) [ inl r ↦ inr ((one.each x).1 (inl r)) | inr u ↦ inl u ]
      | inr k ↦ inr ((one.each x).1 (inr k))
    ]),
    (λ h. elim h [
      | inl u ↦ (both.each x).1 (inl (among_right rs us x u))
      | inr m ↦ elim ((one.each x).0 m) [ inl r ↦ (both.each x).1 (inl (among_left rs us x r)) | inr k ↦ (both.each x).1 (inr k) ]
    ]),
  );
}

-- the state behind two gains
behind_twice : (p free f : ℕ) (s : State) (h : Words) (rs us : List Record) (first later : Log) → f ≡ 0 →
    with_heap (behind p f (behind p free s rs first) us later) h ≡ with_heap (behind p free s (rs ++ us) later) h
behind_twice p free f s h rs us first later none =
    ap (λ (room : ℕ → ℕ). record { log = later; words = h; room = room })
    (falls_twice p (free + length rs) (f + length us) s.room
    ∙ (let size = length-append rs us in let e : free + length rs + (f + length us) ≡ free + length (rs ++ us) = omega (arith, none, size) in ap (λ n. falls p n s.room) e))

-- ---- the images

-- where k is within a plan, or beyond
module _ (shape : Shape) (ok : IsAllowed shape) (p : ℕ) (inside : p < shape.partitions) (some : 1 ≤ shape.cells) where
  abbrev Log_of : ℕ → Type 0
  Log_of a = a < heap shape

  -- what holds of an image of the first k events
  abbrev Found : Words → Words → State → List ℕ → List ℕ → List Cell → (ℕ → Log) → ℕ → Type 0
  Found z v s chain buckets records logs k = (j : ℕ) × (j ≤ length buckets) × MayHave shape.cells buckets records k j
      × HasState shape v (with_heap (state_of shape p (free_cells shape (log_words shape z) chain) s buckets records logs j) (heap_words shape v))

  untouched : (z v : Words) (s : State) → HasState shape z s → Reaches Log_of (start z) v → HasState shape v (with_heap s (heap_words shape v))
  untouched z v s has h = state_with_heap shape z v s (λ i a. log_words_same shape z v a (λ lt. elim (h a lt) [ inl e ↦ e | inr x ↦ elim x [ ] ]) i) has

  settled_start : (q : Progress) → q.pending ≡ [] → q ≡ start q.durable
  settled_start q e = λ i. record { durable = q.durable; pending = e i }

  module _ (z v : Words) (s : State) (chain : List ℕ) (tail b : ℕ) (buckets : List ℕ) (records : List Cell) (logs : ℕ → Log) (has : HasState shape z s)
      (comes : Comes shape p (view p (log_words shape z)) chain tail (b ∷ buckets) records)
      (gains : (j : ℕ) → j ≤ length (b ∷ buckets) → GainsAll s.log (group_records shape.cells (take j (b ∷ buckets)) records) (logs j)) where
    abbrev first : List Cell
    first = take shape.cells records

    abbrev rest : List Cell
    rest = drop shape.cells records

    abbrev news : List Record
    news = bucket_records b first

    abbrev free : ℕ
    free = free_cells shape (log_words shape z) chain

    abbrev plan : List Event
    plan = region_bucket shape p b tail first

    can : CanFill shape p (view p (log_words shape z)) chain b tail first
    can = first_fills shape p (view p (log_words shape z)) chain tail b buckets records some comes

    gain : GainsAll s.log news (logs 1)
    gain = subst (λ us. GainsAll s.log us (logs 1)) (append-nil news) (gains 1 (omega arith))

    size : length plan ≡ 11 + shape.cells + 7 * length first
    size = length-map (bucket_plan shape.cells b tail first) (out_event p) ∙ length-bucket_plan shape.cells b tail first (take_few shape.cells records)

    found_none : (k : ℕ) → k ≤ 5 + shape.cells + 7 * length first → HasState shape v (with_heap s (heap_words shape v)) → Found z v s chain (b ∷ buckets) records logs k
    found_none k le is = (0, omega arith, le, is)

    found_one : (k : ℕ) → 5 + shape.cells + 7 * length first ≤ k → k ≤ 11 + shape.cells + 7 * length first → HasState shape v (with_heap (behind p free s news (logs 1)) (heap_words shape v)) →
        Found z v s chain (b ∷ buckets) records logs k
    found_one k low high is = (
      1,
      omega arith,
      (low, may_none shape.cells buckets rest (k - (11 + shape.cells + 7 * length first)) (omega (arith, high))),
      subst (λ us. HasState shape v (with_heap (behind p free s us (logs 1)) (heap_words shape v))) (sym (append-nil news)) is,
    )

    -- where no event of another bucket is made
    within : (k : ℕ) → k ≤ length plan → Reaches Log_of (progress_at z plan k) v → Found z v s chain (b ∷ buckets) records logs k
    within k le h =
        let long = size in
        elim (cases_lt k (5 + shape.cells + 7 * length first)) [
          | inl lt ↦ found_none k (omega (arith, lt)) (state_waits shape ok p inside z s has chain b tail first can k v (omega (arith, lt, long)) h)
          | inr ge ↦ elim (cases_lt (5 + shape.cells + 7 * length first) k) [
            | inl lt ↦ found_one k ge (omega (arith, le, long)) (state_stands shape ok p inside z s has chain b tail first can (logs 1) gain k v (omega (arith, lt, long)) h)
            | inr same ↦ elim (state_images shape ok p inside z s has chain b tail first can (logs 1) gain k v h)
                [ inl is ↦ found_none k same is | inr is ↦ found_one k ge (omega (arith, le, long)) is ]
          ]
        ]

    -- the words and the state behind the first bucket
    abbrev later : Words
    later = ended shape ok p inside z s has chain b tail first can

    abbrev after : State
    after = with_heap (behind p free s news (logs 1)) (heap_words shape later)

    has_after : HasState shape later after
    has_after = state_stands shape ok p inside z s has chain b tail first can (logs 1) gain (length plan) later (omega arith) (ended_reached shape ok p inside z s has chain b tail first can)

    comes_after : Comes shape p (view p (log_words shape later)) (chain ++ b ∷ []) b buckets rest
    comes_after = others_come shape p (view p (log_words shape z)) (view p (log_words shape later)) chain tail b buckets records comes (rests_behind shape ok p inside z s has chain b tail first can)

    gains_after : (j : ℕ) → j ≤ length buckets → GainsAll after.log (group_records shape.cells (take j buckets) rest) (logs (suc j))
    gains_after j le = gains_rest s.log (logs 1) (logs (suc j)) news (group_records shape.cells (take j buckets) rest) gain (gains (suc j) (omega (arith, le)))

    split : region_group shape p tail (b ∷ buckets) records ≡ plan ++ region_group shape p b buckets rest
    split = map-append (out_event p) (bucket_plan shape.cells b tail first) (group_plan shape.cells b buckets rest)

    whole_is : advance_all (start z) plan ≡ start later
    whole_is = settled_start (advance_all (start z) plan) (buckets_settle shape p z b tail first) ∙ ap start (ended_is shape ok p inside z s has chain b tail first can)

    reached_after : (k j : ℕ) → k ≡ length plan + j → Reaches Log_of (progress_at z (region_group shape p tail (b ∷ buckets) records) k) v → Reaches Log_of (progress_at later (region_group shape p b buckets rest) j) v
    reached_after k j e h = subst (λ q. Reaches Log_of q v)
        (ap (λ es. advance_all (start z) (take k es)) split
        ∙ ap (advance_all (start z)) (take_beyond k j plan (region_group shape p b buckets rest) e)
        ∙ advance_all-append (start z) plan (take j (region_group shape p b buckets rest))
        ∙ ap (λ q. advance_all q (take j (region_group shape p b buckets rest))) whole_is) h

    reached_within : (k : ℕ) → k ≤ length plan → Reaches Log_of (progress_at z (region_group shape p tail (b ∷ buckets) records) k) v → Reaches Log_of (progress_at z plan k) v
    reached_within k le h = subst (λ es. Reaches Log_of (advance_all (start z) es) v)
        (ap (take k) split ∙ take-append-le k plan (region_group shape p b buckets rest) le) h

    -- the first bucket is full where another comes behind it
    nothing_free : 1 ≤ length buckets → free_cells shape (log_words shape later) (chain ++ b ∷ []) ≡ 0
    nothing_free more =
        let over = full_first shape.cells (length buckets) (length records) comes.enough more in
        full_behind shape ok p inside z s has chain b tail first can (take_full shape.cells records (omega (arith, over)))

    same_state : (j : ℕ) → j ≤ length buckets →
        with_heap (state_of shape p (free_cells shape (log_words shape later) (chain ++ b ∷ [])) after buckets rest (λ i. logs (suc i)) j) (heap_words shape v)
        ≡ with_heap (state_of shape p free s (b ∷ buckets) records logs (suc j)) (heap_words shape v)
    same_state zero le = ap (λ us. with_heap (behind p free s us (logs 1)) (heap_words shape v)) (sym (append-nil news))
    same_state (suc j) le = behind_twice p free (free_cells shape (log_words shape later) (chain ++ b ∷ [])) s (heap_words shape v) news (group_records shape.cells (take (suc j) buckets) rest) (logs 1) (logs (suc (suc j)))
        (nothing_free (omega (arith, le)))

    lifted : (k m : ℕ) → k ≡ length plan + m → Found later v after (chain ++ b ∷ []) buckets rest (λ i. logs (suc i)) m → Found z v s chain (b ∷ buckets) records logs k
    lifted k m e f =
        let long = size in
        let le = f.1 in
        let past : m ≡ k - (11 + shape.cells + 7 * length first) = omega (arith, e, long) in (
          suc f.0,
          omega (arith, le),
          (omega (arith, e, long), subst (λ n. MayHave shape.cells buckets rest n f.0) past f.2),
          subst (HasState shape v) (same_state f.0 f.1) f.3,
        )

  pub images : (z v : Words) (s : State) (chain : List ℕ) (tail : ℕ) (buckets : List ℕ) (records : List Cell) (logs : ℕ → Log) (k : ℕ) → HasState shape z s →
      Comes shape p (view p (log_words shape z)) chain tail buckets records →
      ((j : ℕ) → j ≤ length buckets → GainsAll s.log (group_records shape.cells (take j buckets) records) (logs j)) →
      Reaches Log_of (progress_at z (region_group shape p tail buckets records) k) v → Found z v s chain buckets records logs k
  images z v s chain tail [] records logs k has comes gains h =
      (0, omega arith, refl, untouched z v s has (subst (λ es. Reaches Log_of (advance_all (start z) es) v) (none k) h))
    where
      none : (k : ℕ) → take {A = Event} k [] ≡ []
      none zero = refl
      none (suc k) = refl
  images z v s chain tail (b ∷ buckets) records logs k has comes gains h =
      elim (cases_lt k (length (plan z v s chain tail b buckets records logs has comes gains))) [
        | inl lt ↦ within z v s chain tail b buckets records logs has comes gains k (omega (arith, lt)) (reached_within z v s chain tail b buckets records logs has comes gains k (omega (arith, lt)) h)
        | inr ge ↦ (let m : ℕ = k - length (plan z v s chain tail b buckets records logs has comes gains) in
            let e : k ≡ length (plan z v s chain tail b buckets records logs has comes gains) + m = omega (arith, ge) in
            lifted z v s chain tail b buckets records logs has comes gains k m e
            (images (later z v s chain tail b buckets records logs has comes gains) v (after z v s chain tail b buckets records logs has comes gains) (chain ++ b ∷ []) b buckets
            (drop shape.cells records) (λ i. logs (suc i)) m (has_after z v s chain tail b buckets records logs has comes gains)
            (comes_after z v s chain tail b buckets records logs has comes gains) (gains_after z v s chain tail b buckets records logs has comes gains)
            (reached_after z v s chain tail b buckets records logs has comes gains k m e h)))
      ]

some_cell : (shape : Shape) → IsAllowed shape → 1 ≤ shape.cells
some_cell shape ok = elim ok.cells [ inl e ↦ omega (arith, e) | inr e ↦ omega (arith, e) ]

pub groups_lead : GroupsLead
groups_lead = record {
  images = λ shape p z v s chain tail buckets records logs k ok inside has can gains h.
      let some = some_cell shape ok in
      images shape ok p inside some z v s chain tail buckets records logs k has (record {
        at_rest = can.at_rest;
        tail_is = can.tail_is;
        are_buckets = can.are_buckets;
        absent = can.absent;
        no_repeats = can.no_repeats;
        enough = subst (λ m. IsEnough shape.cells m (length records)) (sym can.enough) (enough_for shape.cells (length records) some);
        gates = can.gates;
      }) gains h;
  last = may_last;
}
