-- How far the removals of closed buckets have come.
use Rattle.std.proofs.Common.{◌≡◌, ℕ, ◌+◌, ◌*◌, ◌<◌, ◌≤◌, [], length, Some, None, refl, ap, ◌∙◌, arith}
use Rattle.persist_model.specs.Region.{Region}
use Rattle.persist_model.specs.Shape.{Shape, count_buckets}
use Rattle.persist_model.specs.State.{State}
use Rattle.lane_traits.specs.declared.device.Done.{Done}
use Rattle.lane_traits.specs.declared.device.Done.TheVariants.{Made, Stopped}
use Rattle.lane_traits.specs.Device.{Counts, counted}
use Rattle.atomic_list.specs.declared.plans.Remove.{Remove}
use Rattle.atomic_list.specs.Walk.{chain_of}
use Rattle.atomic_list.proofs.Walks.{chain_of_list}
use Rattle.region_layout.specs.Layout.{IsAllowed}
use Rattle.log_clearing.specs.Dropping.{IsRemovalOf}
use Rattle.log_clearing.specs.Removals.{CanDrop}
use Rattle.recovery_run.specs.Edges.{HasCounted, counts_with, KeepsWords, IsPlainHeaderWord}
use Rattle.recovery_run.specs.Reached.{newest_at, HasSettled, HasFewBuckets}
use Rattle.recovery_lists.specs.Repairs.{seen}
use Rattle.recovery_lists.specs.Lists.{IsAtState, IsAtEmptyLog, KeepsLists, HasDropped}
use Rattle.recovery_lists.proofs.Emptied.{list_here, may_drop, few_left}
use Rattle.recovery_lists.proofs.Reading.{settled_state}
use Rattle.recovery_lists.proofs.RemovalEnds.{not_few, some_bucket}

-- how many buckets the partition's chain has
abbrev pub buckets_in : Shape → ℕ → Region → ℕ
buckets_in shape p region = length (chain_of shape (seen shape p (newest_at region)))

-- Some buckets were taken out: the region, the counts and the spare places as they were, and as they are now.
pub record IsDropping (shape : Shape) (p : ℕ) (before now : Region) (counts later : Counts) (spare left : ℕ) : Type 0 where
  pub at : IsAtEmptyLog shape p now
  pub made : (first y : State) → HasSettled shape first y before → y.log ≡ [] → HasDropped shape first y now
  pub lists : KeepsLists shape before now
  pub events : ℕ
  pub counted : later ≡ counts_with counts events Made
  pub few : events + 7 * buckets_in shape p now ≤ 7 * buckets_in shape p before
  pub spare_left : spare + 7 * buckets_in shape p now ≤ left + 7 * buckets_in shape p before
  pub header : KeepsWords (IsPlainHeaderWord shape) before now
  pub size : now.size ≡ before.size
  pub none_closed : HasFewBuckets shape p (newest_at before) → (now ≡ before) × (later ≡ counts)

pub dropping_begins : (shape : Shape) (p : ℕ) (before : Region) (counts : Counts) (spare : ℕ) → IsAtEmptyLog shape p before → IsDropping shape p before before counts counts spare spare
dropping_begins shape p before counts spare at = record {
  at = at;
  made = λ first y h none. record { state = y; settled = h; empty = none; words = refl };
  lists = record { quiet = λ q lt h. h; few = λ q lt h. h };
  events = 0;
  counted = ap (λ n. record counts { events = n }) (omega arith);
  few = omega arith;
  spare_left = omega arith;
  header = λ a v is one. one;
  size = refl;
  none_closed = λ few. (refl, refl);
}

-- events that were made, and then others
counts_on : (counts : Counts) (n e : ℕ) (done : Done) → counts_with (counts_with counts n Made) e done ≡ counts_with counts (n + e) done
counts_on counts n e Made = ap (λ k. record counts { events = k }) (omega arith)
counts_on counts n e Stopped = ap (λ k. record counts { events = k; stopped = counted counts.stopped }) (omega arith)

module _ (shape : Shape) (ok : IsAllowed shape) (p : ℕ) (inside : p < shape.partitions) (before now : Region) (counts later : Counts) (spare left : ℕ)
    (h : IsDropping shape p before now counts later spare left) (r : Remove) (can : CanDrop shape p (seen shape p (newest_at now)) r) where
  -- the chain is none of few buckets
  pub not_few_before : HasFewBuckets shape p (newest_at before) → ⊥
  not_few_before few = not_few shape ok p inside (newest_at now) r can h.at.at.state (settled_state shape h.at.at.first h.at.at.state now h.at.at.settled) (h.lists.few p inside few)

  -- there is room for one removal more
  pub room_for_one : buckets_in shape p before ≤ count_buckets shape p → 7 * count_buckets shape p ≤ spare → 7 ≤ left
  room_for_one most enough = let some = some_bucket shape ok p inside (newest_at now) r can in let so_far = h.spare_left in omega (arith, some, so_far, most, enough)

  -- one bucket more
  pub dropping_goes_on : (next : Region) (after : Counts) (rest : ℕ) → ((first y : State) → HasSettled shape first y now → y.log ≡ [] → HasDropped shape first y next) →
      KeepsLists shape now next → buckets_in shape p next + 1 ≡ buckets_in shape p now → HasCounted 7 Made later after → left ≤ rest + 7 →
      KeepsWords (IsPlainHeaderWord shape) now next → next.size ≡ now.size → IsDropping shape p before next counts after spare rest
  dropping_goes_on next after rest made lists shorter counted less header size = record {
    at = (let d = made h.at.at.first h.at.at.state h.at.at.settled h.at.empty in record {
      at = record { first = h.at.at.first; state = d.state; settled = d.settled };
      empty = d.empty;
      quiet = lists.quiet p inside h.at.quiet;
    });
    made = λ first y k none. (let so_far = h.made first y k none in let d = made first so_far.state so_far.settled so_far.empty in record {
      state = d.state;
      settled = d.settled;
      empty = d.empty;
      words = d.words ∙ so_far.words;
    });
    lists = record { quiet = λ q lt k. lists.quiet q lt (h.lists.quiet q lt k); few = λ q lt k. lists.few q lt (h.lists.few q lt k) };
    events = h.events + counted.events;
    counted = counted.is ∙ ap (λ (n : Counts). counts_with n counted.events Made) h.counted ∙ counts_on counts h.events counted.events Made;
    few = (let so_far = h.few in let most = counted.few in omega (arith, so_far, most, shorter));
    spare_left = (let so_far = h.spare_left in omega (arith, so_far, less, shorter));
    header = λ a v is one. header a v is (h.header a v is one);
    size = size ∙ h.size;
    none_closed = λ few. absurd (not_few_before few);
  }

  -- a stop within a removal
  pub stopped_counted : (after : Counts) → buckets_in shape p before ≤ count_buckets shape p → HasCounted 7 Stopped later after → HasCounted (7 * count_buckets shape p) Stopped counts after
  stopped_counted after most counted = record {
    events = h.events + counted.events;
    few = (let some = some_bucket shape ok p inside (newest_at now) r can in let so_far = h.few in let these = counted.few in omega (arith, some, so_far, these, most));
    is = counted.is ∙ ap (λ (n : Counts). counts_with n counted.events Stopped) h.counted ∙ counts_on counts h.events counted.events Stopped;
    cause = λ stopped. (let here = counted.cause stopped in
        let events = ap (λ (n : Counts). n.events) h.counted in
        let budget = ap (λ (n : Counts). n.budget) h.counted in
        omega (arith, here, events, budget));
  }

  pub stopped_spare : (rest : ℕ) → buckets_in shape p before ≤ count_buckets shape p → left ≤ rest + 7 → spare ≤ rest + 7 * count_buckets shape p
  stopped_spare rest most less = let some = some_bucket shape ok p inside (newest_at now) r can in let so_far = h.spare_left in omega (arith, some, so_far, less, most)

-- at first there are no more buckets than the partition has
pub few_at_first : (shape : Shape) (ok : IsAllowed shape) (p : ℕ) (region : Region) → p < shape.partitions → IsAtState shape region → buckets_in shape p region ≤ count_buckets shape p
few_at_first shape ok p region inside at =
    (chain_of_list shape p (seen shape p (newest_at region)) (chain_of shape (seen shape p (newest_at region))) inside
    (list_here shape ok p inside (newest_at region) at.state (settled_state shape at.first at.state region at.settled))).1

-- the removal that is read may be made
pub read_may_drop : (shape : Shape) (ok : IsAllowed shape) (p : ℕ) (region : Region) (r : Remove) → p < shape.partitions → IsAtEmptyLog shape p region →
    IsRemovalOf shape (seen shape p (newest_at region)) (chain_of shape (seen shape p (newest_at region))) (Some r) → CanDrop shape p (seen shape p (newest_at region)) r
read_may_drop shape ok p region r inside h first =
    may_drop shape ok p inside (newest_at region) h.at.state (settled_state shape h.at.first h.at.state region h.at.settled) h.quiet r first

-- and where none is read there is at most one bucket
pub read_few_left : (shape : Shape) (ok : IsAllowed shape) (p : ℕ) (region : Region) → p < shape.partitions → IsAtEmptyLog shape p region →
    IsRemovalOf shape (seen shape p (newest_at region)) (chain_of shape (seen shape p (newest_at region))) None → HasFewBuckets shape p (newest_at region)
read_few_left shape ok p region inside h none =
    few_left shape ok p inside (newest_at region) h.at.state (settled_state shape h.at.first h.at.state region h.at.settled) h.empty none

-- all of what was made
pub all_counted : (shape : Shape) (p : ℕ) (before now : Region) (counts later : Counts) (spare left : ℕ) → IsDropping shape p before now counts later spare left →
    buckets_in shape p before ≤ count_buckets shape p → HasCounted (7 * count_buckets shape p) Made counts later
all_counted shape p before now counts later spare left h most = record {
  events = h.events;
  few = (let so_far = h.few in omega (arith, so_far, most));
  is = h.counted;
  cause = λ e. absurd (cc);
}
