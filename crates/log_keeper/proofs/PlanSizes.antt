-- How many events the plans have, and where they store.
use Rattle.std.proofs.Common.{◌≡◌, inl, inr, ℕ, ◌+◌, ◌*◌, ◌<◌, ◌≤◌, Bool, true, false, if◌then◌else◌, None, List, [], ◌∷◌, ◌++◌, length, slice_get, refl, sym, ◌∙◌, subst, arith, length-append}
use Rattle.std.proofs.lemmas.List.{length-map}
use Rattle.std.proofs.lemmas.Option.{slice_get_cases, slice_get_past}
use Rattle.persist_model.specs.declared.event.Event.{Event}
use Rattle.persist_model.specs.declared.event.Event.TheVariants.{Store, PStore, WriteBack, Fence}
use Rattle.persist_model.specs.declared.format.TheConstants.{MAX_WORDS}
use Rattle.persist_model.specs.Region.{Words}
use Rattle.persist_model.specs.Records.{Record}
use Rattle.persist_model.specs.Shape.{Shape, heap, words_of_shape, IsBucketOf, IsCellCount}
use Rattle.persist_model.specs.Chain.{out_event, AreBuckets, first_or}
use Rattle.region_layout.specs.declared.layout.Layout.{Layout}
use Rattle.region_layout.specs.Layout.{layout_shape, IsAllowed}
use Rattle.bucket_log.specs.declared.append.Place.{Place}
use Rattle.bucket_log.specs.Plans.{append_plan, append_events}
use Rattle.bucket_log.specs.Places.{IsPlaceBy}
use Rattle.bucket_log.specs.Words.{IsPartWord}
use Rattle.bucket_log.specs.PartWords.{IsOnPart}
use Rattle.bucket_log.proofs.AppendPlans.{appends_have_events}
use Rattle.bucket_log.proofs.AppendImages.{Each-among}
use Rattle.bucket_log.proofs.Partitions.{bucket_word_below, part_word_below}
use Rattle.persist_model.proofs.Among.{among_right}
use Rattle.log_partition.proofs.Marking.{allowed}
use Rattle.log_clearing.specs.Plans.{group, closing_plan}
use Rattle.log_clearing.proofs.PlanEvents.{length-group}
use Rattle.log_keeper.specs.Parts.{LogPart, rests, appends, closes, takes_back, drops, plan_of}
use Rattle.log_keeper.specs.Plans.{group_events, events_of, IsInside, PlansAreShort, PlansAreInside, EventsAreInside, PartsFitLayouts}
use Rattle.log_keeper.proofs.Progressing.{on_event, part_on}

-- ---- how many there are

append_length : (cells : ℕ) (place : Place) (r : Record) → length (append_plan cells place r) ≡ append_events cells place
append_length cells place r =
    let most = (appends_have_events cells place r (length (append_plan cells place r))).0 (slice_get_past (append_plan cells place r) (length (append_plan cells place r)) (omega arith)) in
    let least : length (append_plan cells place r) ≤ append_events cells place = (elim (slice_get_cases (append_plan cells place r) (append_events cells place)).1 [
      | inl k ↦ (let some = k.2 in let none = (appends_have_events cells place r (append_events cells place)).1 (omega arith) in absurd (cc))
      | inr k ↦ k.0
    ]) in
    omega (arith, most, least)

group_length : (gates : List ℕ) → length (group gates) ≡ group_events gates
group_length [] = refl
group_length (a ∷ gates) = let l = length-group (a ∷ gates) (λ z. cc) in omega (arith, l)

closing_length : (gates ends checkpoints : List ℕ) → length (closing_plan gates ends checkpoints) ≡ group_events gates + (group_events ends + group_events checkpoints)
closing_length gates ends checkpoints =
    let first = length-append (group gates) (group ends ++ group checkpoints) in
    let rest = length-append (group ends) (group checkpoints) in
    let a = group_length gates in
    let b = group_length ends in
    let c = group_length checkpoints in
    omega (arith, first, rest, a, b, c)

counted : (shape : Shape) (p : ℕ) (part : LogPart) → length (plan_of shape p part) ≡ events_of shape part
counted shape p rests = refl
counted shape p (appends place r) = length-map (append_plan shape.cells place r) (out_event p) ∙ append_length shape.cells place r
counted shape p (closes gates ends checkpoints) = closing_length gates ends checkpoints
counted shape p (takes_back gates) = let l = closing_length gates [] [] in omega (arith, l)
counted shape p (drops r) = refl

some_gates : (gates : List ℕ) → 1 ≤ length gates → group_events gates ≡ length gates + 1
some_gates [] one = absurd (omega (arith, one))
some_gates (a ∷ gates) one = omega arith

append_between : (cells : ℕ) (fresh : Bool) → (10 ≤ (if fresh then 21 + cells else 10)) × ((if fresh then 21 + cells else 10) ≤ 21 + cells)
append_between cells true = (omega arith, omega arith)
append_between cells false = (omega arith, omega arith)

pub plans_are_short : PlansAreShort
plans_are_short = record {
  counted = counted;
  appends = λ shape p place r. subst (λ n. (10 ≤ n) × (n ≤ 21 + shape.cells)) (sym (counted shape p (appends place r))) (append_between shape.cells place.fresh);
  groups = λ shape p gates one. (let n = some_gates gates one in record {
    of_gates = (let l = counted shape p (closes gates [] []) in omega (arith, l, n));
    of_ends = (let l = counted shape p (closes [] gates []) in omega (arith, l, n));
    of_checkpoints = (let l = counted shape p (closes [] [] gates) in omega (arith, l, n));
    of_deletions = (let l = counted shape p (takes_back gates) in omega (arith, l, n));
  });
  removals = λ shape p r. refl;
}

-- an append in a layout's region has 37 at most
pub no_append_event : (layout : Layout) (place : Place) (r : Record) (i : ℕ) → 64 ≤ i → slice_get (append_plan layout.cells place r) i ≡ None
no_append_event layout place r i far = (appends_have_events layout.cells place r i).1 (few (append_between layout.cells place.fresh).1 (few_cells layout.cells (allowed layout).cells))
  where
    few_cells : (n : ℕ) → IsCellCount n → n ≤ 16
    few_cells n (inl one) = omega (arith, one)
    few_cells n (inr sixteen) = omega (arith, sixteen)

    few : append_events layout.cells place ≤ 21 + layout.cells → layout.cells ≤ 16 → append_events layout.cells place ≤ i
    few le cells = omega (arith, le, cells, far)

-- ---- where they store

pub heap_inside : (shape : Shape) → heap shape ≤ words_of_shape shape
heap_inside shape = omega arith

below : (shape : Shape) (p a : ℕ) → IsAllowed shape → p < shape.partitions → IsPartWord shape p a → a < words_of_shape shape
below shape p a ok lt m = let low = part_word_below shape p a ok lt m in let size = heap_inside shape in omega (arith, low, size)

inside_of : (shape : Shape) (p : ℕ) (e : Event) → IsAllowed shape → p < shape.partitions → IsOnPart shape p e → IsInside (words_of_shape shape) e
inside_of shape p (Store a v) ok lt on = below shape p a ok lt on
inside_of shape p (PStore a v) ok lt on = below shape p a ok lt on
inside_of shape p (WriteBack a) ok lt on = below shape p a ok lt on
inside_of shape p Fence ok lt on = tt

pub plans_are_inside : PlansAreInside
plans_are_inside shape p base s chain part i e ok lt has can found =
    inside_of shape p e ok lt (on_event shape p (plan_of shape p part) (part_on shape p base s chain part ok lt has can) i e found)

pub events_are_inside : EventsAreInside
events_are_inside shape base s chains k region p i e lt h found = subst (λ n. IsInside n e) (sym h.size)
    (plans_are_inside shape p base s (chains p) (k.runs p).part i e h.allowed lt h.has (h.can p lt) found)

-- ---- the layout

heap_small : (b c : ℕ) → b ≤ 1024 → IsCellCount c → 32 + b * (8 + 8 * c) < MAX_WORDS
heap_small b c few (inl one) = rw one (omega (arith, few))
heap_small b c few (inr sixteen) = rw sixteen (omega (arith, few))

bucket_below : (layout : Layout) (p b : ℕ) → p < layout.partitions → IsBucketOf (layout_shape layout) p b → b < MAX_WORDS
bucket_below layout p b lt is =
    let ok = allowed layout in
    let below = bucket_word_below (layout_shape layout) p b ok lt (b, is, omega arith, omega arith) in
    let small = heap_small layout.buckets layout.cells layout.buckets_within.1 ok.cells in
    omega (arith, below, small)

place_bucket : (shape : Shape) (p : ℕ) (w : Words) (chain : List ℕ) (place : Place) (fresh : Bool) → AreBuckets (IsBucketOf shape p) chain → IsPlaceBy shape p w chain place fresh →
    IsBucketOf shape p place.bucket
place_bucket shape p w chain place true buckets is = is.bucket
place_bucket shape p w chain place false buckets is = Each-among (IsBucketOf shape p) chain place.bucket buckets is.bucket

next_below : (layout : Layout) (p node next : ℕ) (front rest : List ℕ) → p < layout.partitions → AreBuckets (IsBucketOf (layout_shape layout) p) (front ++ node ∷ rest) →
    next ≡ first_or 0 rest → next < MAX_WORDS
next_below layout p node next front [] lt buckets is = omega (arith, is)
next_below layout p node next front (x ∷ rest) lt buckets is =
    let below = bucket_below layout p x lt (Each-among (IsBucketOf (layout_shape layout) p) (front ++ node ∷ x ∷ rest) x buckets (among_right front (node ∷ x ∷ rest) x (inr (inl refl)))) in
    omega (arith, is, below)

pub parts_fit_layouts : PartsFitLayouts
parts_fit_layouts layout p base s chain rests lt can = tt
parts_fit_layouts layout p base s chain (appends place r) lt can = (
  bucket_below layout p place.bucket lt (place_bucket (layout_shape layout) p _ chain place place.fresh can.at_rest.buckets can.is_place),
  can.below,
)
parts_fit_layouts layout p base s chain (closes gates ends checkpoints) lt can = tt
parts_fit_layouts layout p base s chain (takes_back gates) lt can = tt
parts_fit_layouts layout p base s chain (drops r) lt can =
    next_below layout p r.node r.next can.front can.rest lt can.can_remove.at_rest.buckets can.can_remove.next
