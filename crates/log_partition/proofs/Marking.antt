-- Marks of the buckets of chains.
use Rattle.std.proofs.Common.{◌≡◌, ◌≢◌, ◌↔◌, ◌⊎◌, inl, inr, ℕ, ◌<◌, ◌≤◌, ◌==◌, ◌||◌, IsTrue, Bool, true, false, List, [], ◌∷◌, ◌++◌, length, get_or, slice_set, refl, ap, sym, ◌∙◌, arith, subst}
use Rattle.std.proofs.lemmas.Bool.Decides.{nat_tests, eqb_tells}
use Rattle.std.proofs.lemmas.List.{length-set, get_or-set_same, get_or-set_other}
use Rattle.persist_model.specs.Region.{Words}
use Rattle.persist_model.specs.Records.{IsAmong}
use Rattle.persist_model.specs.Shape.{Shape, bucket, IsBucketOf}
use Rattle.atomic_list.specs.Reads.{IsInChain}
use Rattle.atomic_list.specs.Walk.{chain_of}
use Rattle.atomic_list.proofs.Parts.{parts_fit}
use Rattle.region_layout.specs.declared.layout.Layout.{Layout}
use Rattle.region_layout.specs.declared.layout.Policy.{Policy}
use Rattle.region_layout.specs.declared.layout.Policy.TheVariants.{Force, NoForce}
use Rattle.region_layout.specs.Layout.{policy_number, layout_shape, IsAllowed}
use Rattle.region_layout.specs.Apart.{IsInPartition}
use Rattle.region_layout.proofs.Parts.{parts_apart}
use Rattle.bucket_log.specs.Reads.{IsLogOf}
use Rattle.bucket_log.proofs.AppendImages.{Each-among}
use Rattle.bucket_log.proofs.Counting.{bucket_one}
use Rattle.bucket_log.proofs.Walking.{next_among, good_chain}
use Rattle.persist_model.proofs.Among.{among_left, among_right, among_append}
use Rattle.log_partition.specs.Marks.{HasMark, HasPlace, AddsMarks}

-- ---- numbers of buckets

policies : (policy : Policy) → (1 ≤ policy_number policy) × (policy_number policy ≤ 2)
policies Force = (omega arith, omega arith)
policies NoForce = (omega arith, omega arith)

cells_of : (n : ℕ) → IsTrue ((n == 1) || (n == 16)) → (n ≡ 1) ⊎ (n ≡ 16)
cells_of n h = grind (arith, nat_tests, h)

pub allowed : (layout : Layout) → IsAllowed (layout_shape layout)
allowed layout = record {
  policy = policies layout.policy;
  cells = cells_of layout.cells layout.cells_are;
  buckets = layout.buckets_within;
  blocks = layout.blocks_within;
  structures = layout.structures_within;
  format = layout.format_within;
  partitions = layout.partitions_within;
  whole = layout.whole;
  split = layout.split;
}

-- the bucket at a partition's address has a number of that partition
pub number_inside : (shape : Shape) (p j : ℕ) → IsBucketOf shape p (bucket shape j) → IsInPartition shape p j
number_inside shape p j h =
    let same = bucket_one shape j h.0 h.3 in
    let low = h.1 in
    let high = h.2 in
    (omega (arith, same, low), omega (arith, same, high))

pub number_below : (shape : Shape) (p j : ℕ) → p < shape.partitions → IsInPartition shape p j → j < shape.buckets
number_below shape p j lt inside = let fit = parts_fit shape p lt in let high = inside.1 in omega (arith, fit, high)

pub one_partition : (layout : Layout) (p q j : ℕ) → p < layout.partitions → q < layout.partitions → IsInPartition (layout_shape layout) p j → IsInPartition (layout_shape layout) q j → p ≡ q
one_partition layout p q j lt lt' here there = (parts_apart (layout_shape layout) (allowed layout)).apart p q j lt lt' here there

pub has_place : (shape : Shape) (p b : ℕ) (marks : List Bool) → p < shape.partitions → length marks ≡ shape.buckets → IsBucketOf shape p b → HasPlace shape marks b
has_place shape p b marks lt long h =
    let fit = parts_fit shape p lt in
    let high = h.2 in
    (h.0, omega (arith, fit, high, long), h.3)

-- what comes next along a chain, and isn't 0, has a mark
pub chain_place : (layout : Layout) (size : ℕ) (w : Words) → IsLogOf layout size w → (next : ℕ) (before marks : List Bool) → length before ≡ layout.buckets → length marks ≡ length before →
    IsInChain w next → next ≢ 0 → HasPlace (layout_shape layout) marks next
chain_place layout size w log next before marks all long inside ne =
    let good = good_chain layout size w log in
    has_place (layout_shape layout) log.has_list.part next marks good.below (long ∙ all)
    (Each-among (IsBucketOf (layout_shape layout) log.has_list.part) (chain_of (layout_shape layout) w) next good.buckets (next_among layout size w next log inside ne))

-- ---- one mark

pub mark_same : (marks : List Bool) (j : ℕ) → j < length marks → HasMark (slice_set marks j true) j
mark_same marks j lt = get_or-set_same marks j true false lt

pub mark_other : (marks : List Bool) (i j : ℕ) → i ≢ j → get_or (slice_set marks j true) i false ≡ get_or marks i false
mark_other marks i j ne = get_or-set_other marks j i true false ne

-- ---- the marks of a chain

pub marks_begin : (shape : Shape) (marks : List Bool) → AddsMarks shape [] marks marks
marks_begin shape marks = record { long = refl; each = λ j. ((λ m. inl m), (λ s. elim s [ inl m ↦ m | inr k ↦ absurd k.1 ])) }

pub marks_go_on : (shape : Shape) (front : List ℕ) (before now later : List Bool) (next j : ℕ) → j < length before → next ≡ bucket shape j → later ≡ slice_set now j true →
    AddsMarks shape front before now → AddsMarks shape (front ++ next ∷ []) before later
marks_go_on shape front before now later next j lt is change so_far = subst (AddsMarks shape (front ++ next ∷ []) before) (sym change) (record {
  long = length-set now j true ∙ so_far.long;
  each = λ i. elim (eqb_tells i j) [
    | inl e ↦ here i e.1
    | inr e ↦ there i e.1
  ];
})
  where
    inside : j < length now
    inside = let long = so_far.long in omega (arith, lt, long)

    here : (i : ℕ) → i ≡ j → HasMark (slice_set now j true) i ↔ (HasMark before i ⊎ ((i < length before) × IsAmong (front ++ next ∷ []) (bucket shape i)))
    here i e = (
      (λ m. inr (omega (arith, e, lt), among_right front (next ∷ []) (bucket shape i) (inl (ap (bucket shape) e ∙ sym is)))),
      (λ s. subst (HasMark (slice_set now j true)) (sym e) (mark_same now j inside)),
    )

    there : (i : ℕ) → i ≢ j → HasMark (slice_set now j true) i ↔ (HasMark before i ⊎ ((i < length before) × IsAmong (front ++ next ∷ []) (bucket shape i)))
    there i ne = (
      (λ m. elim ((so_far.each i).0 (sym (mark_other now i j ne) ∙ m)) [
        | inl k ↦ inl k
        | inr k ↦ inr (k.0, among_left front (next ∷ []) (bucket shape i) k.1)
      ]),
      (λ s. mark_other now i j ne ∙ (so_far.each i).1 (elim s [
        | inl k ↦ inl k
        | inr k ↦ inr (
          k.0,
          elim (among_append front (next ∷ []) (bucket shape i) k.1) [
            | inl m ↦ m
            | inr m ↦ elim m [ inl e ↦ absurd (ne (bucket_one shape i j (e ∙ is))) | inr z ↦ absurd z ]
          ],
        )
      ])),
    )
