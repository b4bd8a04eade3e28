-- What the table knows of the chains of all partitions.
use Rattle.std.proofs.Common.{◌≡◌, ◌≢◌, ◌↔◌, inl, inr, ℕ, ◌+◌, ◌<◌, Bool, true, false, List, [], ◌∷◌, ◌++◌, length, get_or, slice_set, ap, sym, ◌∙◌, arith, subst}
use Rattle.std.specs.Prelude.{slice_index}
use Rattle.std.proofs.lemmas.Bool.Decides.{eqb_tells}
use Rattle.std.proofs.lemmas.List.{length-set, get_or-set_same, get_or-set_other}
use Rattle.persist_model.specs.Region.{Words}
use Rattle.persist_model.specs.Records.{IsAmong}
use Rattle.persist_model.specs.Shape.{Shape, bucket, first_bucket, IsBucketOf}
use Rattle.persist_model.specs.Chain.{view, AreBuckets}
use Rattle.log_laws.proofs.SameLists.{chain_buckets}
use Rattle.atomic_list.specs.Walk.{chain_of}
use Rattle.atomic_list.proofs.RulesToCases.{list_of_rules}
use Rattle.atomic_list.proofs.Walks.{chain_of_list}
use Rattle.region_layout.specs.declared.layout.Layout.{Layout}
use Rattle.region_layout.specs.Layout.{layout_shape}
use Rattle.region_layout.specs.Apart.{IsInPartition}
use Rattle.bucket_log.proofs.AppendImages.{Each-among}
use Rattle.bucket_log.proofs.Counting.{bucket_one}
use Rattle.persist_model.proofs.Among.{among_left, among_right, among_append}
use Rattle.log_partition.specs.declared.used.UsedBuckets.{UsedBuckets}
use Rattle.log_partition.specs.Marks.{HasMark, AddsMarks}
use Rattle.log_partition.specs.Merging.{AreLogsOf}
use Rattle.log_partition.specs.Used.{IsMarked, from_of, KnowsChains, chains_in, with_bucket}
use Rattle.log_partition.specs.Views.{viewed}
use Rattle.log_partition.proofs.Marking.{number_inside, number_below, one_partition, mark_same, mark_other}
use Rattle.log_partition.proofs.Views.{viewed-is}

-- the table knows chains that are equal in the region's partitions
pub knows_same : (shape : Shape) (table : UsedBuckets) (chains other : ℕ → List ℕ) → ((p : ℕ) → p < shape.partitions → other p ≡ chains p) →
    KnowsChains shape table chains → KnowsChains shape table other
knows_same shape table chains other same knows = record {
  fits = knows.fits;
  marks = λ p j lt inside. (
    (λ m. subst (λ xs. IsAmong xs (bucket shape j)) (sym (same p lt)) ((knows.marks p j lt inside).0 m)),
    (λ m. (knows.marks p j lt inside).1 (subst (λ xs. IsAmong xs (bucket shape j)) (same p lt) m)),
  );
  begins = knows.begins;
  passed = knows.passed;
}

-- ---- reading

-- The chains of the partitions before this one are marked, and each of these partitions is looked at from its first bucket.
pub record IsReadTo (shape : Shape) (chains : ℕ → List ℕ) (p : ℕ) (marks : List Bool) (numbers : List ℕ) : Type 0 where
  pub long : length marks ≡ shape.buckets
  pub each_number : length numbers ≡ shape.partitions
  pub each : (j : ℕ) → HasMark marks j ↔ ((j < shape.buckets) × (q : ℕ) × (q < p) × IsAmong (chains q) (bucket shape j))
  pub first : (q : ℕ) → q < p → slice_index numbers q ≡ first_bucket shape q

pub reading_begins : (shape : Shape) (chains : ℕ → List ℕ) (marks : List Bool) (numbers : List ℕ) → length marks ≡ shape.buckets → length numbers ≡ shape.partitions →
    ((j : ℕ) → get_or marks j false ≡ false) → IsReadTo shape chains 0 marks numbers
reading_begins shape chains marks numbers long each_number none = record {
  long = long;
  each_number = each_number;
  each = λ j. ((λ m. (let off = none j in absurd (differ (get_or marks j false) m off))), (λ k. (let lt = k.2 in absurd (omega (arith, lt)))));
  first = λ q lt. absurd (omega (arith, lt));
}
  where
    differ : (b : Bool) → b ≡ true → b ≡ false → ⊥
    differ true m off = cc
    differ false m off = cc

pub reading_goes_on : (shape : Shape) (chains : ℕ → List ℕ) (p n : ℕ) (marks later : List Bool) (numbers : List ℕ) → p < shape.partitions → n ≡ first_bucket shape p →
    AddsMarks shape (chains p) marks later → IsReadTo shape chains p marks numbers → IsReadTo shape chains (p + 1) later (slice_set numbers p n)
reading_goes_on shape chains p n marks later numbers lt is adds so_far = record {
  long = adds.long ∙ so_far.long;
  each_number = length-set numbers p n ∙ so_far.each_number;
  each = λ j. (
    (λ m. elim ((adds.each j).0 m) [
      | inl k ↦ (let old = (so_far.each j).0 k in let below = old.2 in (old.0, old.1, omega (arith, below), old.3))
      | inr k ↦ (let below = k.0 in let long = so_far.long in (omega (arith, below, long), p, omega arith, k.1))
    ]),
    (λ k. (adds.each j).1 (elim (eqb_tells k.1 p) [
      | inl e ↦ inr ((let below = k.0 in let long = so_far.long in omega (arith, below, long)), subst (λ q. IsAmong (chains q) (bucket shape j)) e.1 k.3)
      | inr e ↦ inl ((so_far.each j).1 (k.0, k.1, (let below = k.2 in let ne = e.1 in omega (arith, below, ne)), k.3))
    ])),
  );
  first = λ q below. elim (eqb_tells q p) [
    | inl e ↦ ap (slice_index (slice_set numbers p n)) e.1 ∙ get_or-set_same numbers p n 0 (let size = so_far.each_number in omega (arith, lt, size)) ∙ is ∙ ap (first_bucket shape) (sym e.1)
    | inr e ↦ (let ne = e.1 in get_or-set_other numbers p q n 0 ne ∙ so_far.first q (omega (arith, below, ne)))
  ];
}

-- the chain that is read through a view
pub chain_viewed : (shape : Shape) (p : ℕ) (xs row : List ℕ) (before after : List Bool) → row ≡ viewed p xs → AddsMarks shape (chain_of shape (slice_index row)) before after →
    AddsMarks shape (chains_in shape (slice_index xs) p) before after
chain_viewed shape p xs row before after is adds =
    subst (λ w. AddsMarks shape (chain_of shape w) before after) (ap slice_index is ∙ viewed-is p xs) adds

chain_in_part : (layout : Layout) (size : ℕ) (w : Words) (q : ℕ) → q < layout.partitions → AreLogsOf layout size w →
    AreBuckets (IsBucketOf (layout_shape layout) q) (chains_in (layout_shape layout) w q)
chain_in_part layout size w q lt logs =
    let list = logs.lists q lt in
    let found = (chain_of_list (layout_shape layout) q (view q w) list.0 lt (list_of_rules (layout_shape layout) q (view q w) list.0 list.1)).0 in
    subst (AreBuckets (IsBucketOf (layout_shape layout) q)) (sym found) (chain_buckets (IsBucketOf (layout_shape layout) q) (view q w) list.0 list.1)

pub reading_ends : (layout : Layout) (size : ℕ) (w : Words) (table : UsedBuckets) → AreLogsOf layout size w →
    IsReadTo (layout_shape layout) (chains_in (layout_shape layout) w) layout.partitions table.used.items table.from.items →
    KnowsChains (layout_shape layout) table (chains_in (layout_shape layout) w)
reading_ends layout size w table logs read = record {
  fits = record { marks = read.long; numbers = read.each_number };
  marks = λ p j lt inside. (
    (λ m. (let k = (read.each j).0 m in
        let own = number_inside (layout_shape layout) k.1 j (Each-among (IsBucketOf (layout_shape layout) k.1) (chains_in (layout_shape layout) w k.1) (bucket (layout_shape layout) j)
        (chain_in_part layout size w k.1 k.2 logs) k.3) in
        subst (λ q. IsAmong (chains_in (layout_shape layout) w q) (bucket (layout_shape layout) j)) (one_partition layout k.1 p j k.2 lt own inside) k.3)),
    (λ m. (read.each j).1 (number_below (layout_shape layout) p j lt inside, p, lt, m)),
  );
  begins = λ p lt. (let e = read.first p lt in omega (arith, e));
  passed = λ p j lt inside below. (let e = read.first p lt in let low = inside.0 in absurd (omega (arith, e, low, below)));
}

-- ---- one bucket more

pub knows_more : (layout : Layout) (p b : ℕ) (table later : UsedBuckets) (chains : ℕ → List ℕ) → p < layout.partitions → (own : IsBucketOf (layout_shape layout) p b) →
    later.used.items ≡ slice_set table.used.items own.0 true → later.from.items ≡ table.from.items →
    KnowsChains (layout_shape layout) table chains → KnowsChains (layout_shape layout) later (with_bucket p b chains)
knows_more layout p b table later chains lt own change same knows = record {
  fits = record {
    marks = ap length change ∙ length-set table.used.items own.0 true ∙ knows.fits.marks;
    numbers = ap length same ∙ knows.fits.numbers;
  };
  marks = λ q j below inside. elim (eqb_tells q p) [
    | inl e ↦ rw e.0 (mine q j below inside e.1)
    | inr e ↦ rw e.0 (theirs q j below inside e.1)
  ];
  begins = λ q below. (let e = from_same q in let low = knows.begins q below in omega (arith, e, low));
  passed = λ q j below inside before. grown j (knows.passed q j below inside (let e = from_same q in omega (arith, e, before)));
}
  where
    from_same : (q : ℕ) → from_of later q ≡ from_of table q
    from_same q = ap (λ ns. slice_index ns q) same

    here : IsMarked later own.0
    here = subst (λ ms. HasMark ms own.0) (sym change) (mark_same table.used.items own.0
        (let fit = number_below (layout_shape layout) p own.0 lt (own.1, own.2) in let size = knows.fits.marks in omega (arith, fit, size)))

    there : (j : ℕ) → j ≢ own.0 → get_or later.used.items j false ≡ get_or table.used.items j false
    there j ne = ap (λ ms. get_or ms j false) change ∙ mark_other table.used.items j own.0 ne

    grown : (j : ℕ) → IsMarked table j → IsMarked later j
    grown j m = elim (eqb_tells j own.0) [ inl e ↦ subst (IsMarked later) (sym e.1) here | inr e ↦ there j e.1 ∙ m ]

    mine : (q j : ℕ) → q < layout.partitions → IsInPartition (layout_shape layout) q j → q ≡ p → IsMarked later j ↔ IsAmong (chains p ++ b ∷ []) (bucket (layout_shape layout) j)
    mine q j below inside e =
        let old = knows.marks p j lt (subst (λ n. IsInPartition (layout_shape layout) n j) e inside) in (
          (λ m. elim (eqb_tells j own.0) [
            | inl k ↦ among_right (chains p) (b ∷ []) (bucket (layout_shape layout) j) (inl (ap (bucket (layout_shape layout)) k.1 ∙ sym own.3))
            | inr k ↦ among_left (chains p) (b ∷ []) (bucket (layout_shape layout) j) (old.0 (sym (there j k.1) ∙ m))
          ]),
          (λ m. elim (among_append (chains p) (b ∷ []) (bucket (layout_shape layout) j) m) [
            | inl k ↦ grown j (old.1 k)
            | inr k ↦ elim k [
              | inl x ↦ subst (IsMarked later) (sym (bucket_one (layout_shape layout) j own.0 (x ∙ own.3))) here
              | inr z ↦ absurd z
            ]
          ]),
        )

    theirs : (q j : ℕ) → q < layout.partitions → IsInPartition (layout_shape layout) q j → q ≢ p → IsMarked later j ↔ IsAmong (chains q) (bucket (layout_shape layout) j)
    theirs q j below inside ne =
        let apart : j ≢ own.0 = (λ e. ne (one_partition layout q p j below lt inside (subst (IsInPartition (layout_shape layout) p) (sym e) (own.1, own.2)))) in
        let old = knows.marks q j below inside in (
          (λ m. old.0 (sym (there j apart) ∙ m)),
          (λ m. there j apart ∙ old.1 m),
        )
