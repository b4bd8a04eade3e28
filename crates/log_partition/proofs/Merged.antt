-- The records of all partitions, gathered one by one and sorted, are the log.
use Rattle.std.proofs.Common.{◌≡◌, ◌↔◌, inl, inr, ℕ, ◌+◌, ◌<◌, ◌≤◌, cond, List, [], ◌∷◌, ◌++◌, length, map, reverse, refl, ap, sym, ◌∙◌, arith, subst}
use Rattle.std.specs.Prelude.{slice_index}
use Rattle.std.proofs.lemmas.Bool.Decides.{eqb_tells}
use Rattle.std.proofs.lemmas.List.{map-append}
use Rattle.std.proofs.lemmas.List.Sorted.{IsPermutation-sym, sum_by-IsPermutation}
use Rattle.persist_model.specs.Region.{Words}
use Rattle.persist_model.specs.Records.{Record, Log, IsAmong, IsNewer, IsNewestFirst}
use Rattle.persist_model.specs.Shape.{Shape, shape_of, IsBucketOf, heap, log_words, part_of}
use Rattle.persist_model.specs.Chain.{view, out_address, AreBuckets, ListRules}
use Rattle.persist_model.specs.ImageRecords.{cell_address, record_at, IsRecordOf}
use Rattle.persist_model.specs.State.{State}
use Rattle.persist_model.specs.Sound.{HasState}
use Rattle.log_laws.proofs.RecordLists.{lists_one}
use Rattle.log_laws.proofs.SameLists.{chain_buckets}
use Rattle.log_laws.proofs.Views.{view-out}
use Rattle.atomic_list.specs.Reads.{SameLog}
use Rattle.atomic_list.specs.Walk.{chain_of}
use Rattle.atomic_list.proofs.RulesToCases.{list_of_rules}
use Rattle.atomic_list.proofs.Walks.{chain_of_list}
use Rattle.region_layout.specs.declared.layout.Layout.{Layout}
use Rattle.region_layout.specs.Layout.{layout_shape, IsAllowed}
use Rattle.region_layout.proofs.Headers.{shapes_are_read}
use Rattle.bucket_log.specs.declared.scanning.Placed.{Placed}
use Rattle.bucket_log.specs.Reads.{IsLogOf}
use Rattle.bucket_log.specs.Scans.{record_of_placed, IsLogIn, IsSortedOf}
use Rattle.bucket_log.proofs.Appended.{inside_log}
use Rattle.bucket_log.proofs.AppendImages.{Each-among}
use Rattle.bucket_log.proofs.Partitions.{few_parts, part_of_cell}
use Rattle.bucket_log.proofs.ScanLogs.{views_have_logs}
use Rattle.persist_model.proofs.Among.{among_left, among_right, among_append}
use Rattle.bucket_log.proofs.Scans.{counts, count_at, counts_small, count-append, count-cons, count_none, ascending, permuted, among_map, map_among, reverse-cons, reverse_among, among_reverse, newest}
use Rattle.log_partition.specs.Views.{viewed}
use Rattle.log_partition.specs.Merging.{AreLogsOf}
use Rattle.log_partition.proofs.Views.{length-viewed, viewed-is, view_shape, out_below}

-- ---- what is read of one partition

pub allowed_of : (layout : Layout) (size : ℕ) (w : Words) → AreLogsOf layout size w → IsAllowed (layout_shape layout)
allowed_of layout size w logs = subst IsAllowed logs.has_layout (shapes_are_read.allowed size w logs.shape)

-- a partition's view has a log that can be read
pub log_of_view : (layout : Layout) (p : ℕ) (xs row : List ℕ) → p < layout.partitions → AreLogsOf layout (length xs) (slice_index xs) → row ≡ viewed p xs →
    IsLogOf layout (length row) (slice_index row)
log_of_view layout p xs row lt logs is =
    subst (λ ys. IsLogOf layout (length ys) (slice_index ys)) (sym is)
    (subst (λ n. IsLogOf layout n (slice_index (viewed p xs))) (sym (length-viewed p xs))
    (subst (IsLogOf layout (length xs)) (sym (viewed-is p xs)) seen))
  where
    list : (chain : List ℕ) × ListRules (IsBucketOf (layout_shape layout) p) (view p (slice_index xs)) chain
    list = logs.lists p lt

    seen : IsLogOf layout (length xs) (view p (slice_index xs))
    seen = record {
      has_list = record {
        shape = view_shape (length xs) p (slice_index xs) logs.shape;
        part = p;
        below = subst (λ (s : Shape). p < s.partitions) (sym logs.has_layout) lt;
        chain = list.0;
        rules = subst (λ s. ListRules (IsBucketOf s p) (view p (slice_index xs)) list.0) (sym logs.has_layout) list.1;
      };
      has_layout = logs.has_layout;
    }

-- words with the same log show the same in the partition's view
pub same_seen : (layout : Layout) (p : ℕ) (xs row : List ℕ) (v : Words) → p < layout.partitions → AreLogsOf layout (length xs) (slice_index xs) → row ≡ viewed p xs →
    SameLog (slice_index xs) v → SameLog (slice_index row) (view p (log_words (layout_shape layout) v))
same_seen layout p xs row v lt logs is same =
    subst (λ ys. SameLog (slice_index ys) (view p (log_words (layout_shape layout) v))) (sym is)
    (subst (λ w. SameLog w (view p (log_words (layout_shape layout) v))) (sym (viewed-is p xs)) seen)
  where
    few : p < 3
    few = few_parts (layout_shape layout) p (allowed_of layout (length xs) (slice_index xs) logs) lt

    out_word : (a : ℕ) → a < heap (shape_of (slice_index xs)) → log_words (layout_shape layout) v (out_address p a) ≡ slice_index xs (out_address p a)
    out_word a below =
        let inside = out_below p a (heap (shape_of (slice_index xs))) few (omega arith) below in
        inside_log (layout_shape layout) v (out_address p a) (subst (λ s. out_address p a < heap s) logs.has_layout inside) ∙ same (out_address p a) inside

    seen : SameLog (view p (slice_index xs)) (view p (log_words (layout_shape layout) v))
    seen a below = view-out p (log_words (layout_shape layout) v) a ∙ out_word a below ∙ sym (view-out p (slice_index xs) a)

-- what a scan of the view gives is the partition's log in the state
pub scanned : (layout : Layout) (p : ℕ) (xs row : List ℕ) (v : Words) (s : State) (part : List Placed) → p < layout.partitions →
    AreLogsOf layout (length xs) (slice_index xs) → row ≡ viewed p xs → SameLog (slice_index xs) v → (has : HasState (layout_shape layout) v s) →
    ((u : Words) → SameLog (slice_index row) u → IsLogIn layout.cells u (chain_of (layout_shape layout) u) (reverse (map record_of_placed part))) →
    IsLogIn layout.cells (log_words (layout_shape layout) v) (has.chains p) (reverse (map record_of_placed part))
scanned layout p xs row v s part lt logs is same has read =
    (views_have_logs (layout_shape layout) p (log_words (layout_shape layout) v) (has.chains p) (reverse (map record_of_placed part)) (has.lists p lt)).0
    (subst (λ chain. IsLogIn layout.cells (view p (log_words (layout_shape layout) v)) chain (reverse (map record_of_placed part))) chain_is
    (read (view p (log_words (layout_shape layout) v)) (same_seen layout p xs row v lt logs is same)))
  where
    chain_is : chain_of (layout_shape layout) (view p (log_words (layout_shape layout) v)) ≡ has.chains p
    chain_is = (chain_of_list (layout_shape layout) p (view p (log_words (layout_shape layout) v)) (has.chains p) lt
        (list_of_rules (layout_shape layout) p (view p (log_words (layout_shape layout) v)) (has.chains p) (has.lists p lt).rules)).0

-- ---- each record is found once

not_newer_than_itself : (r : Record) → IsNewer r r → ⊥
not_newer_than_itself r (inl lt) = omega (arith, lt)
not_newer_than_itself r (inr h) = let lt = h.1 in omega (arith, lt)

newest-split : (log : Log) (r : Record) → IsNewestFirst (log ++ r ∷ []) → IsNewestFirst log × ((s : Record) → IsAmong log s → IsNewer s r)
newest-split [] r h = (tt, λ s m. absurd m)
newest-split (x ∷ log) r h =
    let k = newest-split log r h.1 in (
      (λ s m. h.0 s (among_left log (r ∷ []) s m), k.0),
      λ s m. elim m [ inl e ↦ subst (λ y. IsNewer y r) (sym e) (h.0 r (among_right log (r ∷ []) r (inl refl))) | inr j ↦ k.1 s j ],
    )

once_from : (w : Words) (part : List Placed) → ((x : Placed) → IsAmong part x → record_of_placed x ≡ record_at w x.at) →
    IsNewestFirst (reverse (map record_of_placed part)) → (a : ℕ) → count_at a part ≤ 1
once_from w [] same h a = omega arith
once_from w (x ∷ xs) same h a =
    let k = newest-split (reverse (map record_of_placed xs)) (record_of_placed x) (subst IsNewestFirst (reverse-cons (record_of_placed x) (map record_of_placed xs)) h) in
    let all = count-cons a x xs in
    elim (eqb_tells x.at a) [
      | inl e ↦ (let small = counts_small a x in
          let rest : count_at a xs ≡ 0 = count_none a xs (λ y m z. (
          let here = same y (inr m) ∙ ap (λ n. record_at w n) (z ∙ sym e.1) ∙ sym (same x (inl refl)) in
          not_newer_than_itself (record_of_placed x) (subst (λ r. IsNewer r (record_of_placed x)) here
          (k.1 (record_of_placed y) (reverse_among (map record_of_placed xs) (record_of_placed y) (map_among xs y m)))))) in
          omega (arith, all, small, rest))
      | inr e ↦ (let none : counts a x ≡ 0 = ap (λ t. cond t 1 0) e.0 in
          let rest = once_from w xs (λ y m. same y (inr m)) k.0 a in
          omega (arith, all, none, rest))
    ]

-- ---- one partition after another

-- what is found are the records of the first n partitions, each once
pub record IsGathered (shape : Shape) (w : Words) (chains : ℕ → List ℕ) (n : ℕ) (found : List Placed) : Type 0 where
  pub once : (a : ℕ) → count_at a found ≤ 1
  pub each : (r : Record) → IsAmong (map record_of_placed found) r ↔ (q : ℕ) × (q < n) × IsRecordOf shape.cells (chains q) w r

pub gathering_begins : (shape : Shape) (w : Words) (chains : ℕ → List ℕ) → IsGathered shape w chains 0 []
gathering_begins shape w chains = record { once = λ a. omega arith; each = λ r. (λ m. absurd m, λ k. (let lt = k.1 in absurd (omega (arith, lt)))) }

module _ (shape : Shape) (ok : IsAllowed shape) (w : Words) (chains : ℕ → List ℕ) (n : ℕ) (found part : List Placed) (inside : n < shape.partitions)
    (buckets : (q : ℕ) → q < shape.partitions → AreBuckets (IsBucketOf shape q) (chains q)) (gathered : IsGathered shape w chains n found)
    (log : IsLogIn shape.cells w (chains n) (reverse (map record_of_placed part))) where
  part_is : (q : ℕ) (r : Record) → q < shape.partitions → IsRecordOf shape.cells (chains q) w r → part_of shape r.at ≡ q
  part_is q r lt k =
      let at_is : r.at ≡ cell_address k.bucket k.place = ap (λ (x : Record). x.at) k.is in
      ap (part_of shape) at_is ∙ part_of_cell shape q k.bucket k.place ok lt (Each-among (IsBucketOf shape q) (chains q) k.bucket (buckets q lt) k.is_among) k.below

  new_record : (x : Placed) → IsAmong part x → IsRecordOf shape.cells (chains n) w (record_of_placed x)
  new_record x m = (log.each (record_of_placed x)).0 (reverse_among (map record_of_placed part) (record_of_placed x) (map_among part x m))

  new_same : (x : Placed) → IsAmong part x → record_of_placed x ≡ record_at w x.at
  new_same x m =
      let k = new_record x m in
      let at_is : x.at ≡ cell_address k.bucket k.place = ap (λ (r : Record). r.at) k.is in
      k.is ∙ ap (λ a. record_at w a) (sym at_is)

  clash : (x y : Placed) → IsAmong part x → IsAmong found y → x.at ≡ y.at → ⊥
  clash x y m j e =
      let k = (gathered.each (record_of_placed y)).0 (map_among found y j) in
      let lt = k.1 in
      let here = part_is n (record_of_placed x) inside (new_record x m) in
      let there = part_is k.0 (record_of_placed y) (omega (arith, lt, inside)) k.2 in
      let same : n ≡ k.0 = sym here ∙ ap (part_of shape) e ∙ there in
      omega (arith, lt, same)

  pub gathering_goes_on : IsGathered shape w chains (n + 1) (found ++ part)
  gathering_goes_on = record {
    once = λ a. (
        let all = count-append a found part in
        let before = gathered.once a in
        let new = once_from w part new_same log.newest_first a in
        elim (eqb_tells (count_at a found) 0) [
          | inl e ↦ (let none = e.1 in omega (arith, all, new, none))
          | inr e ↦ (let none : count_at a part ≡ 0 = count_none a part (λ x m z. e.1 (count_none a found (λ y j q. clash x y m j (z ∙ sym q)))) in
              omega (arith, all, before, none))
        ]);
    each = λ r. (
      (λ m. elim (among_append (map record_of_placed found) (map record_of_placed part) r (subst (λ rs. IsAmong rs r) (map-append record_of_placed found part) m)) [
        | inl j ↦ (let k = (gathered.each r).0 j in let lt = k.1 in (k.0, omega (arith, lt), k.2))
        | inr j ↦ (n, omega arith, (log.each r).0 (reverse_among (map record_of_placed part) r j))
      ]),
      (λ k. subst (λ rs. IsAmong rs r) (sym (map-append record_of_placed found part)) (elim (eqb_tells k.0 n) [
        | inl e ↦ among_right (map record_of_placed found) (map record_of_placed part) r
            (among_reverse (map record_of_placed part) r ((log.each r).1 (subst (λ q. IsRecordOf shape.cells (chains q) w r) e.1 k.2)))
        | inr e ↦ (let lt = k.1 in let ne = e.1 in
            among_left (map record_of_placed found) (map record_of_placed part) r ((gathered.each r).1 (k.0, omega (arith, lt, ne), k.2)))
      ])),
    );
  }

pub gathered_more : (layout : Layout) (xs row : List ℕ) (v : Words) (s : State) (n : ℕ) (found part later : List Placed) → n < layout.partitions →
    AreLogsOf layout (length xs) (slice_index xs) → row ≡ viewed n xs → SameLog (slice_index xs) v → (has : HasState (layout_shape layout) v s) →
    ((u : Words) → SameLog (slice_index row) u → IsLogIn layout.cells u (chain_of (layout_shape layout) u) (reverse (map record_of_placed part))) →
    IsGathered (layout_shape layout) (log_words (layout_shape layout) v) has.chains n found → later ≡ found ++ part →
    IsGathered (layout_shape layout) (log_words (layout_shape layout) v) has.chains (n + 1) later
gathered_more layout xs row v s n found part later lt logs is same has read gathered more =
    subst (IsGathered (layout_shape layout) (log_words (layout_shape layout) v) has.chains (n + 1)) (sym more)
    (gathering_goes_on (layout_shape layout) (allowed_of layout (length xs) (slice_index xs) logs) (log_words (layout_shape layout) v) has.chains n found part lt
    (λ q below. chain_buckets (IsBucketOf (layout_shape layout) q) (view q (log_words (layout_shape layout) v)) (has.chains q) (has.lists q below).rules)
    gathered (scanned layout n xs row v s part lt logs is same has read))

-- ---- sorted

pub merged_is_log : (shape : Shape) (v : Words) (s : State) (has : HasState shape v s) (found sorted : List Placed) →
    IsGathered shape (log_words shape v) has.chains shape.partitions found → IsSortedOf found sorted → reverse (map record_of_placed sorted) ≡ s.log
merged_is_log shape v s has found sorted gathered h =
    lists_one (reverse (map record_of_placed sorted)) s.log
    (newest sorted (ascending found sorted h) (λ a. (let same = sum_by-IsPermutation (counts a) found sorted h.same in let most = gathered.once a in omega (arith, same, most))))
    has.records.newest_first
    (λ r m. (has.records.each r).1 ((gathered.each r).0 (back r (among_map sorted r (among_reverse (map record_of_placed sorted) r m)))))
    (λ r m. forth r (among_map found r ((gathered.each r).1 ((has.records.each r).0 m))))
  where
    back : (r : Record) → (x : Placed) × IsAmong sorted x × (r ≡ record_of_placed x) → IsAmong (map record_of_placed found) r
    back r k = subst (IsAmong (map record_of_placed found)) (sym k.2) (map_among found k.0 (permuted sorted found k.0 (IsPermutation-sym found sorted h.same) k.1))

    forth : (r : Record) → (x : Placed) × IsAmong found x × (r ≡ record_of_placed x) → IsAmong (reverse (map record_of_placed sorted)) r
    forth r k = subst (IsAmong (reverse (map record_of_placed sorted))) (sym k.2)
        (reverse_among (map record_of_placed sorted) (record_of_placed k.0) (map_among sorted k.0 (permuted found sorted k.0 h.same k.1)))
