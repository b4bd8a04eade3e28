-- A bucket with its records in one partition of a region: what each image is, for its view and as a state.
use Rattle.std.proofs.Common.{◌≡◌, ◌≢◌, ◌⊎◌, ◌↔◌, inl, inr, ℕ, ◌+◌, ◌<◌, ◌≤◌, false, List, [], ◌∷◌, ◌++◌, map, take, length, refl, sym, ap, subst, ◌∙◌, arith, ◌==◌, cond, length-append}
use Rattle.std.proofs.lemmas.Bool.Decides.{nat_tests, eqb_tells}
use Rattle.std.proofs.lemmas.List.{take_all, length-map}
use Rattle.persist_model.specs.declared.event.Event.{Event}
use Rattle.persist_model.specs.Region.{Words}
use Rattle.persist_model.specs.Progress.{start, advance_all, Reaches}
use Rattle.persist_model.specs.Runs.{progress_at}
use Rattle.persist_model.specs.Records.{Record, Log, IsAmong}
use Rattle.persist_model.specs.Shape.{Shape, IsBucketOf, heap, log_words, heap_words}
use Rattle.persist_model.specs.Chain.{view, out_address, out_event, last_or, AreBuckets}
use Rattle.persist_model.specs.ImageRecords.{cell_address, IsRecordOf}
use Rattle.persist_model.specs.Sound.{HasState, room_of, closed_cells}
use Rattle.persist_model.specs.State.{State}
use Rattle.persist_model.proofs.Projecting.{AreAway-take, IsFixed-start, IsFixed-aways, Reaches-fixed}
use Rattle.log_laws.specs.Recovering.{with_heap}
use Rattle.log_laws.proofs.Views.{AreStoresOn, AreStoresOn-out, AreAway-stores, view_reaches, view_behind}
use Rattle.atomic_list.specs.Rules.{IsAtRest, at_rest}
use Rattle.atomic_list.proofs.Cases.{chain_is_buckets}
use Rattle.atomic_list.proofs.RulesToCases.{list_of_rules}
use Rattle.atomic_list.proofs.ListChains.{list_has_chain}
use Rattle.atomic_list.proofs.Chains.{last-push}
use Rattle.atomic_list.proofs.Unique.{chain_is_one}
use Rattle.region_layout.specs.declared.cell.Cell.{Cell}
use Rattle.region_layout.specs.Layout.{IsAllowed}
use Rattle.bucket_log.specs.Words.{IsLogWord, IsPartWord, SameRecords, KeepsLog}
use Rattle.bucket_log.specs.States.{LeadsTo}
use Rattle.bucket_log.proofs.Partitions.{few_parts, log_word_out, log_word_own, part_word_below}
use Rattle.bucket_log.proofs.PartStates.{part_kept}
use Rattle.bucket_log.proofs.AppendImages.{Each-among, among_last}
use Rattle.bucket_log.proofs.Appended.{inside_log, log_reaches, view_records, view_room, list_of_view}
use Rattle.bucket_log.proofs.Rooms.{closed_same, closed_none}
use Rattle.bucket_log.proofs.Addresses.{bucket_above}
use Rattle.batch_log.specs.Plans.{bucket_plan, filling}
use Rattle.batch_log.specs.Buckets.{CanFill, AddsRecords, AddsAll, bucket_records, free_cells, region_bucket}
use Rattle.batch_log.specs.States.{falls, GainsAll, behind, FallsBy}
use Rattle.batch_log.proofs.BucketCells.{length-records_from}
use Rattle.batch_log.proofs.FillImages.{fill_images, fill_waits, fill_stands, fill_rests, fill_opens, fill_stores}
use Rattle.batch_log.proofs.PartGains.{part_gains}
use Rattle.batch_log.proofs.Rooms.{falls_here, falls_elsewhere}

no_zero : (n : ℕ) → 32 ≤ n → (n == 0) ≡ false
no_zero n above = grind (arith, nat_tests, above)

-- ---- the view

module _ (shape : Shape) (ok : IsAllowed shape) (p : ℕ) (inside : p < shape.partitions) (z v : Words) (xs : List ℕ) (node tail : ℕ) (records : List Cell)
    (can : CanFill shape p (view p z) xs node tail records) where
  abbrev plan : List Event
  plan = bucket_plan shape.cells node tail records

  stores : AreStoresOn (IsLogWord shape p) (bucket_plan shape.cells node tail records)
  stores = fill_stores shape p (view p z) (view p z) xs node tail records inside can

  pub bucket_stores : AreStoresOn (IsPartWord shape p) (region_bucket shape p node tail records)
  bucket_stores = AreStoresOn-out (IsLogWord shape p) (IsPartWord shape p) p (log_word_out shape p) plan stores

  -- what the region reaches in the partition's words, the view reaches
  view_of : (A : ℕ → Type 0) (k : ℕ) → ((a : ℕ) → IsPartWord shape p a → A a) → Reaches A (progress_at z (region_bucket shape p node tail records) k) v →
      Reaches (IsLogWord shape p) (progress_at (view p z) plan k) (view p v)
  view_of A k has h = view_reaches A (IsLogWord shape p) p k z v plan (few_parts shape p ok inside) (log_word_own shape p) (λ a m. has (out_address p a) (log_word_out shape p a m)) stores h

  pub view_images : (A : ℕ → Type 0) (k : ℕ) → ((a : ℕ) → IsPartWord shape p a → A a) → Reaches A (progress_at z (region_bucket shape p node tail records) k) v →
      KeepsLog shape p (view p z) xs (view p v) ⊎ AddsAll shape p (view p z) xs (bucket_records node records) (view p v)
  view_images A k has h = fill_images shape p (view p z) (view p v) xs node tail records inside can k (view_of A k has h)

  size : length (region_bucket shape p node tail records) ≡ length (filling node records shape.cells) + 11
  size =
      let mapped : length (map (out_event p) plan) ≡ length plan = length-map plan (out_event p) in
      let both : length plan ≡ length (filling node records shape.cells) + 11 = length-append_put in
      mapped ∙ both
    where
      length-append_put : length (bucket_plan shape.cells node tail records) ≡ length (filling node records shape.cells) + 11
      length-append_put = length-append (filling node records shape.cells) _

  pub view_waits : (A : ℕ → Type 0) (k : ℕ) → ((a : ℕ) → IsPartWord shape p a → A a) → k + 7 ≤ length (region_bucket shape p node tail records) →
      Reaches A (progress_at z (region_bucket shape p node tail records) k) v → KeepsLog shape p (view p z) xs (view p v)
  view_waits A k has short h = let long = size in
      fill_waits shape p (view p z) (view p v) xs node tail records inside can k (omega (arith, short, long)) (view_of A k has h)

  pub view_stands : (A : ℕ → Type 0) (k : ℕ) → ((a : ℕ) → IsPartWord shape p a → A a) → length (region_bucket shape p node tail records) ≤ k + 5 →
      Reaches A (progress_at z (region_bucket shape p node tail records) k) v → AddsAll shape p (view p z) xs (bucket_records node records) (view p v)
  view_stands A k has far h = let long = size in
      fill_stands shape p (view p z) (view p v) xs node tail records inside can k (omega (arith, far, long)) (view_of A k has h)

  view_of_whole : (A : ℕ → Type 0) → ((a : ℕ) → IsPartWord shape p a → A a) →
      Reaches A (progress_at z (region_bucket shape p node tail records) (length (region_bucket shape p node tail records))) v →
      Reaches (IsLogWord shape p) (advance_all (start (view p z)) plan) (view p v)
  view_of_whole A has h =
      let whole : length (region_bucket shape p node tail records) ≡ length plan = length-map plan (out_event p) in
      let all : take (length (region_bucket shape p node tail records)) plan ≡ plan = take_all (length (region_bucket shape p node tail records)) plan (omega (arith, whole)) in
      subst (λ es. Reaches (IsLogWord shape p) (advance_all (start (view p z)) es) (view p v)) all (view_of A (length (region_bucket shape p node tail records)) has h)

  pub view_opens : (A : ℕ → Type 0) → ((a : ℕ) → IsPartWord shape p a → A a) →
      Reaches A (progress_at z (region_bucket shape p node tail records) (length (region_bucket shape p node tail records))) v → (c : ℕ) → c < length records → view p v (cell_address node c) ≢ 0
  view_opens A has h c lt = fill_opens shape p (view p z) (view p v) xs node tail records inside can (view_of_whole A has h) c lt

  pub view_rests : (A : ℕ → Type 0) → ((a : ℕ) → IsPartWord shape p a → A a) →
      Reaches A (progress_at z (region_bucket shape p node tail records) (length (region_bucket shape p node tail records))) v → IsAtRest shape p (view p v) (xs ++ node ∷ [])
  view_rests A has h = fill_rests shape p (view p z) (view p v) xs node tail records inside can (view_of_whole A has h)

  -- words of others aren't stored to
  pub others_same : (A : ℕ → Type 0) (k a : ℕ) → A a → (IsPartWord shape p a → ⊥) → Reaches A (progress_at z (region_bucket shape p node tail records) k) v → v a ≡ z a
  others_same A k a m off h = Reaches-fixed A (progress_at z (region_bucket shape p node tail records) k) v a (z a) m
      (IsFixed-aways (start z) a (z a) (take k (region_bucket shape p node tail records))
      (AreAway-take a k (region_bucket shape p node tail records) (AreAway-stores (IsPartWord shape p) a (region_bucket shape p node tail records) (λ b n e. off (subst (IsPartWord shape p) e n)) bucket_stores))
      (IsFixed-start z a)) h

-- ---- the state

module _ (shape : Shape) (ok : IsAllowed shape) (p : ℕ) (inside : p < shape.partitions) (z : Words) (s : State) (has : HasState shape z s) (xs : List ℕ) (node tail : ℕ) (records : List Cell)
    (can : CanFill shape p (view p (log_words shape z)) xs node tail records) where
  abbrev before : Words
  before = log_words shape z

  -- the chain is that of the state
  chain_is : xs ≡ has.chains p
  chain_is = chain_is_one (view p before) xs (has.chains p) (list_has_chain shape p (view p before) xs (at_rest can.at_rest))
      (list_has_chain shape p (view p before) (has.chains p) (list_of_rules shape p (view p before) (has.chains p) (has.lists p inside).rules))

  abbrev Reached : ℕ → Words → Type 0
  Reached k v = Reaches (λ a. a < heap shape) (progress_at z (region_bucket shape p node tail records) k) v

  log_reached : (k : ℕ) (v : Words) → Reached k v → Reaches (λ a. a < heap shape) (progress_at before (region_bucket shape p node tail records) k) (log_words shape v)
  log_reached k v h = log_reaches shape z v (region_bucket shape p node tail records) k h

  below_heap : (a : ℕ) → IsPartWord shape p a → a < heap shape
  below_heap a m = part_word_below shape p a ok inside m

  same : (k : ℕ) (v : Words) → Reached k v → (a : ℕ) → a < heap shape → (IsPartWord shape p a → ⊥) → v a ≡ z a
  same k v h a lt off = sym (inside_log shape v a lt)
      ∙ others_same shape ok p inside before (log_words shape v) xs node tail records can (λ b. b < heap shape) k a lt off (log_reached k v h) ∙ inside_log shape z a lt

  buckets_before : AreBuckets (IsBucketOf shape p) xs
  buckets_before = can.at_rest.buckets

  room_before : room_of shape (view p before) p xs ≡ room_of shape before p (has.chains p)
  room_before = view_room shape p before xs buckets_before ∙ ap (room_of shape before p) chain_is

  free_same : free_cells shape (view p before) xs ≡ free_cells shape before xs
  free_same = elim (eqb_tells (last_or 0 xs) 0) [
    | inl e ↦ ap (λ t. cond t 0 (closed_cells (view p before) (last_or 0 xs) shape.cells)) e.0 ∙ sym (ap (λ t. cond t 0 (closed_cells before (last_or 0 xs) shape.cells)) e.0)
    | inr e ↦ ap (λ n. cond (last_or 0 xs == 0) 0 n) (closed_same (view p before) before (last_or 0 xs) shape.cells (λ c lt.
        view_behind p before (cell_address (last_or 0 xs) c) (let is = Each-among (IsBucketOf shape p) xs (last_or 0 xs) buckets_before (among_last xs e.1) in let f = is.3 in omega (arith, f))))
  ]

  records_kept : (v : Words) (ys : List ℕ) → AreBuckets (IsBucketOf shape p) ys → SameRecords shape.cells (view p before) xs (view p (log_words shape v)) ys →
      SameRecords shape.cells before (has.chains p) (log_words shape v) ys
  records_kept v ys by same r = subst (λ c. IsRecordOf shape.cells ys (log_words shape v) r ↔ IsRecordOf shape.cells c before r) chain_is (
    (λ h. (view_records shape p before xs buckets_before r).0 ((same r).0 ((view_records shape p (log_words shape v) ys by r).1 h))),
    (λ h. (view_records shape p (log_words shape v) ys by r).0 ((same r).1 ((view_records shape p before xs buckets_before r).1 h))),
  )

  records_added : (v : Words) (ys : List ℕ) (news : List Record) → AreBuckets (IsBucketOf shape p) ys → AddsRecords shape.cells (view p before) xs (view p (log_words shape v)) ys news →
      AddsRecords shape.cells before (has.chains p) (log_words shape v) ys news
  records_added v ys news by same x = subst (λ c. IsRecordOf shape.cells ys (log_words shape v) x ↔ (IsRecordOf shape.cells c before x ⊎ IsAmong news x)) chain_is (
    (λ h. elim ((same x).0 ((view_records shape p (log_words shape v) ys by x).1 h)) [ inl k ↦ inl ((view_records shape p before xs buckets_before x).0 k) | inr e ↦ inr e ]),
    (λ h. (view_records shape p (log_words shape v) ys by x).0 ((same x).1 (elim h [ inl k ↦ inl ((view_records shape p before xs buckets_before x).1 k) | inr e ↦ inr e ]))),
  )

  kept_state : (k : ℕ) (v : Words) → Reached k v → KeepsLog shape p (view p before) xs (view p (log_words shape v)) → HasState shape v (with_heap s (heap_words shape v))
  kept_state k v h keeps =
      let buckets = chain_is_buckets shape p (view p (log_words shape v)) keeps.chain keeps.list in
      part_kept shape ok z v s p inside has (same k v h) keeps.chain (list_of_view shape p (log_words shape v) keeps.chain keeps.list keeps.to_remove)
      (records_kept v keeps.chain buckets keeps.records)
      (sym (view_room shape p (log_words shape v) keeps.chain buckets) ∙ keeps.room ∙ room_before)

  pub state_waits : (k : ℕ) (v : Words) → k + 7 ≤ length (region_bucket shape p node tail records) → Reached k v → HasState shape v (with_heap s (heap_words shape v))
  state_waits k v short h = kept_state k v h (view_waits shape ok p inside before (log_words shape v) xs node tail records can (λ a. a < heap shape) k below_heap short (log_reached k v h))

  abbrev fallen : ℕ
  fallen = free_cells shape before xs + length (bucket_records node records)

  -- the room that is left in the partition
  left : (v : Words) → AddsAll shape p (view p before) xs (bucket_records node records) (view p (log_words shape v)) → (n : ℕ) × (n + fallen ≡ s.room p)
  left v adds =
      let here : s.room p ≡ room_of shape (view p before) p xs = has.room p inside ∙ sym room_before in
      let room = adds.room in
      let free = free_same in
      (room_of shape (view p (log_words shape v)) p adds.chain, omega (arith, here, room, free))

  module _ (later : Log) (gains : GainsAll s.log (bucket_records node records) later) where
    gained_state : (k : ℕ) (v : Words) → Reached k v → AddsAll shape p (view p before) xs (bucket_records node records) (view p (log_words shape v)) →
        HasState shape v (with_heap (behind p (free_cells shape before xs) s (bucket_records node records) later) (heap_words shape v))
    unfolding left
    gained_state k v h adds =
        let buckets = chain_is_buckets shape p (view p (log_words shape v)) adds.chain adds.list in
        let n = left v adds in
        let here = falls_here p fallen s.room in
        let sum = n.1 in
        let is : falls p fallen s.room p ≡ n.0 = omega (arith, here, sum) in
        part_gains shape ok z v s p inside has (same k v h) adds.chain (list_of_view shape p (log_words shape v) adds.chain adds.list adds.to_remove)
        (bucket_records node records) later (falls p fallen s.room) gains
        (records_added v adds.chain (bucket_records node records) buckets adds.records)
        (is ∙ view_room shape p (log_words shape v) adds.chain buckets)
        (falls_elsewhere p fallen s.room)

    pub state_images : (k : ℕ) (v : Words) → Reached k v → HasState shape v (with_heap s (heap_words shape v))
        ⊎ HasState shape v (with_heap (behind p (free_cells shape before xs) s (bucket_records node records) later) (heap_words shape v))
    state_images k v h = elim (view_images shape ok p inside before (log_words shape v) xs node tail records can (λ a. a < heap shape) k below_heap (log_reached k v h))
        [ inl keeps ↦ inl (kept_state k v h keeps) | inr adds ↦ inr (gained_state k v h adds) ]

    pub state_stands : (k : ℕ) (v : Words) → length (region_bucket shape p node tail records) ≤ k + 5 → Reached k v →
        HasState shape v (with_heap (behind p (free_cells shape before xs) s (bucket_records node records) later) (heap_words shape v))
    state_stands k v far h = gained_state k v h (view_stands shape ok p inside before (log_words shape v) xs node tail records can (λ a. a < heap shape) k below_heap far (log_reached k v h))

    pub bucket_leads : LeadsTo shape z s (behind p (free_cells shape before xs) s (bucket_records node records) later) (region_bucket shape p node tail records)
    bucket_leads = record { images = state_images; last = λ v h. state_stands (length (region_bucket shape p node tail records)) v (omega arith) h }

  -- the words behind the whole plan
  pub ended : Words
  ended = (progress_at z (region_bucket shape p node tail records) (length (region_bucket shape p node tail records))).durable

  pub ended_is : (advance_all (start z) (region_bucket shape p node tail records)).durable ≡ ended
  unfolding ended
  ended_is =
      let all : take (length (region_bucket shape p node tail records)) (region_bucket shape p node tail records) ≡ region_bucket shape p node tail records =
      take_all (length (region_bucket shape p node tail records)) (region_bucket shape p node tail records) (omega arith) in
      sym (ap (λ es. (advance_all (start z) es).durable) all)

  pub ended_reached : Reached (length (region_bucket shape p node tail records)) ended
  unfolding ended
  ended_reached = λ a m. inl refl

  pub rests_behind : IsAtRest shape p (view p (log_words shape ended)) (xs ++ node ∷ [])
  rests_behind = view_rests shape ok p inside before (log_words shape ended) xs node tail records can (λ a. a < heap shape) below_heap
      (log_reached (length (region_bucket shape p node tail records)) ended ended_reached)

  -- and what they make of the partition's view
  pub adds_behind : AddsAll shape p (view p before) xs (bucket_records node records) (view p (log_words shape ended))
  adds_behind = view_stands shape ok p inside before (log_words shape ended) xs node tail records can (λ a. a < heap shape) (length (region_bucket shape p node tail records)) below_heap (omega arith)
      (log_reached (length (region_bucket shape p node tail records)) ended ended_reached)

  -- a full bucket has no free cell
  pub full_behind : length records ≡ shape.cells → free_cells shape (log_words shape ended) (xs ++ node ∷ []) ≡ 0
  full_behind full =
      let above : 32 ≤ node = bucket_above shape p node can.is_bucket in
      let off : (node == 0) ≡ false = no_zero node above in
      let opened = view_opens shape ok p inside before (log_words shape ended) xs node tail records can (λ a. a < heap shape) below_heap
      (log_reached (length (region_bucket shape p node tail records)) ended ended_reached) in
      subst (λ b. cond (b == 0) 0 (closed_cells (log_words shape ended) b shape.cells) ≡ 0) (sym (last-push 0 xs node))
      (ap (λ t. cond t 0 (closed_cells (log_words shape ended) node shape.cells)) off
      ∙ closed_none (log_words shape ended) node shape.cells (λ c lt z. opened c (omega (arith, lt, full)) (view_behind p (log_words shape ended) (cell_address node c) (omega (arith, above)) ∙ z)))

  pub bucket_takes_room : FallsBy p (free_cells shape before xs + length records) s.room (falls p (free_cells shape before xs + length records) s.room)
  bucket_takes_room =
      let n = left ended adds_behind in
      let sum = n.1 in
      let size = length-records_from node 0 records in
      let here = falls_here p (free_cells shape before xs + length records) s.room in
      record { here = omega (arith, sum, size, here); elsewhere = falls_elsewhere p (free_cells shape before xs + length records) s.room }
