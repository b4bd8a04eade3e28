-- A bucket that is being taken out is free in the newest words once its removal has begun.
use Rattle.std.proofs.Common.{◌≡◌, inl, inr, ℕ, suc, ◌+◌, ◌-◌, ◌*◌, ◌<◌, ◌≤◌, List, [], ◌∷◌, ◌++◌, length, take, refl, sym, ap, ◌∙◌, subst, arith, length-append}
use Rattle.std.proofs.lemmas.Bool.Decides.{nat_tests}
use Rattle.persist_model.specs.Region.{Words}
use Rattle.persist_model.specs.Progress.{Reaches, start}
use Rattle.persist_model.specs.Runs.{progress_at}
use Rattle.persist_model.specs.Records.{IsAmong}
use Rattle.persist_model.specs.Shape.{Shape, IsBucketOf, heap, log_words, count_buckets}
use Rattle.persist_model.specs.Chain.{HEAD, view, out_address, word_behind, word_before, AreBuckets, first_or, last_or}
use Rattle.persist_model.specs.ImageRecords.{cell_address}
use Rattle.persist_model.specs.State.{State}
use Rattle.persist_model.specs.Sound.{HasState, closed_cells, room_of}
use Rattle.persist_model.proofs.Projecting.{AreAway-take, IsFixed-start, IsFixed-aways, Reaches-fixed}
use Rattle.log_laws.proofs.Views.{AreStoresOn, AreStoresOn-map, AreAway-stores, view_reaches}
use Rattle.atomic_list.specs.declared.plans.Remove.{Remove}
use Rattle.atomic_list.specs.Plans.{removal}
use Rattle.atomic_list.specs.Rules.{IsRemoving, IsList, at_rest, IsListWord}
use Rattle.atomic_list.specs.Removal.{CanRemove, removed}
use Rattle.atomic_list.specs.Views.{IsListWordOrGate}
use Rattle.atomic_list.proofs.Cases.{no_bucket_is_0}
use Rattle.atomic_list.proofs.Chains.{word_behind-last}
use Rattle.atomic_list.proofs.Removals.{unlinking, unlinking_at, word_before-first, removal_is_on_list}
use Rattle.atomic_list.proofs.Removing.{back_word, removing-started}
use Rattle.atomic_list.proofs.Splits.{Each-left, Each-right}
use Rattle.region_layout.specs.Layout.{IsAllowed}
use Rattle.bucket_log.specs.Words.{IsLogWord}
use Rattle.bucket_log.proofs.Addresses.{list_word_is_no_cell, list_word_is_log_word, cell_word_is_log_word}
use Rattle.bucket_log.proofs.Appended.{log_reaches}
use Rattle.bucket_log.proofs.AppendImages.{Each-among}
use Rattle.bucket_log.proofs.ListFacts.{list_plan_stores, chain_few}
use Rattle.bucket_log.proofs.Partitions.{few_parts, log_word_out, log_word_own, part_word_below}
use Rattle.bucket_log.proofs.Rooms.{closed_same, room-last}
use Rattle.persist_model.proofs.Among.{among_right}
use Rattle.log_clearing.specs.Removals.{CanDrop, region_removal}
use Rattle.log_keeper.specs.Rooms.{IsRoomAt}
use Rattle.log_keeper.proofs.Rooms.{room_is_one, room_of_state}

-- ---- the list

module _ (shape : Shape) (p : ℕ) (w : Words) (front rest : List ℕ) (r : Remove) (can : CanRemove shape p w front rest r) where
  -- TO_REMOVE names the bucket
  abbrev marked : Words
  marked = (removed w r 2).durable

  marked_is : IsRemoving shape p (removed w r 2).durable front r.node rest
  marked_is = removing-started shape p w (removed w r 2).durable front r.node rest can.at_rest (λ a m ne. grind (arith, nat_tests)) refl

  fronts : AreBuckets (IsBucketOf shape p) front
  fronts = Each-left (IsBucketOf shape p) front (r.node ∷ rest) can.at_rest.buckets

  rests : AreBuckets (IsBucketOf shape p) rest
  rests = (Each-right (IsBucketOf shape p) front (r.node ∷ rest) can.at_rest.buckets).1

  link_is : word_behind r.prev ≡ last_or HEAD front
  link_is = ap word_behind can.prev ∙ word_behind-last front (no_bucket_is_0 shape p front fronts)

  back_is : word_before r.next ≡ back_word rest
  back_is = ap word_before can.next ∙ word_before-first shape p rest rests

  plan_is : unlinking (word_behind r.prev) (word_before r.next) r.prev r.next ≡ unlinking (last_or HEAD front) (back_word rest) (last_or 0 front) (first_or 0 rest)
  plan_is = λ i. unlinking (link_is i) (back_is i) (can.prev i) (can.next i)

  -- behind the first two events each image has the chain without it
  pub out_behind : (v : Words) (k : ℕ) → Reaches (IsListWord shape p) (removed w r (suc (suc k))) v → IsList shape p v (front ++ rest)
  out_behind v k h = unlinking_at shape p (removed w r 2).durable v front r.node rest marked_is k
      (subst (λ plan. Reaches (IsListWord shape p) (progress_at (removed w r 2).durable plan k) v) plan_is h)

-- ---- the room

last_of_append : (d : ℕ) (front : List ℕ) (x : ℕ) (xs : List ℕ) → last_or d (front ++ x ∷ xs) ≡ last_or x xs
last_of_append d [] x xs = refl
last_of_append d (y ∷ front) x xs = last_of_append y front x xs

among_of : (y : ℕ) (ys : List ℕ) → IsAmong (y ∷ ys) (last_or y ys)
among_of y [] = inl refl
among_of y (n ∷ ys) = inr (among_of n ys)

-- a bucket less in the chain is its cells more room
one_less : (k a n : ℕ) → n < a → k * (a - n) ≡ k * (a - (n + 1)) + k
one_less k a n lt = let e : a - n ≡ (a - (n + 1)) + 1 = omega arith in rw e (omega arith)

log_word_of : (shape : Shape) (p a : ℕ) → IsListWordOrGate shape p a → IsLogWord shape p a
log_word_of shape p a (inl m) = list_word_is_log_word shape p a m
log_word_of shape p a (inr k) = let lt = k.3 in let e = k.4 in cell_word_is_log_word shape p k.0 k.2 a k.1 lt (omega (arith, e)) (omega (arith, e))

module _ (shape : Shape) (ok : IsAllowed shape) (p : ℕ) (inside : p < shape.partitions) (base : Words) (s : State) (has : HasState shape base s) (front : List ℕ) (x : ℕ) (xs : List ℕ) (r : Remove)
    (can : CanRemove shape p (view p (log_words shape base)) front (x ∷ xs) r) (there : Words) (k : ℕ)
    (h : Reaches (λ a. a < heap shape) (progress_at base (region_removal p r) (suc (suc k))) there) where
  abbrev before : Words
  before = view p (log_words shape base)

  abbrev later : Words
  later = view p (log_words shape there)

  view_stores : AreStoresOn (IsListWord shape p) (removal r)
  view_stores = list_plan_stores shape p (removal r) (removal_is_on_list shape p (view p (log_words shape base)) front (x ∷ xs) r can)

  view_reached : Reaches (IsListWordOrGate shape p) (removed (view p (log_words shape base)) r (suc (suc k))) (view p (log_words shape there))
  view_reached = view_reaches (λ a. a < heap shape) (IsListWordOrGate shape p) p (suc (suc k)) (log_words shape base) (log_words shape there) (removal r) (few_parts shape p ok inside)
      (λ a m. log_word_own shape p a (log_word_of shape p a m))
      (λ a m. part_word_below shape p (out_address p a) ok inside (log_word_out shape p a (log_word_of shape p a m)))
      (AreStoresOn-map (IsListWord shape p) (IsListWordOrGate shape p) (λ a m. inl m) (removal r) view_stores) (log_reaches shape base there (region_removal p r) (suc (suc k)) h)

  list_out : IsList shape p (view p (log_words shape there)) (front ++ x ∷ xs)
  list_out = out_behind shape p (view p (log_words shape base)) front (x ∷ xs) r can (view p (log_words shape there)) k (λ a m. view_reached a (inl m))

  -- no gate is stored to
  gate_same : (b c : ℕ) → IsBucketOf shape p b → c < shape.cells → later (cell_address b c) ≡ before (cell_address b c)
  gate_same b c is below = Reaches-fixed (IsListWordOrGate shape p) (removed before r (suc (suc k))) later (cell_address b c) (before (cell_address b c)) (inr (b, is, c, below, refl))
      (IsFixed-aways (start before) (cell_address b c) (before (cell_address b c)) (take (suc (suc k)) (removal r))
      (AreAway-take (cell_address b c) (suc (suc k)) (removal r) (AreAway-stores (IsListWord shape p) (cell_address b c) (removal r)
      (λ a n e. list_word_is_no_cell shape p p (cell_address b c) b (subst (IsListWord shape p) e n) is (omega arith) (omega (arith, below))) view_stores))
      (IsFixed-start before (cell_address b c))) view_reached

  last_bucket : IsBucketOf shape p (last_or x xs)
  last_bucket = Each-among (IsBucketOf shape p) (front ++ r.node ∷ x ∷ xs) (last_or x xs) can.at_rest.buckets (among_right front (r.node ∷ x ∷ xs) (last_or x xs) (inr (among_of x xs)))

  last_above : 32 ≤ last_or x xs
  last_above = let e = last_bucket.3 in omega (arith, e)

  room_more : room_of shape later p (front ++ x ∷ xs) ≡ room_of shape before p (front ++ r.node ∷ x ∷ xs) + shape.cells
  room_more =
      let chain : List ℕ = front ++ r.node ∷ x ∷ xs in
      let shorter : List ℕ = front ++ x ∷ xs in
      let above = last_above in
      let last_short : last_or 0 shorter ≡ last_or x xs = last_of_append 0 front x xs in
      let last_long : last_or 0 chain ≡ last_or x xs = last_of_append 0 front r.node (x ∷ xs) in
      let short = room-last shape later p shorter (λ e. absurd (omega (arith, e, last_short, above))) in
      let long = room-last shape before p chain (λ e. absurd (omega (arith, e, last_long, above))) in
      let a : closed_cells later (last_or 0 shorter) shape.cells ≡ closed_cells later (last_or x xs) shape.cells = ap (λ n. closed_cells later n shape.cells) last_short in
      let b : closed_cells before (last_or 0 chain) shape.cells ≡ closed_cells before (last_or x xs) shape.cells = ap (λ n. closed_cells before n shape.cells) last_long in
      let c = closed_same later before (last_or x xs) shape.cells (λ i below. gate_same (last_or x xs) i last_bucket below) in
      let few_long : length chain ≤ count_buckets shape p = chain_few shape p before chain inside (at_rest can.at_rest) in
      let l : length chain ≡ length front + length (r.node ∷ x ∷ xs) = length-append front (r.node ∷ x ∷ xs) in
      let m : length shorter ≡ length front + length (x ∷ xs) = length-append front (x ∷ xs) in
      let n : length chain ≡ length shorter + 1 = omega (arith, l, m) in
      let step = one_less shape.cells (count_buckets shape p) (length shorter) (omega (arith, few_long, n)) in
      let rows : shape.cells * (count_buckets shape p - (length shorter + 1)) ≡ shape.cells * (count_buckets shape p - length chain) =
      ap (λ i. shape.cells * (count_buckets shape p - i)) (sym n) in
      omega (arith, short, long, a, b, c, step, rows)

  room_was : room_of shape before p (front ++ r.node ∷ x ∷ xs) ≡ s.room p
  room_was = room_is_one shape p (room_of shape before p (front ++ r.node ∷ x ∷ xs)) (s.room p) base (front ++ r.node ∷ x ∷ xs, at_rest can.at_rest, refl) (room_of_state shape p base s inside has)

  room_out : IsRoomAt shape p there (s.room p + shape.cells)
  room_out = (front ++ x ∷ xs, list_out, room_more ∙ ap (λ n. n + shape.cells) room_was)

-- Behind the first two events of a removal each image has the room with it.
pub removal_out : (shape : Shape) (p : ℕ) (base there : Words) (s : State) (r : Remove) (k : ℕ) → IsAllowed shape → p < shape.partitions → HasState shape base s →
    CanDrop shape p (view p (log_words shape base)) r → Reaches (λ a. a < heap shape) (progress_at base (region_removal p r) (suc (suc k))) there → IsRoomAt shape p there (s.room p + shape.cells)
removal_out shape p base there s r k ok inside has can h = by can.rest can.can_remove
  where
    by : (rest : List ℕ) → CanRemove shape p (view p (log_words shape base)) can.front rest r → IsRoomAt shape p there (s.room p + shape.cells)
    by [] c = absurd (can.not_last c.next)
    by (x ∷ xs) c = room_out shape ok p inside base s has can.front x xs r c there k h
