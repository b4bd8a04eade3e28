-- The removal of a closed bucket in the form of states.
use Rattle.std.proofs.Common.{◌≡◌, ◌≢◌, ◌⊎◌, ◌↔◌, inl, inr, ℕ, ◌+◌, ◌-◌, ◌*◌, ◌<◌, ◌≤◌, ◌==◌, true, false, cond, List, [], ◌∷◌, ◌++◌, length, refl, ap, sym, ◌∙◌, arith, subst, length-append}
use Rattle.std.proofs.lemmas.Bool.Decides.{nat_tests}
use Rattle.persist_model.specs.Region.{Words}
use Rattle.persist_model.specs.Progress.{Wrote, start, Reaches}
use Rattle.persist_model.specs.Runs.{progress_at}
use Rattle.persist_model.specs.Records.{Record, IsAmong}
use Rattle.persist_model.specs.Shape.{Shape, IsBucketOf, heap, log_words, heap_words, count_buckets, list_words}
use Rattle.persist_model.specs.Chain.{view, out_address, last_or, AreBuckets}
use Rattle.persist_model.specs.ImageRecords.{cell_address, record_at, IsRecordOf}
use Rattle.persist_model.specs.State.{State}
use Rattle.persist_model.specs.Sound.{IsListOf, IsClosedBucket, closed_cells, HasState, room_of}
use Rattle.persist_model.proofs.Projecting.{AreAway-take, IsFixed-start, IsFixed-aways, Reaches-fixed}
use Rattle.log_laws.specs.Recovering.{with_heap}
use Rattle.log_laws.proofs.Views.{AreStoresOn, AreStoresOn-map, AreStoresOn-out, AreAway-stores, view_reaches, view_behind, out_cases}
use Rattle.atomic_list.specs.declared.plans.Remove.{Remove}
use Rattle.atomic_list.specs.Plans.{removal}
use Rattle.atomic_list.specs.Rules.{IsAtRest, IsList, at_rest, IsListWord}
use Rattle.atomic_list.specs.Removal.{CanRemove, removed}
use Rattle.atomic_list.specs.Views.{IsListWordOrGate}
use Rattle.atomic_list.proofs.Agreeing.{lists_agree}
use Rattle.atomic_list.proofs.Closings.{removed_stays_closed, list_from_view}
use Rattle.atomic_list.proofs.ListChains.{list_has_chain}
use Rattle.atomic_list.proofs.Parts.{whole_bucket_fits}
use Rattle.atomic_list.proofs.Removals.{removal_images, removal_is_on_list, removal_ends}
use Rattle.atomic_list.proofs.RulesToCases.{list_of_rules}
use Rattle.atomic_list.proofs.Unique.{chain_is_one}
use Rattle.region_layout.specs.Layout.{IsAllowed}
use Rattle.bucket_log.specs.Words.{IsLogWord, IsPartWord, SameRecords}
use Rattle.bucket_log.proofs.Addresses.{list_word_is_no_cell, list_word_is_log_word, cell_word_is_log_word}
use Rattle.bucket_log.proofs.Appended.{AreOnLog-stores, AreDurable-out, inside_log, log_reaches}
use Rattle.bucket_log.proofs.AppendImages.{Each-among, among_last}
use Rattle.bucket_log.proofs.ListFacts.{list_plan_stores, chain_few}
use Rattle.bucket_log.proofs.Partitions.{few_parts, log_word_out, log_word_own, part_word_below, registers_below}
use Rattle.bucket_log.proofs.PartStates.{part_kept, part_with_room}
use Rattle.bucket_log.proofs.RecordSets.{same_cell}
use Rattle.bucket_log.proofs.Rooms.{closed_same, room-last, room_same}
use Rattle.persist_model.proofs.Among.{among_left, among_right, among_append}
use Rattle.log_clearing.specs.Removals.{region_removal, more_room, with_room, IsDrop, ReadRemovalsMayBeMade, RemovalsAreStates, RoomKeeps}

-- ---- lists

-- what is in a list with n in the middle, and without it
among_wider : (front rest : List ℕ) (n b : ℕ) → IsAmong (front ++ rest) b → IsAmong (front ++ n ∷ rest) b
among_wider front rest n b m = elim (among_append front rest b m) [
  | inl k ↦ among_left front (n ∷ rest) b k
  | inr k ↦ among_right front (n ∷ rest) b (inr k)
]

among_but : (front rest : List ℕ) (n b : ℕ) → IsAmong (front ++ n ∷ rest) b → (b ≡ n) ⊎ IsAmong (front ++ rest) b
among_but front rest n b m = elim (among_append front (n ∷ rest) b m) [
  | inl k ↦ inr (among_left front rest b k)
  | inr k ↦ elim k [ inl e ↦ inl e | inr j ↦ inr (among_right front rest b j) ]
]

last_of_append : (d : ℕ) (front : List ℕ) (x : ℕ) (xs : List ℕ) → last_or d (front ++ x ∷ xs) ≡ last_or x xs
last_of_append d [] x xs = refl
last_of_append d (y ∷ front) x xs = last_of_append y front x xs

more_here : (p cells : ℕ) (room : ℕ → ℕ) → more_room p cells room p ≡ room p + cells
more_here p cells room = let on : (p == p) ≡ true = grind (arith, nat_tests) in ap (λ t. cond t (room p + cells) (room p)) on

more_elsewhere : (p cells : ℕ) (room : ℕ → ℕ) (q : ℕ) → q ≢ p → more_room p cells room q ≡ room q
more_elsewhere p cells room q ne = let off : (q == p) ≡ false = grind (arith, nat_tests, ne) in ap (λ t. cond t (room q + cells) (room q)) off

-- a bucket less in the chain is its cells more room
one_less : (k a n : ℕ) → n < a → k * (a - n) ≡ k * (a - (n + 1)) + k
one_less k a n lt = let e : a - n ≡ (a - (n + 1)) + 1 = omega arith in rw e (omega arith)

-- ---- the words of a list in the region

-- a is one of the partition's five list words, or a link of a bucket of it
abbrev IsRegionListWord : Shape → ℕ → ℕ → Type 0
IsRegionListWord shape p a = ((list_words p ≤ a) × (a ≤ list_words p + 4)) ⊎ (b : ℕ) × IsBucketOf shape p b × ((a ≡ b) ⊎ (a ≡ b + 1))

bucket_above : (shape : Shape) (p b : ℕ) → IsBucketOf shape p b → 32 ≤ b
bucket_above shape p b is = let e = is.3 in omega (arith, e)

list_word_out : (shape : Shape) (p a : ℕ) → IsListWord shape p a → IsRegionListWord shape p (out_address p a)
list_word_out shape p a (inl h) = elim (out_cases p a) [
  | inl k ↦ (let e = k.2 in let low = h.0 in let high = h.1 in inl (omega (arith, e, low), omega (arith, e, low, high)))
  | inr k ↦ (let low = h.0 in let high = h.1 in elim k.0 [ inl z ↦ absurd (omega (arith, z, low)) | inr z ↦ absurd (omega (arith, z, high)) ])
]
list_word_out shape p a (inr h) =
    let above = bucket_above shape p h.0 h.1 in
    let behind : 12 < a = elim h.2 [ inl e ↦ omega (arith, e, above) | inr e ↦ omega (arith, e, above) ] in
    inr (
      h.0,
      h.1,
      elim (out_cases p a) [
        | inl k ↦ (let high = k.1 in absurd (omega (arith, high, behind)))
        | inr k ↦ elim h.2 [ inl e ↦ inl (k.1 ∙ e) | inr e ↦ inr (k.1 ∙ e) ]
      ],
    )

region_list_word_in_part : (shape : Shape) (p a : ℕ) → IsRegionListWord shape p a → IsPartWord shape p a
region_list_word_in_part shape p a (inl h) = inl h
region_list_word_in_part shape p a (inr h) = inr (
  h.0,
  h.1,
  elim h.2 [ inl e ↦ omega (arith, e) | inr e ↦ omega (arith, e) ],
  elim h.2 [ inl e ↦ omega (arith, e) | inr e ↦ omega (arith, e) ],
)

-- a list word or a gate is a log word
log_word_of : (shape : Shape) (p a : ℕ) → IsListWordOrGate shape p a → IsLogWord shape p a
log_word_of shape p a (inl m) = list_word_is_log_word shape p a m
log_word_of shape p a (inr k) = let lt = k.3 in let e = k.4 in cell_word_is_log_word shape p k.0 k.2 a k.1 lt (omega (arith, e)) (omega (arith, e))

-- ---- one removal

module _ (shape : Shape) (ok : IsAllowed shape) (p : ℕ) (inside : p < shape.partitions) (z : Words) (s : State) (has : HasState shape z s) (front : List ℕ) (x : ℕ) (xs : List ℕ) (r : Remove)
    (can : CanRemove shape p (view p (log_words shape z)) front (x ∷ xs) r) (closed : IsClosedBucket shape (view p (log_words shape z)) r.node) where
  abbrev before : Words
  before = log_words shape z

  abbrev chain : List ℕ
  chain = front ++ r.node ∷ x ∷ xs

  abbrev shorter : List ℕ
  shorter = front ++ x ∷ xs

  few : p < 3
  few = few_parts shape p ok inside

  view_stores : AreStoresOn (IsListWord shape p) (removal r)
  view_stores = list_plan_stores shape p (removal r) (removal_is_on_list shape p (view p before) front (x ∷ xs) r can)

  region_stores : AreStoresOn (IsRegionListWord shape p) (region_removal p r)
  region_stores = AreStoresOn-out (IsListWord shape p) (IsRegionListWord shape p) p (list_word_out shape p) (removal r) view_stores

  buckets : AreBuckets (IsBucketOf shape p) chain
  buckets = can.at_rest.buckets

  chain_bucket : (b : ℕ) → IsAmong chain b → IsBucketOf shape p b
  chain_bucket b m = Each-among (IsBucketOf shape p) chain b buckets m

  chain_is : chain ≡ has.chains p
  chain_is = chain_is_one (view p before) chain (has.chains p) (list_has_chain shape p (view p before) chain (at_rest can.at_rest))
      (list_has_chain shape p (view p before) (has.chains p) (list_of_rules shape p (view p before) (has.chains p) (has.lists p inside).rules))

  below_heap : (a : ℕ) → IsRegionListWord shape p a → a < heap shape
  below_heap a m = part_word_below shape p a ok inside (region_list_word_in_part shape p a m)

  node_among : IsAmong chain r.node
  node_among = among_right front (r.node ∷ x ∷ xs) r.node (inl refl)

  module _ (k : ℕ) (v : Words) (h : Reaches (λ a. a < heap shape) (progress_at z (region_removal p r) k) v) where
    abbrev later : Words
    later = log_words shape v

    log_reached : Reaches (λ a. a < heap shape) (progress_at before (region_removal p r) k) later
    log_reached = log_reaches shape z v (region_removal p r) k h

    view_reached : Reaches (IsListWordOrGate shape p) (removed (view p before) r k) (view p later)
    view_reached = view_reaches (λ a. a < heap shape) (IsListWordOrGate shape p) p k before later (removal r) few
        (λ a m. log_word_own shape p a (log_word_of shape p a m))
        (λ a m. part_word_below shape p (out_address p a) ok inside (log_word_out shape p a (log_word_of shape p a m)))
        (AreStoresOn-map (IsListWord shape p) (IsListWordOrGate shape p) (λ a m. inl m) (removal r) view_stores) log_reached

    list_reached : Reaches (IsListWord shape p) (removed (view p before) r k) (view p later)
    list_reached a m = view_reached a (inl m)

    -- no other words are stored to
    others : (a : ℕ) → a < heap shape → (IsRegionListWord shape p a → ⊥) → later a ≡ before a
    others a lt off = Reaches-fixed (λ b. b < heap shape) (progress_at before (region_removal p r) k) later a (before a) lt
        (IsFixed-aways (start before) a (before a) _
        (AreAway-take a k (region_removal p r) (AreAway-stores (IsRegionListWord shape p) a (region_removal p r) (λ b n e. off (subst (IsRegionListWord shape p) e n)) region_stores))
        (IsFixed-start before a)) log_reached

    same : (a : ℕ) → a < heap shape → (IsPartWord shape p a → ⊥) → v a ≡ z a
    same a lt off = sym (inside_log shape v a lt) ∙ others a lt (λ m. off (region_list_word_in_part shape p a m)) ∙ inside_log shape z a lt

    cell_word : (b a : ℕ) → IsBucketOf shape p b → b + 8 ≤ a → a < b + (8 + 8 * shape.cells) → later a ≡ before a
    cell_word b a is low high =
        let fits = whole_bucket_fits shape p b inside is in
        let above = bucket_above shape p b is in
        others a (omega (arith, fits, high)) (λ m. elim m [
          | inl k ↦ (let to = registers_below p a few k.1 in omega (arith, to, above, low))
          | inr k ↦ list_word_is_no_cell shape p p a b (inr k) is low high
        ])

    gate_same : (b c : ℕ) → IsBucketOf shape p b → c < shape.cells → later (cell_address b c) ≡ before (cell_address b c)
    gate_same b c is below = cell_word b (cell_address b c) is (omega arith) (omega (arith, below))

    cell_is : (b c : ℕ) → IsBucketOf shape p b → c < shape.cells → record_at later (cell_address b c) ≡ record_at before (cell_address b c)
    cell_is b c is below = same_cell later before (cell_address b c) (λ a low high. cell_word b a is (omega (arith, low)) (omega (arith, high, below)))

    list_later : (ys : List ℕ) → IsList shape p (view p later) ys → IsListOf shape p later ys
    list_later ys list = list_from_view shape p later ys (list, removed_stays_closed shape p (view p before) (view p later) front (x ∷ xs) r k can closed view_reached)

    -- ---- with the bucket

    kept : IsList shape p (view p later) chain → HasState shape v (with_heap s (heap_words shape v))
    kept list = part_kept shape ok z v s p inside has same chain (list_later chain list)
        (λ y. subst (λ c. IsRecordOf shape.cells chain later y ↔ IsRecordOf shape.cells c before y) chain_is (
          (λ m. record {
            bucket = m.bucket;
            is_among = m.is_among;
            place = m.place;
            below = m.below;
            is = m.is ∙ cell_is m.bucket m.place (chain_bucket m.bucket m.is_among) m.below;
            gate = m.gate;
          }),
          (λ m. record {
            bucket = m.bucket;
            is_among = m.is_among;
            place = m.place;
            below = m.below;
            is = m.is ∙ sym (cell_is m.bucket m.place (chain_bucket m.bucket m.is_among) m.below);
            gate = m.gate;
          }),
        ))
        (room_same shape later before p chain (λ c below ne. gate_same (last_or 0 chain) c (chain_bucket (last_or 0 chain) (among_last chain ne)) below)
        ∙ ap (room_of shape before p) chain_is)

    -- ---- without it

    dropped_records : SameRecords shape.cells before (has.chains p) later shorter
    dropped_records y = subst (λ c. IsRecordOf shape.cells shorter later y ↔ IsRecordOf shape.cells c before y) chain_is (
      (λ m. (let wide = among_wider front (x ∷ xs) r.node m.bucket m.is_among in record {
        bucket = m.bucket;
        is_among = wide;
        place = m.place;
        below = m.below;
        is = m.is ∙ cell_is m.bucket m.place (chain_bucket m.bucket wide) m.below;
        gate = m.gate;
      })),
      (λ m. elim (among_but front (x ∷ xs) r.node m.bucket m.is_among) [
        | inl e ↦ absurd (m.gate (ap (λ (q : Record). q.lsn) m.is ∙ node_gate m.bucket m.place e m.below))
        | inr j ↦ record {
          bucket = m.bucket;
          is_among = j;
          place = m.place;
          below = m.below;
          is = m.is ∙ sym (cell_is m.bucket m.place (chain_bucket m.bucket m.is_among) m.below);
          gate = m.gate;
        }
      ]),
    )
      where
        node_gate : (b c : ℕ) → b ≡ r.node → c < shape.cells → before (cell_address b c) ≡ 0
        node_gate b c e below =
            let above = bucket_above shape p r.node (chain_bucket r.node node_among) in
            ap (λ n. before (cell_address n c)) e ∙ sym (view_behind p before (cell_address r.node c) (omega (arith, above))) ∙ closed c below

    last_bucket : IsBucketOf shape p (last_or x xs)
    last_bucket = chain_bucket (last_or x xs) (among_right front (r.node ∷ x ∷ xs) (last_or x xs) (inr (among_of x xs)))
      where
        among_of : (y : ℕ) (ys : List ℕ) → IsAmong (y ∷ ys) (last_or y ys)
        among_of y [] = inl refl
        among_of y (n ∷ ys) = inr (among_of n ys)

    dropped_room : room_of shape later p shorter ≡ room_of shape before p chain + shape.cells
    dropped_room =
        let last_short : last_or 0 shorter ≡ last_or x xs = last_of_append 0 front x xs in
        let last_long : last_or 0 chain ≡ last_or x xs = last_of_append 0 front r.node (x ∷ xs) in
        let above = bucket_above shape p (last_or x xs) last_bucket in
        let short = room-last shape later p shorter (λ e. absurd (omega (arith, e, last_short, above))) in
        let long = room-last shape before p chain (λ e. absurd (omega (arith, e, last_long, above))) in
        let a : closed_cells later (last_or 0 shorter) shape.cells ≡ closed_cells later (last_or x xs) shape.cells = ap (λ n. closed_cells later n shape.cells) last_short in
        let b : closed_cells before (last_or 0 chain) shape.cells ≡ closed_cells before (last_or x xs) shape.cells = ap (λ n. closed_cells before n shape.cells) last_long in
        let c = closed_same later before (last_or x xs) shape.cells (λ i below. gate_same (last_or x xs) i last_bucket below) in
        let few_long : length chain ≤ count_buckets shape p = chain_few shape p (view p before) chain inside (at_rest can.at_rest) in
        let l : length chain ≡ length front + length (r.node ∷ x ∷ xs) = length-append front (r.node ∷ x ∷ xs) in
        let m : length shorter ≡ length front + length (x ∷ xs) = length-append front (x ∷ xs) in
        let n : length chain ≡ length shorter + 1 = omega (arith, l, m) in
        let step = one_less shape.cells (count_buckets shape p) (length shorter) (omega (arith, few_long, n)) in
        let rows : shape.cells * (count_buckets shape p - (length shorter + 1)) ≡ shape.cells * (count_buckets shape p - length chain) =
        ap (λ i. shape.cells * (count_buckets shape p - i)) (sym n) in
        omega (arith, short, long, a, b, c, step, rows)

    dropped : IsList shape p (view p later) shorter → HasState shape v (with_room s (more_room p shape.cells s.room) (heap_words shape v))
    dropped list = part_with_room shape ok z v s p inside has same shorter (list_later shorter list) (more_room p shape.cells s.room) dropped_records
        (more_here p shape.cells s.room ∙ ap (λ n. n + shape.cells) (has.room p inside ∙ ap (room_of shape before p) (sym chain_is)) ∙ sym dropped_room)
        (more_elsewhere p shape.cells s.room)

    images : HasState shape v (with_heap s (heap_words shape v)) ⊎ HasState shape v (with_room s (more_room p shape.cells s.room) (heap_words shape v))
    images = elim (removal_images shape p (view p before) front (x ∷ xs) r can (view p later) k list_reached) [ inl list ↦ inl (kept list) | inr list ↦ inr (dropped list) ]

  last : (v : Words) → Reaches (λ a. a < heap shape) (progress_at z (region_removal p r) 7) v → HasState shape v (with_room s (more_room p shape.cells s.room) (heap_words shape v))
  last v h =
      let leaves = removal_ends shape p (view p before) front (x ∷ xs) r can in
      dropped 7 v h (lists_agree shape p (removed (view p before) r 7).durable (view p (log_words shape v)) shorter
      (λ a m. elim (list_reached 7 v h a m) [
        | inl e ↦ e
        | inr wrote ↦ absurd (subst (λ ws. Wrote ws a (view p (log_words shape v) a)) leaves.nothing_pending wrote)
      ]) (at_rest leaves.at_rest))

  pub is_drop : IsDrop shape z s (more_room p shape.cells s.room) (region_removal p r)
  is_drop = record {
    on_log = AreOnLog-stores shape (IsRegionListWord shape p) below_heap (region_removal p r) region_stores;
    durable = AreDurable-out p (removal r) (tt, (tt, (tt, (tt, (tt, (tt, (tt, tt)))))));
    images = λ k v h. images k v h;
    last = λ v h. last v h;
  }

-- ---- the laws

pub removals_are_states : RemovalsAreStates
removals_are_states shape p z s r ok inside has can = by can.rest can.can_remove
  where
    by : (rest : List ℕ) → CanRemove shape p (view p (log_words shape z)) can.front rest r → IsDrop shape z s (more_room p shape.cells s.room) (region_removal p r)
    by [] k = absurd (can.not_last k.next)
    by (x ∷ xs) k = is_drop shape ok p inside z s has can.front x xs r k can.closed

pub read_removals_may_be_made : ReadRemovalsMayBeMade
read_removals_may_be_made shape p w chain r rest h = record {
  front = h.front;
  rest = h.rest;
  can_remove = record { at_rest = subst (IsAtRest shape p w) h.chain_is rest; prev = h.prev; next = h.next };
  not_last = h.not_last;
  closed = h.closed;
}

pub room_keeps : RoomKeeps
room_keeps shape s room h sound more = (
  record {
    newest_first = sound.newest_first;
    gates = sound.gates;
    formed = sound.formed;
    order = sound.order;
    room = λ p lt. (let was = sound.room p lt in let least = more p in let undo = was.undo in record {
      undo = omega (arith, undo, least);
      checkpoint = λ first two some. (let kept = was.checkpoint first two some in omega (arith, kept, least));
    });
    numbers = sound.numbers;
  },
  λ a v st. st,
)
