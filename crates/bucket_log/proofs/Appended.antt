-- The append of a record in one partition of a region: what each image is, for its view and as a state.
use Rattle.std.proofs.Common.{◌≡◌, ◌⊎◌, ◌↔◌, inl, inr, ℕ, zero, suc, ◌+◌, ◌<◌, ◌≤◌, Bool, true, false, List, [], ◌∷◌, ◌++◌, map, take, length, Some, refl, sym, ap, subst, ◌∙◌, arith, append_assoc, nat_lt, if◌then◌else◌, cond}
use Rattle.std.specs.Prelude.{slice_get}
use Rattle.std.proofs.lemmas.Bool.Decides.{nat_tests}
use Rattle.std.proofs.lemmas.List.{take_all, map-append, length-map}
use Rattle.persist_model.specs.declared.event.Event.{Event}
use Rattle.persist_model.specs.declared.event.Event.TheVariants.{Store, PStore, WriteBack, Fence}
use Rattle.persist_model.specs.Region.{Words, Region}
use Rattle.persist_model.specs.Progress.{Progress, start, advance_all, Reaches, Wrote, IsDurable, Tracks, AreSettledAt}
use Rattle.persist_model.specs.Runs.{progress_at, Run}
use Rattle.persist_model.specs.Records.{Record, Log, IsAmong}
use Rattle.persist_model.specs.Shape.{Shape, IsBucketOf, heap, log_words, heap_words, part_of}
use Rattle.persist_model.specs.Chain.{view, out_address, out_event, last_or, AreBuckets}
use Rattle.persist_model.specs.ImageRecords.{cell_address, record_at, IsRecordOf}
use Rattle.persist_model.specs.Sound.{IsListOf, HasState, room_of}
use Rattle.persist_model.specs.State.{State}
use Rattle.persist_model.proofs.Tracking.{Reaches-image}
use Rattle.persist_model.proofs.Running.{Tracks-run}
use Rattle.persist_model.proofs.Projecting.{advance_all-append, AreAway-take, IsFixed-start, IsFixed-aways, Reaches-fixed, SameOn, SameOn-events, Reaches-same}
use Rattle.log_laws.specs.Recovering.{with_heap, IsOnLog, AreOnLog}
use Rattle.log_laws.specs.Parts.{AreDurable}
use Rattle.log_laws.specs.StateAppends.{IsAppend}
use Rattle.log_laws.specs.MoveRoom.{TakesCell}
use Rattle.log_laws.proofs.Views.{IsStoreOn, AreStoresOn, AreStoresOn-out, AreAway-stores, view_reaches, view_behind}
use Rattle.atomic_list.specs.Plans.{insertion}
use Rattle.atomic_list.specs.Rules.{IsAtRest, IsList, at_rest}
use Rattle.atomic_list.proofs.Cases.{chain_is_buckets}
use Rattle.atomic_list.proofs.CasesToRules.{rules_of_list}
use Rattle.atomic_list.proofs.RulesToCases.{list_of_rules}
use Rattle.atomic_list.proofs.ListChains.{list_has_chain}
use Rattle.atomic_list.proofs.Unique.{chain_is_one}
use Rattle.region_layout.specs.Layout.{IsAllowed}
use Rattle.bucket_log.specs.declared.append.Place.{Place}
use Rattle.bucket_log.specs.Words.{IsLogWord, IsPartWord, SameRecords, AddsRecord, KeepsLog, AddsToLog}
use Rattle.bucket_log.specs.Plans.{closing, body, insertion_of, append_plan}
use Rattle.bucket_log.specs.Places.{IsPlaceBy}
use Rattle.bucket_log.specs.Appends.{CanAppend, NextPlacesTake, KeepsOrAdds, region_append, chain_behind, EachAppendingImage, AppendEnds, EachImageOfAppends, AppendsEnd, AppendsLeaveChains}
use Rattle.bucket_log.specs.States.{less_room, AppendsAreStates, AppendsWait, AppendsTakeCell, Gains, with_log, LeadsTo, AppendsGain}
use Rattle.bucket_log.proofs.Partitions.{few_parts, log_word_out, log_word_own, part_word_below, part_of_cell}
use Rattle.bucket_log.proofs.RecordSets.{same_cell}
use Rattle.bucket_log.proofs.Rooms.{room_same}
use Rattle.bucket_log.proofs.PartStates.{less_here, less_elsewhere, part_kept, part_gained}
use Rattle.bucket_log.proofs.AppendImages.{Each-among, among_last, append_images, append_waits, append_end, append_rests, append_stores}

-- ---- the events

pub AreOnLog-stores : (shape : Shape) (A : ℕ → Type 0) → ((a : ℕ) → A a → a < heap shape) → (plan : List Event) → AreStoresOn A plan → AreOnLog shape plan
AreOnLog-stores shape A below [] on = tt
AreOnLog-stores shape A below (e ∷ plan) on = (of_event e on.0, AreOnLog-stores shape A below plan on.1)
  where
    of_event : (e : Event) → IsStoreOn A e → IsOnLog shape e
    of_event (Store a v) m = below a m
    of_event (PStore a v) m = below a m
    of_event (WriteBack a) m = below a m
    of_event Fence m = tt

AreDurable-append : (es fs : List Event) → AreDurable es → AreDurable fs → AreDurable (es ++ fs)
AreDurable-append [] fs h k = k
AreDurable-append (e ∷ es) fs h k = (h.0, AreDurable-append es fs h.1 k)

pub AreDurable-out : (p : ℕ) (es : List Event) → AreDurable es → AreDurable (map (out_event p) es)
AreDurable-out p [] h = tt
AreDurable-out p (e ∷ es) h = (of_event e h.0, AreDurable-out p es h.1)
  where
    of_event : (e : Event) → IsDurable e → IsDurable (out_event p e)
    of_event (Store a v) d = d
    of_event (PStore a v) d = tt
    of_event (WriteBack a) d = d
    of_event Fence d = tt

durable_at : (plan : List Event) → AreDurable plan → (k : ℕ) (e : Event) → slice_get plan k ≡ Some e → IsDurable e
durable_at [] h k e found = cc
durable_at (x ∷ plan) h zero e found = let same : x ≡ e = cc in subst IsDurable same h.0
durable_at (x ∷ plan) h (suc k) e found = durable_at plan h.1 k e found

closing_durable : (bucket n : ℕ) → AreDurable (closing bucket n)
closing_durable bucket zero = tt
closing_durable bucket (suc n) = AreDurable-append (closing bucket n) (PStore (cell_address bucket n) 0 ∷ []) (closing_durable bucket n) (tt, tt)

pub append_durable : (cells : ℕ) (place : Place) (r : Record) → AreDurable (append_plan cells place r)
append_durable cells place r = by place.fresh
  where
    by : (fresh : Bool) → AreDurable ((if fresh then closing place.bucket cells ++ insertion (insertion_of place) else []) ++ (body r ++ (PStore r.at r.lsn ∷ Fence ∷ [])))
    by true = AreDurable-append (closing place.bucket cells ++ insertion (insertion_of place)) (body r ++ (PStore r.at r.lsn ∷ Fence ∷ []))
        (AreDurable-append (closing place.bucket cells) (insertion (insertion_of place)) (closing_durable place.bucket cells)
        (tt, (tt, (tt, (tt, (tt, (tt, (tt, (tt, (tt, (tt, (tt, tt))))))))))))
        (tt, (tt, (tt, (tt, (tt, (tt, (tt, (tt, (tt, (tt, tt))))))))))
    by false = (tt, (tt, (tt, (tt, (tt, (tt, (tt, (tt, (tt, (tt, tt))))))))))

-- the append up to its last fence
abbrev to_gate : Shape → Place → Record → List Event
to_gate shape place r = (if place.fresh then closing place.bucket shape.cells ++ insertion (insertion_of place) else []) ++ (body r ++ (PStore r.at r.lsn ∷ []))

gate_is_last : (shape : Shape) (p : ℕ) (place : Place) (r : Record) → region_append shape p place r ≡ map (out_event p) (to_gate shape place r) ++ Fence ∷ []
gate_is_last shape p place r =
    let start_of : List Event = if place.fresh then closing place.bucket shape.cells ++ insertion (insertion_of place) else [] in
    ap (map (out_event p)) (sym (append_assoc start_of (body r ++ (PStore r.at r.lsn ∷ [])) (Fence ∷ []))) ∙ map-append (out_event p) (to_gate shape place r) (Fence ∷ [])

-- ---- the view

module _ (shape : Shape) (ok : IsAllowed shape) (p : ℕ) (inside : p < shape.partitions) (z v : Words) (xs : List ℕ) (place : Place) (r : Record)
    (can : CanAppend shape p (view p z) xs place r) where
  abbrev plan : List Event
  plan = append_plan shape.cells place r

  region_stores : AreStoresOn (IsPartWord shape p) (map (out_event p) plan)
  region_stores = AreStoresOn-out (IsLogWord shape p) (IsPartWord shape p) p (log_word_out shape p) plan (append_stores shape p (view p z) xs place r inside can)

  -- what the region reaches in the partition's words, the view reaches
  pub view_of_append : (A : ℕ → Type 0) (k : ℕ) → ((a : ℕ) → IsPartWord shape p a → A a) → Reaches A (progress_at z (map (out_event p) plan) k) v →
      Reaches (IsLogWord shape p) (progress_at (view p z) plan k) (view p v)
  view_of_append A k has h = view_reaches A (IsLogWord shape p) p k z v plan (few_parts shape p ok inside) (log_word_own shape p) (λ a m. has (out_address p a) (log_word_out shape p a m))
      (append_stores shape p (view p z) xs place r inside can) h

  pub view_images : (A : ℕ → Type 0) (k : ℕ) → ((a : ℕ) → IsPartWord shape p a → A a) → Reaches A (progress_at z (map (out_event p) plan) k) v → KeepsOrAdds shape p (view p z) xs r (view p v)
  view_images A k has h = append_images shape p (view p z) (view p v) xs place r k inside can (view_of_append A k has h)

  pub view_waits : (A : ℕ → Type 0) (k : ℕ) → ((a : ℕ) → IsPartWord shape p a → A a) → k + 2 ≤ length (map (out_event p) plan) →
      Reaches A (progress_at z (map (out_event p) plan) k) v → KeepsLog shape p (view p z) xs (view p v)
  view_waits A k has short h =
      let size : length (map (out_event p) plan) ≡ length plan = length-map plan (out_event p) in
      append_waits shape p (view p z) (view p v) xs place r k inside can (omega (arith, short, size)) (view_of_append A k has h)

  -- where all events of the region are made, all of the view are
  view_of_whole : (A : ℕ → Type 0) → ((a : ℕ) → IsPartWord shape p a → A a) → Reaches A (progress_at z (map (out_event p) plan) (length (map (out_event p) plan))) v →
      Reaches (IsLogWord shape p) (advance_all (start (view p z)) plan) (view p v)
  view_of_whole A has h =
      let size : length (map (out_event p) plan) ≡ length plan = length-map plan (out_event p) in
      let all : take (length (map (out_event p) plan)) plan ≡ plan = take_all (length (map (out_event p) plan)) plan (omega (arith, size)) in
      subst (λ es. Reaches (IsLogWord shape p) (advance_all (start (view p z)) es) (view p v)) all (view_of_append A (length (map (out_event p) plan)) has h)

  pub view_end : (A : ℕ → Type 0) → ((a : ℕ) → IsPartWord shape p a → A a) → Reaches A (progress_at z (map (out_event p) plan) (length (map (out_event p) plan))) v →
      AddsToLog shape p (view p z) xs r (view p v)
  view_end A has h = append_end shape p (view p z) (view p v) xs place r inside can (view_of_whole A has h)

  pub view_rests : (A : ℕ → Type 0) → ((a : ℕ) → IsPartWord shape p a → A a) → Reaches A (progress_at z (map (out_event p) plan) (length (map (out_event p) plan))) v →
      IsAtRest shape p (view p v) (chain_behind place xs)
  view_rests A has h = append_rests shape p (view p z) (view p v) xs place r inside can (view_of_whole A has h)

  -- words of others aren't stored to
  pub others_same : (A : ℕ → Type 0) (k a : ℕ) → A a → (IsPartWord shape p a → ⊥) → Reaches A (progress_at z (map (out_event p) plan) k) v → v a ≡ z a
  others_same A k a m off h = Reaches-fixed A (progress_at z (map (out_event p) plan) k) v a (z a) m
      (IsFixed-aways (start z) a (z a) (take k (map (out_event p) plan))
      (AreAway-take a k (map (out_event p) plan) (AreAway-stores (IsPartWord shape p) a (map (out_event p) plan) (λ b n e. off (subst (IsPartWord shape p) e n)) region_stores))
      (IsFixed-start z a)) h

-- ---- the log words and their view

-- a word of the log is itself in the log words
pub inside_log : (shape : Shape) (w : Words) (a : ℕ) → a < heap shape → log_words shape w a ≡ w a
inside_log shape w a m = let on : nat_lt a (heap shape) ≡ true = grind (arith, nat_tests, m) in ap (λ t. cond t (w a) 0) on

-- the log words reach what the words reach
pub log_reaches : (shape : Shape) (z v : Words) (plan : List Event) (k : ℕ) → Reaches (λ a. a < heap shape) (progress_at z plan k) v →
    Reaches (λ a. a < heap shape) (progress_at (log_words shape z) plan k) (log_words shape v)
log_reaches shape z v plan k h =
    let same : SameOn (λ a. a < heap shape) (start z) (start (log_words shape z)) = record {
      durable = λ a m. sym (inside_log shape z a m);
      pending = λ a m x w. w;
      latests = λ a m u. refl;
    } in
    let reached = Reaches-same (λ a. a < heap shape) (progress_at z plan k) (progress_at (log_words shape z) plan k) v
    (SameOn-events (λ a. a < heap shape) (start z) (start (log_words shape z)) (take k plan) same) h in
    λ a m. subst (λ n. (n ≡ (progress_at (log_words shape z) plan k).durable a) ⊎ Wrote (progress_at (log_words shape z) plan k).pending a n) (sym (inside_log shape v a m)) (reached a m)

pub view_cell : (shape : Shape) (p q b c : ℕ) (w : Words) → IsBucketOf shape q b → record_at (view p w) (cell_address b c) ≡ record_at w (cell_address b c)
view_cell shape p q b c w is = same_cell (view p w) w (cell_address b c) (λ a low high. view_behind p w a (let e = is.3 in omega (arith, e, low)))

-- the records of a chain are the same in the view
pub view_records : (shape : Shape) (p : ℕ) (w : Words) (chain : List ℕ) → AreBuckets (IsBucketOf shape p) chain → (r : Record) →
    IsRecordOf shape.cells chain (view p w) r ↔ IsRecordOf shape.cells chain w r
view_records shape p w chain buckets r = (
  (λ h. record {
    bucket = h.bucket;
    is_among = h.is_among;
    place = h.place;
    below = h.below;
    is = h.is ∙ view_cell shape p p h.bucket h.place w (Each-among (IsBucketOf shape p) chain h.bucket buckets h.is_among);
    gate = h.gate;
  }),
  (λ h. record {
    bucket = h.bucket;
    is_among = h.is_among;
    place = h.place;
    below = h.below;
    is = h.is ∙ sym (view_cell shape p p h.bucket h.place w (Each-among (IsBucketOf shape p) chain h.bucket buckets h.is_among));
    gate = h.gate;
  }),
)

pub view_room : (shape : Shape) (p : ℕ) (w : Words) (chain : List ℕ) → AreBuckets (IsBucketOf shape p) chain → room_of shape (view p w) p chain ≡ room_of shape w p chain
view_room shape p w chain buckets = room_same shape (view p w) w p chain (λ c lt ne.
    view_behind p w (cell_address (last_or 0 chain) c) (let is = Each-among (IsBucketOf shape p) chain (last_or 0 chain) buckets (among_last chain ne) in let e = is.3 in omega (arith, e)))

pub list_of_view : (shape : Shape) (p : ℕ) (w : Words) (chain : List ℕ) → IsList shape p (view p w) chain → view p w 12 ≡ 0 → IsListOf shape p w chain
list_of_view shape p w chain list none = record { rules = rules_of_list shape p (view p w) chain list; removed = λ on. absurd (on none) }

-- ---- the state

module _ (shape : Shape) (ok : IsAllowed shape) (p : ℕ) (inside : p < shape.partitions) (z : Words) (s : State) (has : HasState shape z s) (xs : List ℕ) (place : Place) (r : Record)
    (can : CanAppend shape p (view p (log_words shape z)) xs place r) where
  abbrev before : Words
  before = log_words shape z

  -- the append's chain is that of the state
  chain_is : xs ≡ has.chains p
  chain_is = chain_is_one (view p before) xs (has.chains p) (list_has_chain shape p (view p before) xs (at_rest can.at_rest))
      (list_has_chain shape p (view p before) (has.chains p) (list_of_rules shape p (view p before) (has.chains p) (has.lists p inside).rules))

  abbrev Reached : ℕ → Words → Type 0
  Reached k v = Reaches (λ a. a < heap shape) (progress_at z (region_append shape p place r) k) v

  log_reached : (k : ℕ) (v : Words) → Reached k v → Reaches (λ a. a < heap shape) (progress_at before (region_append shape p place r) k) (log_words shape v)
  log_reached k v h = log_reaches shape z v (region_append shape p place r) k h

  below_heap : (a : ℕ) → IsPartWord shape p a → a < heap shape
  below_heap a m = part_word_below shape p a ok inside m

  -- words of other partitions are as they were
  others : (k : ℕ) (v : Words) → Reached k v → (a : ℕ) → a < heap shape → (IsPartWord shape p a → ⊥) → log_words shape v a ≡ before a
  others k v h a lt off = others_same shape ok p inside before (log_words shape v) xs place r can (λ b. b < heap shape) k a lt off (log_reached k v h)

  same : (k : ℕ) (v : Words) → Reached k v → (a : ℕ) → a < heap shape → (IsPartWord shape p a → ⊥) → v a ≡ z a
  same k v h a lt off = sym (inside_log shape v a lt) ∙ others k v h a lt off ∙ inside_log shape z a lt

  records_kept : (v : Words) (ys : List ℕ) → AreBuckets (IsBucketOf shape p) xs → AreBuckets (IsBucketOf shape p) ys → SameRecords shape.cells (view p before) xs (view p (log_words shape v)) ys →
      SameRecords shape.cells before (has.chains p) (log_words shape v) ys
  records_kept v ys bx by same r = subst (λ c. IsRecordOf shape.cells ys (log_words shape v) r ↔ IsRecordOf shape.cells c before r) chain_is (
    (λ h. (view_records shape p before xs bx r).0 ((same r).0 ((view_records shape p (log_words shape v) ys by r).1 h))),
    (λ h. (view_records shape p (log_words shape v) ys by r).0 ((same r).1 ((view_records shape p before xs bx r).1 h))),
  )

  records_added : (v : Words) (ys : List ℕ) → AreBuckets (IsBucketOf shape p) xs → AreBuckets (IsBucketOf shape p) ys → AddsRecord shape.cells (view p before) xs (view p (log_words shape v)) ys r →
      AddsRecord shape.cells before (has.chains p) (log_words shape v) ys r
  records_added v ys bx by same x = subst (λ c. IsRecordOf shape.cells ys (log_words shape v) x ↔ (IsRecordOf shape.cells c before x ⊎ (x ≡ r))) chain_is (
    (λ h. elim ((same x).0 ((view_records shape p (log_words shape v) ys by x).1 h)) [ inl k ↦ inl ((view_records shape p before xs bx x).0 k) | inr e ↦ inr e ]),
    (λ h. (view_records shape p (log_words shape v) ys by x).0 ((same x).1 (elim h [ inl k ↦ inl ((view_records shape p before xs bx x).1 k) | inr e ↦ inr e ]))),
  )

  buckets_before : AreBuckets (IsBucketOf shape p) xs
  buckets_before = can.at_rest.buckets

  room_before : room_of shape (view p before) p xs ≡ room_of shape before p (has.chains p)
  room_before = view_room shape p before xs buckets_before ∙ ap (room_of shape before p) chain_is

  kept_state : (k : ℕ) (v : Words) → Reached k v → KeepsLog shape p (view p before) xs (view p (log_words shape v)) → HasState shape v (with_heap s (heap_words shape v))
  kept_state k v h keeps =
      let buckets = chain_is_buckets shape p (view p (log_words shape v)) keeps.chain keeps.list in
      part_kept shape ok z v s p inside has (same k v h) keeps.chain (list_of_view shape p (log_words shape v) keeps.chain keeps.list keeps.to_remove)
      (records_kept v keeps.chain buckets_before buckets keeps.records)
      (sym (view_room shape p (log_words shape v) keeps.chain buckets) ∙ keeps.room ∙ room_before)

  pub state_waits : (k : ℕ) (v : Words) → k + 2 ≤ length (region_append shape p place r) → Reached k v → HasState shape v (with_heap s (heap_words shape v))
  state_waits k v short h = kept_state k v h (view_waits shape ok p inside before (log_words shape v) xs place r can (λ a. a < heap shape) k below_heap short (log_reached k v h))

  module _ (later : Log) (gains : Gains s.log r later) where
    gained_state : (k : ℕ) (v : Words) → Reached k v → AddsToLog shape p (view p before) xs r (view p (log_words shape v)) →
        HasState shape v (with_heap (with_log p s later) (heap_words shape v))
    gained_state k v h adds =
        let buckets = adds.at_rest.buckets in
        part_gained shape ok z v s p inside has (same k v h) adds.chain (list_of_view shape p (log_words shape v) adds.chain (at_rest adds.at_rest) adds.at_rest.to_remove) r later gains
        (records_added v adds.chain buckets_before buckets adds.records)
        (ap (λ n. n + 1) (sym (view_room shape p (log_words shape v) adds.chain buckets)) ∙ adds.room ∙ room_before)

    state_images : (k : ℕ) (v : Words) → Reached k v → HasState shape v (with_heap s (heap_words shape v)) ⊎ HasState shape v (with_heap (with_log p s later) (heap_words shape v))
    state_images k v h = elim (view_images shape ok p inside before (log_words shape v) xs place r can (λ a. a < heap shape) k below_heap (log_reached k v h))
        [ inl keeps ↦ inl (kept_state k v h keeps) | inr adds ↦ inr (gained_state k v h adds) ]

    state_end : (v : Words) → Reached (length (region_append shape p place r)) v → HasState shape v (with_heap (with_log p s later) (heap_words shape v))
    state_end v h = gained_state (length (region_append shape p place r)) v h
        (view_end shape ok p inside before (log_words shape v) xs place r can (λ a. a < heap shape) below_heap (log_reached (length (region_append shape p place r)) v h))

    pub append_leads : LeadsTo shape z s (with_log p s later) (region_append shape p place r)
    append_leads = record { images = state_images; last = state_end }

  pub append_is_append : ((x : Record) → IsAmong s.log x → x.lsn < r.lsn) → IsAppend shape z s r (less_room p s.room) (region_append shape p place r)
  append_is_append above =
      let leads = append_leads (r ∷ s.log) (record { newest_first = (λ x m. inl (above x m), has.records.newest_first); each = λ x. ((λ m. m), (λ m. m)) }) in
      record {
        on_log = AreOnLog-stores shape (IsPartWord shape p) below_heap (region_append shape p place r) (region_stores shape ok p inside before z xs place r can);
        durable = AreDurable-out p (append_plan shape.cells place r) (append_durable shape.cells place r);
        front = map (out_event p) (to_gate shape place r);
        fenced = gate_is_last shape p place r;
        images = leads.images;
        last = leads.last;
      }

  abbrev ended : Words
  ended = (progress_at z (region_append shape p place r) (length (region_append shape p place r))).durable

  end_adds : AddsToLog shape p (view p before) xs r (view p (log_words shape ended))
  end_adds = view_end shape ok p inside before (log_words shape ended) xs place r can (λ a. a < heap shape) below_heap
      (log_reached (length (region_append shape p place r)) ended (λ a m. inl refl))

  place_bucket : IsBucketOf shape p place.bucket
  place_bucket = by place.fresh can.is_place
    where
      by : (fresh : Bool) → IsPlaceBy shape p (view p before) xs place fresh → IsBucketOf shape p place.bucket
      by true is = is.bucket
      by false is = Each-among (IsBucketOf shape p) xs place.bucket can.at_rest.buckets is.bucket

  part_is : part_of shape r.at ≡ p
  part_is = ap (part_of shape) can.at ∙ part_of_cell shape p place.bucket place.cell ok inside place_bucket can.below

  -- the room of the partition falls by one
  room_falls : less_room p s.room p + 1 ≡ s.room p
  room_falls =
      let n : ℕ = room_of shape (view p (log_words shape ended)) p end_adds.chain in
      let e : s.room p ≡ n + 1 = has.room p inside ∙ sym room_before ∙ sym end_adds.room in
      ap (λ m. m + 1) (less_here p s.room n e) ∙ sym e

  pub append_takes_cell : TakesCell shape s r (less_room p s.room)
  append_takes_cell = record {
    inside = subst (λ q. q < shape.partitions) (sym part_is) inside;
    here = subst (λ q. less_room p s.room q + 1 ≡ s.room q) (sym part_is) room_falls;
    elsewhere = λ q ne. less_elsewhere p s.room q (λ e. ne (e ∙ sym part_is));
  }

-- ---- the laws

pub next_places_take : NextPlacesTake
next_places_take shape p w chain place r rest next at gate = record { at_rest = rest; is_place = next.is_place; below = next.below; at = at; gate = gate }

pub each_appending_image : EachAppendingImage
each_appending_image shape p z v xs place r k ok inside can h = view_images shape ok p inside z v xs place r can (IsPartWord shape p) k (λ a m. m) h

-- a whole plan that ends in a fence leaves nothing pending
fenced_settles : (p : Progress) (plan front : List Event) → plan ≡ front ++ Fence ∷ [] → (advance_all p plan).pending ≡ []
fenced_settles p plan front e = ap (λ es. (advance_all p es).pending) e ∙ ap (λ q. q.pending) (advance_all-append p front (Fence ∷ []))

pub append_ends : AppendEnds
append_ends shape p z xs place r ok inside can =
    let plan : List Event = region_append shape p place r in
    let all : take (length plan) plan ≡ plan = take_all (length plan) plan (omega arith) in
    let end : Words = (advance_all (start z) plan).durable in
    let whole : Reaches (λ a. Unit {0}) (progress_at z plan (length plan)) end = subst (λ es. Reaches (λ a. Unit {0}) (advance_all (start z) es) end) (sym all) (λ a m. inl refl) in
    record {
      nothing_pending = fenced_settles (start z) plan (map (out_event p) (to_gate shape place r)) (gate_is_last shape p place r);
      adds = view_end shape ok p inside z end xs place r can (λ a. Unit {0}) (λ a m. tt) whole;
      others = λ a off. others_same shape ok p inside z end xs place r can (λ b. Unit {0}) (length plan) a tt off whole;
    }

-- the plan of a region as a run, with others in between
run_tracks : (shape : Shape) (p lane : ℕ) (z : Words) (place : Place) (r : Record) (k : ℕ) (before region : Region) → AreSettledAt (IsPartWord shape p) z before →
    Run (IsPartWord shape p) lane (region_append shape p place r) before k region → Tracks (IsPartWord shape p) lane (progress_at z (region_append shape p place r) k) region
run_tracks shape p lane z place r k before region settled run =
    Tracks-run (IsPartWord shape p) lane z (region_append shape p place r) before region k
    (durable_at (region_append shape p place r) (AreDurable-out p (append_plan shape.cells place r) (append_durable shape.cells place r))) settled run

pub each_image_of_appends : EachImageOfAppends
each_image_of_appends shape p lane z i xs place r k before region ok inside can settled run within image =
    each_appending_image shape p z i xs place r k ok inside can
    (Reaches-image (IsPartWord shape p) lane (progress_at z (region_append shape p place r) k) region i within image (run_tracks shape p lane z place r k before region settled run))

pub appends_end : AppendsEnd
appends_end shape p lane z xs place r before region ok inside can settled run =
    let plan : List Event = region_append shape p place r in
    let leaves = append_ends shape p z xs place r ok inside can in
    let all : take (length plan) plan ≡ plan = take_all (length plan) plan (omega arith) in
    let tracks : Tracks (IsPartWord shape p) lane (advance_all (start z) plan) region =
    subst (λ es. Tracks (IsPartWord shape p) lane (advance_all (start z) es) region) all (run_tracks shape p lane z place r (length plan) before region settled run) in (
      λ a m v c. elim ((tracks a m).values v c) [ inl e ↦ e | inr w ↦ absurd (subst (λ ws. Wrote ws a v) leaves.nothing_pending w) ],
      leaves.adds,
    )

pub appends_leave_chains : AppendsLeaveChains
appends_leave_chains shape p z v xs place r ok inside can h = view_rests shape ok p inside z v xs place r can (IsPartWord shape p) (λ a m. m) h

pub appends_are_states : AppendsAreStates
appends_are_states shape p z s xs place r ok inside has can above = append_is_append shape ok p inside z s has xs place r can above

pub appends_take_cell : AppendsTakeCell
appends_take_cell shape p z s xs place r ok inside has can = append_takes_cell shape ok p inside z s has xs place r can

pub appends_gain : AppendsGain
appends_gain shape p z s xs place r later ok inside has can gains = append_leads shape ok p inside z s has xs place r can later gains

pub appends_wait : AppendsWait
appends_wait shape p z v s xs place r k ok inside has can short h = state_waits shape ok p inside z s has xs place r can k v short h
