-- The plan of an append on the region: which words it stores to, and what it leaves of the recovery words.
use Rattle.std.proofs.Common.{◌≡◌, ◌≢◌, ◌⊎◌, inl, inr, ℕ, zero, suc, ◌+◌, ◌<◌, ◌≤◌, ◌==◌, Bool, true, false, if◌then◌else◌, List, [], ◌∷◌, ◌++◌, length, map, refl, sym, ap, ◌∙◌, subst, arith}
use Rattle.std.specs.Prelude.{slice_index_or, All}
use Rattle.std.proofs.lemmas.Bool.Decides.{eqb_tells, nat_tests}
use Rattle.std.proofs.lemmas.List.{map-append, length-map}
use Rattle.std.proofs.Common.{append_assoc}
use Rattle.persist_model.specs.declared.event.Event.{Event}
use Rattle.persist_model.specs.declared.event.Event.TheVariants.{Store, PStore, WriteBack, Fence}
use Rattle.persist_model.specs.Region.{Region, after, candidate, fenced, IsCandidate}
use Rattle.persist_model.specs.Records.{Record}
use Rattle.persist_model.specs.Shape.{Shape, heap, list_words, IsBucketOf}
use Rattle.persist_model.specs.Chain.{out_address, out_event, word_behind, last_or}
use Rattle.persist_model.proofs.Candidates.{fenced-push}
use Rattle.lane_traits.specs.Device.{IsWithin}
use Rattle.log_laws.specs.Recovering.{RECOVERY_LANE, IsOnLog, AreOnLog}
use Rattle.log_laws.specs.Parts.{after_plan}
use Rattle.log_laws.proofs.Views.{AreStoresOn, AreStoresOn-append, AreStoresOn-out, out_cases, list_words_cases}
use Rattle.atomic_list.specs.Plans.{insertion}
use Rattle.bucket_log.specs.declared.append.Place.{Place}
use Rattle.bucket_log.specs.Appends.{CanAppend}
use Rattle.bucket_log.specs.Places.{IsPlaceBy}
use Rattle.bucket_log.specs.Plans.{closing, cell_plan, insertion_of, append_plan, append_events, place_address}
use Rattle.bucket_log.proofs.Addresses.{bucket_above}
use Rattle.bucket_log.proofs.AppendPlans.{appends_have_events}
use Rattle.bucket_log.proofs.AppendImages.{Each-among, among_last, closing_stores}
use Rattle.recovery_run.specs.Edges.{StoreElsewhere, HasOnlyValue}
use Rattle.recovery_run.proofs.Aside.{plan_keeps}
use Rattle.recovery_run.proofs.Making.{past_end}

-- ---- how many events

pub few_events : (cells p : ℕ) (place : Place) (r : Record) → length (map (out_event p) (append_plan cells place r)) ≤ cells + 21
few_events cells p place r =
    let count = append_events cells place in
    let short = past_end (append_plan cells place r) count ((appends_have_events cells place r count).1 (omega arith)) in
    let same = length-map (append_plan cells place r) (out_event p) in
    let most : count ≤ cells + 21 = by_test place.fresh in
    omega (arith, short, same, most)
  where
    by_test : (fresh : Bool) → (if fresh then 21 + cells else 10) ≤ cells + 21
    by_test true = omega arith
    by_test false = omega arith

-- ---- the words of the view that an append stores to

-- HEAD, TAIL, TO_APPEND, LAST_TAIL, or a word behind the header
abbrev pub IsStored : ℕ → Type 0
IsStored a = ((8 ≤ a) × (a ≤ 11)) ⊎ (32 ≤ a)

cell_stores : (r : Record) → 32 ≤ r.at → AreStoresOn IsStored (cell_plan r)
cell_stores r low = (inr (omega (arith, low)), (inr (omega (arith, low)), (inr (omega (arith, low)), (inr (omega (arith, low)), (inr (omega (arith, low)), (inr (omega (arith, low)), (inr (omega (arith, low)), (tt, (inr low, (tt, tt))))))))))

insertion_stores : (node tail : ℕ) → 32 ≤ node → (tail ≡ 0) ⊎ (32 ≤ tail) → AreStoresOn IsStored (insertion (record { node = node; tail = tail }))
insertion_stores node tail low behind = (inr low, (inr (omega (arith, low)), (eleven, (tt, (ten, (tt, (link, (nine, (tt, (ten, (tt, tt)))))))))))
  where
    nine : IsStored 9
    nine = inl (omega arith, omega arith)

    ten : IsStored 10
    ten = inl (omega arith, omega arith)

    eleven : IsStored 11
    eleven = inl (omega arith, omega arith)

    link : IsStored (word_behind tail)
    link = elim (eqb_tells tail 0) [
      | inl e ↦ (let on = e.0 in rw on (inl (omega arith, omega arith)))
      | inr ne ↦ (let off = ne.0 in let not = ne.1 in rw off (elim behind [ inl e ↦ absurd (not e) | inr above ↦ inr above ]))
    ]

-- the place's bucket and its tail stand behind the header
pub record IsBehind (place : Place) : Type 0 where
  pub bucket : 32 ≤ place.bucket
  pub tail : place.fresh ≡ true → (place.tail ≡ 0) ⊎ (32 ≤ place.tail)

plan_stores : (cells : ℕ) (place : Place) (r : Record) → IsBehind place → r.at ≡ place_address place → AreStoresOn IsStored (append_plan cells place r)
plan_stores cells place r h at = by_test place.fresh h.tail
  where
    own : AreStoresOn IsStored (cell_plan r)
    own = cell_stores r (let low = h.bucket in omega (arith, low, at))

    by_test : (fresh : Bool) → (fresh ≡ true → (place.tail ≡ 0) ⊎ (32 ≤ place.tail)) → AreStoresOn IsStored ((if fresh then closing place.bucket cells ++ insertion (insertion_of place) else []) ++ cell_plan r)
    by_test true tail = AreStoresOn-append IsStored (closing place.bucket cells ++ insertion (insertion_of place)) (cell_plan r)
        (AreStoresOn-append IsStored (closing place.bucket cells) (insertion (insertion_of place))
        (closing_stores IsStored place.bucket cells (λ c lt. inr (let low = h.bucket in omega (arith, low)))) (insertion_stores place.bucket place.tail h.bucket (tail refl))) own
    by_test false tail = own

pub behind : (shape : Shape) (p : ℕ) (w : _) (chain : List ℕ) (place : Place) (r : Record) → CanAppend shape p w chain place r → IsBehind place
behind shape p w chain place r can = record { bucket = bucket_by place.fresh can.is_place; tail = λ fresh. tail_by (subst (λ b. IsPlaceBy shape p w chain place b) fresh can.is_place) }
  where
    bucket_by : (fresh : Bool) → IsPlaceBy shape p w chain place fresh → 32 ≤ place.bucket
    bucket_by true is = bucket_above shape p place.bucket is.bucket
    bucket_by false is = bucket_above shape p place.bucket (Each-among (IsBucketOf shape p) chain place.bucket can.at_rest.buckets is.bucket)

    tail_by : IsPlaceBy shape p w chain place true → (place.tail ≡ 0) ⊎ (32 ≤ place.tail)
    tail_by is = elim (eqb_tells (last_or 0 chain) 0) [
      | inl e ↦ inl (is.tail ∙ e.1)
      | inr ne ↦ inr (let above = bucket_above shape p (last_or 0 chain) (Each-among (IsBucketOf shape p) chain (last_or 0 chain) can.at_rest.buckets (among_last chain ne.1)) in let e = is.tail in omega (arith, above, e))
    ]

-- ---- and of the region

stores_elsewhere : (A : ℕ → Type 0) (a : ℕ) → ((b : ℕ) → A b → a ≢ b) → (plan : List Event) → AreStoresOn A plan → StoreElsewhere a plan
stores_elsewhere A a off [] on = tt
stores_elsewhere A a off (Store b v ∷ plan) on = (off b on.0, stores_elsewhere A a off plan on.1)
stores_elsewhere A a off (PStore b v ∷ plan) on = (off b on.0, stores_elsewhere A a off plan on.1)
stores_elsewhere A a off (WriteBack b ∷ plan) on = (tt, stores_elsewhere A a off plan on.1)
stores_elsewhere A a off (Fence ∷ plan) on = (tt, stores_elsewhere A a off plan on.1)

abbrev IsStoredOut : ℕ → ℕ → Type 0
IsStoredOut p a = ((list_words p ≤ a) × (a ≤ list_words p + 3)) ⊎ (32 ≤ a)

stored_out : (p a : ℕ) → IsStored a → IsStoredOut p (out_address p a)
stored_out p a (inl h) = elim (out_cases p a) [
  | inl k ↦ (let e = k.2 in let low = h.0 in let high = h.1 in inl (omega (arith, e, low), omega (arith, e, low, high)))
  | inr k ↦ (let low = h.0 in let high = h.1 in elim k.0 [ inl z ↦ absurd (omega (arith, z, low)) | inr z ↦ absurd (omega (arith, z, high)) ])
]
stored_out p a (inr h) = elim (out_cases p a) [
  | inl k ↦ (let high = k.1 in absurd (omega (arith, h, high)))
  | inr k ↦ (let e = k.1 in inr (omega (arith, e, h)))
]

-- a word of the header that isn't one of the first four list words of the partition
pub elsewhere : (cells p a : ℕ) (place : Place) (r : Record) → IsBehind place → r.at ≡ place_address place → a < 32 → (a < list_words p) ⊎ (list_words p + 3 < a) →
    StoreElsewhere a (map (out_event p) (append_plan cells place r))
elsewhere cells p a place r h at low off =
    stores_elsewhere (IsStoredOut p) a (λ b m e. elim m [
      | inr above ↦ absurd (omega (arith, low, above, e))
      | inl k ↦ (let from = k.0 in let to = k.1 in elim off [ inl z ↦ absurd (omega (arith, z, from, e)) | inr z ↦ absurd (omega (arith, z, to, e)) ])
    ]) (map (out_event p) (append_plan cells place r))
    (AreStoresOn-out IsStored (IsStoredOut p) p (stored_out p) (append_plan cells place r) (plan_stores cells place r h at))

-- ---- TO_APPEND is 0 behind the append

after_both : (lane : ℕ) (region : Region) (xs ys : List Event) → after_plan lane region (xs ++ ys) ≡ after_plan lane (after_plan lane region xs) ys
after_both lane region [] ys = refl
after_both lane region (x ∷ xs) ys = after_both lane (after region lane x) xs ys

-- a value that was stored and fenced is the only one
settled_value : (region : Region) (a v : ℕ) → HasOnlyValue v ((after (after region RECOVERY_LANE (PStore a v)) RECOVERY_LANE Fence).at a)
settled_value region a v x k = by_test (a == a) (let on : (a == a) ≡ true = grind (arith, nat_tests) in on) k
  where
    by_test : (t : Bool) → t ≡ true → IsCandidate (fenced (RECOVERY_LANE + 1) (if t then region.at a ++ candidate v (RECOVERY_LANE + 1) ∷ [] else region.at a)) x → x ≡ v
    by_test true e k = elim (subst (λ cs. IsCandidate cs x) (fenced-push (RECOVERY_LANE + 1) (region.at a) v) k) [ inl is ↦ sym is | inr none ↦ absurd none ]
    by_test false e k = cc

out_to_append : (p : ℕ) → out_address p 10 ≡ list_words p + 2
out_to_append p = refl

-- the insertion up to its last store, and all before it
abbrev late : Place → List Event
late place =
    PStore place.bucket 0 ∷ PStore (place.bucket + 1) place.tail ∷ PStore 11 place.tail ∷ Fence ∷
    PStore 10 place.bucket ∷ Fence ∷ PStore (word_behind place.tail) place.bucket ∷ PStore 9 place.bucket ∷ Fence ∷ []

abbrev front_of : ℕ → Place → List Event
front_of cells place = closing place.bucket cells ++ late place

pub to_append_zero : (cells p : ℕ) (place : Place) (r : Record) (region : Region) → p < 3 → IsBehind place → r.at ≡ place_address place → HasOnlyValue 0 (region.at (list_words p + 2)) →
    HasOnlyValue 0 ((after_plan RECOVERY_LANE region (map (out_event p) (append_plan cells place r))).at (list_words p + 2))
to_append_zero cells p place r region few h at one = by_test place.fresh
  where
    away : StoreElsewhere (list_words p + 2) (map (out_event p) (cell_plan r))
    away = stores_elsewhere (λ a. 32 ≤ a) (list_words p + 2) (λ b above e. (let x = list_words_cases p few in let low : list_words p ≤ 26 = grind (arith, x) in absurd (omega (arith, low, above, e))))
        (map (out_event p) (cell_plan r)) (AreStoresOn-out (λ a. 32 ≤ a) (λ a. 32 ≤ a) p out_above (cell_plan r) (let low : 32 ≤ r.at = (let b = h.bucket in omega (arith, b, at)) in
        (omega (arith, low), (omega (arith, low), (omega (arith, low), (omega (arith, low), (omega (arith, low), (omega (arith, low), (omega (arith, low), (tt, (low, (tt, tt))))))))))))
      where
        out_above : (a : ℕ) → 32 ≤ a → 32 ≤ out_address p a
        out_above a above = elim (out_cases p a) [
          | inl k ↦ (let high = k.1 in absurd (omega (arith, above, high)))
          | inr k ↦ (let e = k.1 in omega (arith, e, above))
        ]

    split : (closing place.bucket cells ++ insertion (insertion_of place)) ++ cell_plan r ≡ front_of cells place ++ (PStore 10 0 ∷ Fence ∷ cell_plan r)
    split = append_assoc (closing place.bucket cells) (insertion (insertion_of place)) (cell_plan r)
        ∙ sym (append_assoc (closing place.bucket cells) (late place) (PStore 10 0 ∷ Fence ∷ cell_plan r))

    by_test : (fresh : Bool) → HasOnlyValue 0 ((after_plan RECOVERY_LANE region (map (out_event p) ((if fresh then closing place.bucket cells ++ insertion (insertion_of place) else []) ++ cell_plan r))).at (list_words p + 2))
    by_test false = plan_keeps RECOVERY_LANE region (map (out_event p) (cell_plan r)) (list_words p + 2) 0 away one
    by_test true =
        let before : Region = after_plan RECOVERY_LANE region (map (out_event p) (front_of cells place)) in
        let whole : after_plan RECOVERY_LANE region (map (out_event p) ((closing place.bucket cells ++ insertion (insertion_of place)) ++ cell_plan r))
        ≡ after_plan RECOVERY_LANE before (PStore (list_words p + 2) 0 ∷ Fence ∷ map (out_event p) (cell_plan r)) =
        ap (λ es. after_plan RECOVERY_LANE region (map (out_event p) es)) split
        ∙ ap (after_plan RECOVERY_LANE region) (map-append (out_event p) (front_of cells place) (PStore 10 0 ∷ Fence ∷ cell_plan r))
        ∙ after_both RECOVERY_LANE region (map (out_event p) (front_of cells place)) (PStore (list_words p + 2) 0 ∷ Fence ∷ map (out_event p) (cell_plan r)) in
        subst (λ (z : Region). HasOnlyValue 0 (z.at (list_words p + 2))) (sym whole)
        (plan_keeps RECOVERY_LANE (after (after before RECOVERY_LANE (PStore (list_words p + 2) 0)) RECOVERY_LANE Fence) (map (out_event p) (cell_plan r)) (list_words p + 2) 0 away
        (settled_value before (list_words p + 2) 0))

-- ---- within the region

pub all_within : (shape : Shape) (size : ℕ) → heap shape ≤ size → (plan : List Event) → AreOnLog shape plan → All (IsWithin size) plan
all_within shape size le [] on = λ k d lt. absurd (omega (arith, lt))
all_within shape size le (e ∷ plan) on = λ k d lt. by_place k d lt (all_within shape size le plan on.1)
  where
    of_event : (e : Event) → IsOnLog shape e → IsWithin size e
    of_event (Store a v) m = omega (arith, m, le)
    of_event (PStore a v) m = omega (arith, m, le)
    of_event (WriteBack a) m = omega (arith, m, le)
    of_event Fence m = tt

    by_place : (k : ℕ) (d : Event) → k < length (e ∷ plan) → ((k : ℕ) (d : Event) → k < length plan → IsWithin size (slice_index_or plan k d)) → IsWithin size (slice_index_or (e ∷ plan) k d)
    by_place zero d lt rest = of_event e on.0
    by_place (suc k) d lt rest = rest k d (omega (arith, lt))
