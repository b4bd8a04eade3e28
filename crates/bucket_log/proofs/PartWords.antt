-- The words of one partition: the test of them, plans on them, and what they decide by themselves.
use Rattle.std.proofs.Common.{◌≡◌, ◌⊎◌, inl, inr, ℕ, ◌+◌, ◌-◌, ◌*◌, ◌/◌, ◌<◌, ◌≤◌, Bool, true, false, not, nat_lt, ◌&&◌, ◌||◌, List, [], ◌∷◌, take, refl, sym, ◌∙◌, arith, subst}
use Rattle.std.proofs.Math.Nat.{lt-div-mul-add, div-mul-le_self}
use Rattle.std.proofs.lemmas.Bool.{cases_lt, ltb-true, ltb-false}
use Rattle.std.proofs.lemmas.Bool.Decides.{nat_tests}
use Rattle.persist_model.specs.declared.event.Event.{Event}
use Rattle.persist_model.specs.declared.event.Event.TheVariants.{Store, PStore, WriteBack, Fence}
use Rattle.persist_model.specs.Region.{Words}
use Rattle.persist_model.specs.Progress.{start, Reaches}
use Rattle.persist_model.specs.Runs.{progress_at}
use Rattle.persist_model.specs.Records.{IsAmong}
use Rattle.persist_model.specs.Shape.{Shape, IsBucketOf, heap, bucket, bucket_size, first_bucket, count_buckets, list_words, log_words}
use Rattle.persist_model.specs.Chain.{out_address, last_or, AreBuckets}
use Rattle.persist_model.specs.ImageRecords.{cell_address}
use Rattle.persist_model.proofs.Tracking.{Reaches-image}
use Rattle.persist_model.proofs.Projecting.{AreAway-take, IsFixed, IsFixed-start, IsFixed-aways, SameOn, SameOn-events, Reaches-same}
use Rattle.log_laws.proofs.Views.{IsStoreOn, AreStoresOn, AreStoresOn-out, AreAway-stores, view-out}
use Rattle.atomic_list.specs.Rules.{IsAtRest}
use Rattle.atomic_list.proofs.Cases.{chain_is_buckets}
use Rattle.atomic_list.proofs.Repairs.{still}
use Rattle.bucket_log.specs.declared.append.Place.{Place}
use Rattle.bucket_log.specs.Words.{IsBucketWord, IsLogWord, IsPartWord}
use Rattle.bucket_log.specs.Plans.{append_plan}
use Rattle.bucket_log.specs.Places.{IsFull, IsUsedPlace, IsPlaceBy}
use Rattle.bucket_log.specs.PartWords.{is_part_word, IsOnPart, AreOnPart, IsJoined, PartWordsAreTold, AppendsAreOnPart, PartsReach, OwnWordsTake}
use Rattle.bucket_log.proofs.Addresses.{list_word_is_log_word, cell_word_is_log_word}
use Rattle.bucket_log.proofs.Partitions.{log_word_out, part_word_below}
use Rattle.bucket_log.proofs.AppendImages.{Each-among, among_last, append_stores}
use Rattle.bucket_log.proofs.Appended.{inside_log}

-- ---- the test

-- the addresses from x on, up to y
abbrev between : ℕ → ℕ → ℕ → Bool
between x y a = not (nat_lt a x) && nat_lt a y

between_on : (x y a : ℕ) → between x y a ≡ true → (x ≤ a) × (a < y)
between_on x y a h = by (nat_lt a x) (nat_lt a y) refl refl h
  where
    by : (s t : Bool) → nat_lt a x ≡ s → nat_lt a y ≡ t → not s && t ≡ true → (x ≤ a) × (a < y)
    by true true e f h = absurd (cc)
    by true false e f h = absurd (cc)
    by false true e f h = (ltb-false a x e, ltb-true a y f)
    by false false e f h = absurd (cc)

between_off : (x y a : ℕ) → x ≤ a → a < y → between x y a ≡ true
between_off x y a low high =
    let off : nat_lt a x ≡ false = grind (arith, nat_tests, low) in
    let on : nat_lt a y ≡ true = grind (arith, nat_tests, high) in
    rw (off, on) refl

either : (s t : Bool) → s || t ≡ true → (s ≡ true) ⊎ (t ≡ true)
either true t h = inl refl
either false true h = inr refl
either false false h = absurd (cc)

either_left : (s t : Bool) → s ≡ true → s || t ≡ true
either_left s t e = rw e refl

either_right : (s t : Bool) → t ≡ true → s || t ≡ true
either_right true t e = refl
either_right false t e = e

stride_up : (i j s : ℕ) → i ≤ j → i * s ≤ j * s
stride_up i j s h = grind arith

stride_over : (i j s : ℕ) → i < j → i * s + s ≤ j * s
stride_over i j s h = grind arith

-- which bucket of a row an address is in
number_in : (first count size n : ℕ) → 0 < size → first * size ≤ n → n < (first + count) * size → (j : ℕ) × (first ≤ j) × (j < first + count) × (j * size ≤ n) × (n < j * size + size)
number_in first count size n some low high =
    let at_least = div-mul-le_self n size in
    let at_most = lt-div-mul-add {a = n} {b = size} some in
    (n / size, above (n / size) at_most, below (n / size) at_least, at_least, at_most)
  where
    above : (j : ℕ) → n < j * size + size → first ≤ j
    above j at_most = elim (cases_lt j first) [
      | inl lt ↦ (let k = stride_over j first size lt in absurd (omega (arith, k, low, at_most)))
      | inr ge ↦ ge
    ]

    below : (j : ℕ) → j * size ≤ n → j < first + count
    below j at_least = elim (cases_lt j (first + count)) [
      | inl lt ↦ lt
      | inr ge ↦ (let k = stride_up (first + count) j size ge in absurd (omega (arith, k, high, at_least)))
    ]

-- the buckets of a partition stand in a row
row_of : (shape : Shape) (p a : ℕ) → bucket shape (first_bucket shape p) ≤ a → a < bucket shape (first_bucket shape p + count_buckets shape p) → IsBucketWord shape p a
row_of shape p a low high =
    let k = number_in (first_bucket shape p) (count_buckets shape p) (bucket_size shape) (a - 32) (omega arith) (omega (arith, low)) (omega (arith, low, high)) in
    let at_least = k.3 in
    let at_most = k.4 in
    (bucket shape k.0, (k.0, k.1, k.2, refl), omega (arith, low, at_least), omega (arith, low, at_most))

in_row : (shape : Shape) (p a : ℕ) → IsBucketWord shape p a → (bucket shape (first_bucket shape p) ≤ a) × (a < bucket shape (first_bucket shape p + count_buckets shape p))
in_row shape p a h =
    let up = stride_up (first_bucket shape p) h.1.0 (bucket_size shape) h.1.1 in
    let over = stride_over h.1.0 (first_bucket shape p + count_buckets shape p) (bucket_size shape) h.1.2 in
    let at = h.1.3 in
    let low = h.2 in
    let high = h.3 in
    (omega (arith, up, at, low), omega (arith, over, at, high))

abbrev list_test : ℕ → ℕ → Bool
list_test p a = between (list_words p) (list_words p + 5) a

abbrev row_test : Shape → ℕ → ℕ → Bool
row_test shape p a = between (bucket shape (first_bucket shape p)) (bucket shape (first_bucket shape p + count_buckets shape p)) a

is_told : (shape : Shape) (p a : ℕ) → list_test p a || row_test shape p a ≡ true → IsPartWord shape p a
is_told shape p a h = elim (either (list_test p a) (row_test shape p a) h) [
  | inl e ↦ (let k = between_on (list_words p) (list_words p + 5) a e in let high = k.1 in inl (k.0, omega (arith, high)))
  | inr e ↦ (let k = between_on (bucket shape (first_bucket shape p)) (bucket shape (first_bucket shape p + count_buckets shape p)) a e in inr (row_of shape p a k.0 k.1))
]

told : (shape : Shape) (p a : ℕ) → IsPartWord shape p a → list_test p a || row_test shape p a ≡ true
told shape p a (inl h) = either_left (list_test p a) (row_test shape p a) (let high = h.1 in between_off (list_words p) (list_words p + 5) a h.0 (omega (arith, high)))
told shape p a (inr h) = either_right (list_test p a) (row_test shape p a) (let k = in_row shape p a h in
    between_off (bucket shape (first_bucket shape p)) (bucket shape (first_bucket shape p + count_buckets shape p)) a k.0 k.1)

pub part_words_are_told : PartWordsAreTold
part_words_are_told shape p a = (is_told shape p a, told shape p a)

-- a word is one of the partition, or none
pub decide_part_word : (shape : Shape) (p a : ℕ) → IsPartWord shape p a ⊎ (IsPartWord shape p a → ⊥)
decide_part_word shape p a = by (is_part_word shape p a) refl
  where
    by : (t : Bool) → is_part_word shape p a ≡ t → IsPartWord shape p a ⊎ (IsPartWord shape p a → ⊥)
    by true e = inl (is_told shape p a e)
    by false e = inr (λ m. (let on = told shape p a m in absurd (cc)))

-- ---- plans

pub on_part : (shape : Shape) (p : ℕ) (plan : List Event) → AreStoresOn (IsPartWord shape p) plan → AreOnPart shape p plan
on_part shape p [] h = tt
on_part shape p (e ∷ plan) h = (of_event e h.0, on_part shape p plan h.1)
  where
    of_event : (e : Event) → IsStoreOn (IsPartWord shape p) e → IsOnPart shape p e
    of_event (Store a v) m = m
    of_event (PStore a v) m = m
    of_event (WriteBack a) m = m
    of_event Fence m = tt

pub part_stores : (shape : Shape) (p : ℕ) (plan : List Event) → AreOnPart shape p plan → AreStoresOn (IsPartWord shape p) plan
part_stores shape p [] h = tt
part_stores shape p (e ∷ plan) h = (of_event e h.0, part_stores shape p plan h.1)
  where
    of_event : (e : Event) → IsOnPart shape p e → IsStoreOn (IsPartWord shape p) e
    of_event (Store a v) m = m
    of_event (PStore a v) m = m
    of_event (WriteBack a) m = m
    of_event Fence m = tt

pub appends_are_on_part : AppendsAreOnPart
appends_are_on_part shape p w chain place r inside can = on_part shape p _
    (AreStoresOn-out (IsLogWord shape p) (IsPartWord shape p) p (log_word_out shape p) (append_plan shape.cells place r) (append_stores shape p w chain place r inside can))

parts_reach_words : (shape : Shape) (p k : ℕ) (z i w : Words) (plan : List Event) → AreOnPart shape p plan → IsJoined shape p z i w →
    Reaches (IsPartWord shape p) (progress_at z plan k) i → Reaches (λ a. a < heap shape) (progress_at w plan k) i
parts_reach_words shape p k z i w plan on joined reached a below = elim (decide_part_word shape p a) [
  | inl m ↦ Reaches-same (IsPartWord shape p) (progress_at z plan k) (progress_at w plan k) i (SameOn-events (IsPartWord shape p) (start z) (start w) (take k plan) same) reached a m
  | inr off ↦ inl (sym (joined.others a below off) ∙ sym (fixed off).durable)
]
  where
    same : SameOn (IsPartWord shape p) (start z) (start w)
    same = record { durable = λ b m. sym (joined.own b m); pending = λ b m x h. h; latests = λ b m u. refl }

    fixed : (IsPartWord shape p a → ⊥) → IsFixed (progress_at w plan k) a (w a)
    fixed off = IsFixed-aways (start w) a (w a) (take k plan)
        (AreAway-take a k plan (AreAway-stores (IsPartWord shape p) a plan (λ b n e. off (subst (IsPartWord shape p) e n)) (part_stores shape p plan on))) (IsFixed-start w a)

pub parts_reach : PartsReach
parts_reach = record {
  words = parts_reach_words;
  images = λ shape p lane k z i w plan region on joined inside image tracks. parts_reach_words shape p k z i w plan on joined
      (Reaches-image (IsPartWord shape p) lane (progress_at z plan k) region i inside image tracks);
}

-- ---- own words

module _ (shape : Shape) (p : ℕ) (w v : Words) (chain : List ℕ) (buckets : AreBuckets (IsBucketOf shape p) chain) (same : (a : ℕ) → IsLogWord shape p a → v a ≡ w a) where
  pub gate_same : (b c : ℕ) → IsBucketOf shape p b → c < shape.cells → v (cell_address b c) ≡ w (cell_address b c)
  gate_same b c is below = same (cell_address b c) (cell_word_is_log_word shape p b c (cell_address b c) is below (omega arith) (omega arith))

  pub bucket_of : (b : ℕ) → IsAmong chain b → IsBucketOf shape p b
  bucket_of b m = Each-among (IsBucketOf shape p) chain b buckets m

  full_same : IsFull shape w chain → IsFull shape v chain
  full_same full ne c below e = full ne c below (sym (gate_same (last_or 0 chain) c (bucket_of (last_or 0 chain) (among_last chain ne)) below) ∙ e)

  pub place_same : (place : Place) (fresh : Bool) → place.cell < shape.cells → IsPlaceBy shape p w chain place fresh → IsPlaceBy shape p v chain place fresh
  place_same place true below is = record { bucket = is.bucket; absent = is.absent; tail = is.tail; full = full_same is.full }
  place_same place false below is = record {
    bucket = is.bucket;
    last = is.last;
    closed = gate_same place.bucket place.cell (bucket_of place.bucket is.bucket) below ∙ is.closed;
  }

rest_same : (shape : Shape) (p : ℕ) (w v : Words) (chain : List ℕ) → ((a : ℕ) → IsLogWord shape p a → v a ≡ w a) → IsAtRest shape p w chain → IsAtRest shape p v chain
rest_same shape p w v chain same rest = still shape p w v chain rest (λ a m. same a (list_word_is_log_word shape p a m))

pub own_words_take : OwnWordsTake
own_words_take = record {
  at_rest = rest_same;
  append = λ shape p w v chain place r same can. record {
    at_rest = rest_same shape p w v chain same can.at_rest;
    is_place = place_same shape p w v chain can.at_rest.buckets same place place.fresh can.below can.is_place;
    below = can.below;
    at = can.at;
    gate = can.gate;
  };
  next = λ shape p w v chain place same list next. (
      let buckets = chain_is_buckets shape p w chain list in
      record {
        is_place = place_same shape p w v chain buckets same place place.fresh next.below next.is_place;
        below = next.below;
        tail = next.tail;
        first_cell = next.first_cell;
        first_closed = λ used c lt e. (
            let place_is : IsUsedPlace w chain place = subst (λ t. IsPlaceBy shape p w chain place t) used next.is_place in
            let below = next.below in
            next.first_closed used c lt (sym (gate_same shape p w v chain buckets same place.bucket c (bucket_of shape p w v chain buckets same place.bucket place_is.bucket) (omega (arith, lt, below))) ∙ e));
        least = next.least;
      });
  views = λ shape p w v ok inside same a m. (
      let out : IsPartWord shape p (out_address p a) = log_word_out shape p a m in
      let below = part_word_below shape p (out_address p a) ok inside out in
      view-out p (log_words shape v) a ∙ inside_log shape v (out_address p a) below ∙ same (out_address p a) out
      ∙ sym (inside_log shape w (out_address p a) below) ∙ sym (view-out p (log_words shape w) a));
}
