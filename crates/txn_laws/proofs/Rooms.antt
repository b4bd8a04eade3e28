-- The room in the newest words, as events go by.
use Rattle.std.proofs.Common.{◌≡◌, ◌≢◌, ◌⊎◌, inl, inr, ℕ, zero, suc, ◌+◌, ◌-◌, ◌<◌, ◌≤◌, ◌==◌, Bool, true, false, if◌then◌else◌, List, [], ◌∷◌, ◌++◌, length, refl, sym, ap, ◌∙◌, subst, arith}
use Rattle.std.specs.Prelude.{Some, slice_get}
use Rattle.std.proofs.lemmas.Bool.Decides.{eqb_tells, nat_tests}
use Rattle.std.proofs.lemmas.Bool.{cases_lt}
use Rattle.persist_model.specs.declared.event.Candidate.{Candidate}
use Rattle.persist_model.specs.declared.event.Event.{Event}
use Rattle.persist_model.specs.declared.event.Event.TheVariants.{Store, PStore, WriteBack, Fence}
use Rattle.persist_model.specs.Region.{Words, Region, candidate, mark_last, with_word, IsCandidate, MayStand, newest, after}
use Rattle.persist_model.specs.Progress.{Reaches, IsDurable}
use Rattle.persist_model.specs.Runs.{progress_at}
use Rattle.persist_model.specs.Shape.{heap_words, Shape, words_of_shape}
use Rattle.persist_model.specs.State.{State}
use Rattle.persist_model.specs.Records.{Record}
use Rattle.persist_model.proofs.Candidates.{IsCandidate_newest, length-mark_last}
use Rattle.atomic_list.specs.declared.plans.Remove.{Remove}
use Rattle.region_layout.specs.Layout.{IsAllowed}
use Rattle.bucket_log.specs.declared.append.Place.{Place}
use Rattle.bucket_log.specs.States.{less_room}
use Rattle.bucket_log.specs.Words.{IsPartWord}
use Rattle.bucket_log.specs.PartWords.{IsOnPart}
use Rattle.bucket_log.proofs.Partitions.{part_word_below, part_words_apart}
use Rattle.log_clearing.specs.Removals.{region_removal}
use Rattle.log_keeper.specs.Parts.{CanRun, LogPart, Running, rests, appends, closes, takes_back, drops, plan_of}
use Rattle.log_keeper.specs.Making.{made_part}
use Rattle.log_keeper.specs.Logged.{Keeping, one_more, resting, advanced, plan_in, IsLoggedAt}
use Rattle.log_keeper.specs.Events.{IsNextEvent, region_made}
use Rattle.log_keeper.specs.Rooms.{IsRoomAt, IsRoomFrom, IsNewestOf, IsElsewhere, HasRooms}
use Rattle.log_keeper.proofs.Progressing.{on_event, part_on, part_durable, durable_event}
use Rattle.log_keeper.proofs.Steps.{last_events_end}
use Rattle.log_keeper.proofs.Made.{goes_on, events_go_on, appends_are_made}
use Rattle.log_keeper.proofs.Rooms.{room_is_one, room_of_state, room_alike, joined, joined_in, joined_reached, images_have_rooms, stores_take_cells}
use Rattle.log_keeper.proofs.EventsPass.{images_are_reached}
use Rattle.log_keeper.proofs.RoomEvents.{rooms_stay, closings_raise_rooms}
use Rattle.txn_laws.specs.Worlds.{World, IsWorldAt}
use Rattle.txn_laws.specs.Rooms.{IsRoomy, is_append, taken_in, IsInHeap, FewerAreRoomy, AsksAreRoomy, HeapEventsAreRoomy, PartsAreRoomy, RestsAreRoomy, RoomsStart}
use Rattle.txn_laws.proofs.Storing.{fenced_some}
use Rattle.txn_laws.proofs.TakenOut.{removal_out}
use Rattle.txn_laws.proofs.Starting.{worlds_start}
use Rattle.txn_laws.specs.StartLaws.{fresh_world}

self_test : (p : ℕ) → (p == p) ≡ true
self_test p = grind (arith, nat_tests)

-- ---- the words of a region

-- what a read of each word gives
abbrev pub found : Region → Words
found region a = newest (region.at a)

pub found_newest : (region : Region) → IsNewestOf region (found region)
found_newest region a lt = refl

abbrev pub AreFilled : Region → Type 0
AreFilled region = (a : ℕ) → a < region.size → 0 < length (region.at a)

-- the newest words are an image
pub newest_stand : (region : Region) (i : Words) → AreFilled region → IsNewestOf region i → MayStand i region
newest_stand region i full are a lt = subst (IsCandidate (region.at a)) (sym (are a lt)) (IsCandidate_newest (region.at a) (full a lt))

filled_word : (a : ℕ) (change : List Candidate → List Candidate) (region : Region) → ((cs : List Candidate) → 0 < length cs → 0 < length (change cs)) → AreFilled region →
    AreFilled (with_word a change region)
filled_word a change region keeps full b lt = by (b == a)
  where
    by : (t : Bool) → 0 < length (if t then change (region.at b) else region.at b)
    by true = keeps (region.at b) (full b lt)
    by false = full b lt

some_pushed : (cs : List Candidate) (c : Candidate) → 0 < length (cs ++ c ∷ [])
some_pushed [] c = omega arith
some_pushed (d ∷ cs) c = omega arith

pub filled_after : (region : Region) (by : ℕ) (e : Event) → AreFilled region → AreFilled (after region by e)
filled_after region by (Store a v) full = filled_word a (λ cs. cs ++ candidate v 0 ∷ []) region (λ cs some. some_pushed cs (candidate v 0)) full
filled_after region by (PStore a v) full = filled_word a (λ cs. cs ++ candidate v (by + 1) ∷ []) region (λ cs some. some_pushed cs (candidate v (by + 1))) full
filled_after region by (WriteBack a) full = filled_word a (mark_last (by + 1)) region (λ cs some. (let same = length-mark_last (by + 1) cs in omega (arith, same, some))) full
filled_after region by Fence full = λ a lt. fenced_some (by + 1) (region.at a) (full a lt)

-- ---- so much room

-- in the newest words
abbrev pub HasRoomFor : Shape → ℕ → Region → ℕ → Type 0
HasRoomFor shape p region n = (i : Words) → IsNewestOf region i → IsRoomFrom shape p i n

pub room_less : (shape : Shape) (p n m : ℕ) (i : Words) → n ≤ m → IsRoomFrom shape p i m → IsRoomFrom shape p i n
room_less shape p n m i le h = let low = h.2 in (h.0, h.1, omega (arith, le, low))

-- words that agree where the region has words have the same
newest_same : (shape : Shape) (p n : ℕ) (region : Region) (i j : Words) → IsAllowed shape → p < shape.partitions → region.size ≡ words_of_shape shape → IsNewestOf region i →
    IsNewestOf region j → IsRoomAt shape p i n → IsRoomAt shape p j n
newest_same shape p n region i j ok inside size are too room =
    room_alike shape p n i j ok inside (λ a m. (let below = part_word_below shape p a ok inside m in let lt : a < region.size = omega (arith, below, size) in too a lt ∙ sym (are a lt))) room

pub fewer_are_roomy : FewerAreRoomy
fewer_are_roomy shape region reserved later less roomy = record {
  full = roomy.full;
  room = λ p inside i are. room_less shape p (later p) (reserved p) i (less p inside) (roomy.room p inside i are);
}

pub asks_are_roomy : AsksAreRoomy
asks_are_roomy shape base s chains start w region reserved p n m i world are room le roomy = record { full = roomy.full; room = there }
  where
    there : (q : ℕ) → q < shape.partitions → (j : Words) → IsNewestOf region j → IsRoomFrom shape q j (if q == p then n else reserved q)
    there q inside j too = elim (eqb_tells q p) [
      | inl e ↦ (rw e.0 (
        m,
        newest_same shape q m region i j world.log.logged.allowed inside world.log.logged.size are too (subst (λ x. IsRoomAt shape x i m) (sym e.1) room),
        le,
      ))
      | inr off ↦ (rw off.0 (roomy.room q inside j too))
    ]

-- an event that stores elsewhere leaves it
stays_there : (shape : Shape) (p by n : ℕ) (e : Event) (region : Region) → IsAllowed shape → p < shape.partitions → region.size ≡ words_of_shape shape → IsElsewhere shape p e →
    HasRoomFor shape p region n → HasRoomFor shape p (after region by e) n
stays_there shape p by n e region ok inside size off room j later =
    let m = room (found region) (found_newest region) in
    (m.0, rooms_stay shape p by m.0 e region (found region) j ok inside size off (found_newest region) later m.1, m.2)

heap_elsewhere : (shape : Shape) (p : ℕ) (e : Event) → IsAllowed shape → p < shape.partitions → IsInHeap shape e → IsElsewhere shape p e
heap_elsewhere shape p (Store a v) ok inside h = λ m. (let le = h.0 in let below = part_word_below shape p a ok inside m in omega (arith, le, below))
heap_elsewhere shape p (PStore a v) ok inside h = λ m. (let le = h.0 in let below = part_word_below shape p a ok inside m in omega (arith, le, below))
heap_elsewhere shape p (WriteBack a) ok inside h = tt
heap_elsewhere shape p Fence ok inside h = tt

pub heap_events_are_roomy : HeapEventsAreRoomy
heap_events_are_roomy shape base s chains start w region reserved by e in_heap world roomy = record {
  full = filled_after region by e roomy.full;
  room = λ p inside. stays_there shape p by (reserved p) e region world.log.logged.allowed inside world.log.logged.size
      (heap_elsewhere shape p e world.log.logged.allowed inside in_heap) (roomy.room p inside);
}

part_elsewhere : (shape : Shape) (p q : ℕ) (e : Event) → IsAllowed shape → p < shape.partitions → q < shape.partitions → q ≢ p → IsOnPart shape p e → IsElsewhere shape q e
part_elsewhere shape p q (Store a v) ok inside other ne on = λ m. part_words_apart shape p q a ok inside other ne m on
part_elsewhere shape p q (PStore a v) ok inside other ne on = λ m. part_words_apart shape p q a ok inside other ne m on
part_elsewhere shape p q (WriteBack a) ok inside other ne on = tt
part_elsewhere shape p q Fence ok inside other ne on = tt

some_below : (plan : List Event) (n : ℕ) (e : Event) → slice_get plan n ≡ Some e → n < length plan
some_below [] n e is = cc
some_below (x ∷ plan) zero e is = omega arith
some_below (x ∷ plan) (suc n) e is = let lt = some_below plan n e is in omega (arith, lt)

less_here : (p : ℕ) (room : ℕ → ℕ) → less_room p room p + 1 ≡ (room p - 1) + 1
less_here p room = let on = self_test p in ap (λ t. (if t then room p - 1 else room p) + 1) on

-- a removal ends with a fence
no_store : (p : ℕ) (r : Remove) (b v : ℕ) → slice_get (region_removal p r) 6 ≡ Some (PStore b v) → ⊥
no_store p r b v is = let e : Some Fence ≡ Some (PStore b v) = is in cc

-- ---- an event of a part, in its own partition

module _ (shape : Shape) (base : Words) (s : State) (chains : ℕ → List ℕ) (start : Words) (w : World) (region : Region) (p : ℕ) (e : Event)
    (next : IsNextEvent shape w.keeping p e) (world : IsWorldAt shape base s chains start w region) (full : AreFilled region) where
  abbrev k : Keeping
  k = w.keeping

  abbrev later : Region
  later = region_made w.keeping p e region

  h : IsLoggedAt shape base s chains w.keeping region
  h = world.log.logged

  filled_later : AreFilled (region_made w.keeping p e region)
  filled_later = filled_after region (w.keeping.holder p) e full

  rooms_before : HasRooms shape s w.keeping p (found region)
  rooms_before = images_have_rooms shape base s chains w.keeping region p (found region) next.inside h (newest_stand region (found region) full (found_newest region))

  on_part : IsOnPart shape p e
  on_part = on_event shape p (plan_in shape w.keeping p) (part_on shape p base s (chains p) (w.keeping.runs p).part h.allowed next.inside h.has (h.can p next.inside)) (w.keeping.runs p).made e next.next

  below_end : (w.keeping.runs p).made < length (plan_in shape w.keeping p)
  below_end = some_below (plan_in shape w.keeping p) (w.keeping.runs p).made e next.next

  module _ (more : (w.keeping.runs p).made + 1 < length (plan_in shape w.keeping p)) where
    logged_on : IsLoggedAt shape base s chains (made_part shape p w.keeping) (region_made w.keeping p e region)
    logged_on = events_go_on shape base s chains w.keeping region p e next more world.log.ordered.newest_first world.log.fits h

    runs_on : (made_part shape p w.keeping).runs p ≡ one_more (w.keeping.runs p)
    runs_on = ap (λ (x : Keeping). x.runs p) (goes_on shape w.keeping p more)
        ∙ (let on = self_test p in ap (λ t. if t then one_more (w.keeping.runs p) else w.keeping.runs p) on)

    made_on : ((made_part shape p w.keeping).runs p).made ≡ (w.keeping.runs p).made + 1
    made_on = let e = ap (λ (x : Running). x.made) runs_on in omega (arith, e)

    length_on : length (plan_in shape (made_part shape p w.keeping) p) ≡ length (plan_in shape w.keeping p)
    length_on = ap (λ (x : Running). length (plan_of shape p x.part)) runs_on

  rests_behind : (w.keeping.runs p).made + 1 ≡ length (plan_in shape w.keeping p) → ((made_part shape p w.keeping).runs p).part ≡ rests
  rests_behind last = ap (λ (x : Keeping). (x.runs p).part) (last_events_end shape w.keeping p last).kept
      ∙ (let on = self_test p in ap (λ t. (if t then resting else (advanced p w.keeping).runs p).part) on)

  -- ---- an append

  module _ (place : Place) (r : Record) (is : (w.keeping.runs p).part ≡ appends place r) where
    part_next : (more : (w.keeping.runs p).made + 1 < length (plan_in shape w.keeping p)) → ((made_part shape p w.keeping).runs p).part ≡ appends place r
    part_next more = ap (λ (x : Running). x.part) (runs_on more) ∙ is

    -- the gate isn't stored yet
    waits_now : (w.keeping.runs p).made + 2 ≤ length (plan_in shape w.keeping p) → (n : ℕ) → HasRoomFor shape p region n → n ≤ s.room p
    waits_now le n room =
        let m = room (found region) (found_newest region) in
        let same = room_is_one shape p m.0 (s.room p) (found region) m.1 (rooms_before.waiting place r is le) in
        let low = m.2 in
        omega (arith, same, low)

    still_waits : (n : ℕ) → (w.keeping.runs p).made + 2 < length (plan_in shape w.keeping p) → HasRoomFor shape p region n → HasRoomFor shape p (region_made w.keeping p e region) n
    still_waits n lt room j are =
        let more : (w.keeping.runs p).made + 1 < length (plan_in shape w.keeping p) = omega (arith, lt) in
        let made = made_on more in
        let long = length_on more in
        let there = (images_have_rooms shape base s chains (made_part shape p w.keeping) (region_made w.keeping p e region) p j next.inside (logged_on more)
        (newest_stand (region_made w.keeping p e region) j filled_later are)).waiting place r (part_next more) (omega (arith, made, long, lt)) in
        (s.room p, there, waits_now (omega (arith, lt)) n room)

    stores_now : (n : ℕ) → (w.keeping.runs p).made + 2 ≡ length (plan_in shape w.keeping p) → HasRoomFor shape p region (n + 1) → HasRoomFor shape p (region_made w.keeping p e region) n
    stores_now n last room j are =
        let more : (w.keeping.runs p).made + 1 < length (plan_in shape w.keeping p) = omega (arith, last) in
        let made = made_on more in
        let long = length_on more in
        let there = stores_take_cells shape base s chains (made_part shape p w.keeping) (region_made w.keeping p e region) p j place r next.inside (part_next more)
        (omega (arith, made, long, last)) (logged_on more) (newest_stand (region_made w.keeping p e region) j filled_later are) are in
        let low = waits_now (omega (arith, last)) (n + 1) room in
        let one = there.2 in
        (there.0, there.1, omega (arith, low, one))

    -- the last fence stores nothing
    ends_now : (n : ℕ) → (w.keeping.runs p).made + 1 ≡ length (plan_in shape w.keeping p) → HasRoomFor shape p region n → HasRoomFor shape p (region_made w.keeping p e region) n
    ends_now n last room j are =
        let m = room (found region) (found_newest region) in
        let before = stores_take_cells shape base s chains w.keeping region p (found region) place r next.inside is last h (newest_stand region (found region) full (found_newest region)) (found_newest region) in
        let same = room_is_one shape p m.0 before.0 (found region) m.1 before.1 in
        let one = before.2 in
        let low = m.2 in
        let settled = appends_are_made shape base s chains w.keeping region p e place r (record { event = next; under_way = is; last = last }) world.log.ordered.newest_first world.log.fits h in
        let resting_now : ((made_part shape p w.keeping).runs p).part ≡ rests = rests_behind last in
        let there = (images_have_rooms shape _ _ _ (made_part shape p w.keeping) (region_made w.keeping p e region) p j next.inside settled
        (newest_stand (region_made w.keeping p e region) j filled_later are)).resting resting_now in
        let less = less_here p s.room in
        (less_room p s.room p, there, omega (arith, same, one, low, less))

  -- ---- any part

  abbrev taken : ℕ
  taken = taken_in shape w.keeping p p

  module _ (reserved later_is : ℕ) (less : later_is + taken_in shape w.keeping p p ≤ reserved) (room : HasRoomFor shape p region reserved) where
    fewer : HasRoomFor shape p region later_is
    fewer i are = room_less shape p later_is reserved i (omega (arith, less)) (room i are)

    closed : (gates ends checkpoints : List ℕ) → ((w.keeping.runs p).part ≡ closes gates ends checkpoints) ⊎ ((w.keeping.runs p).part ≡ takes_back gates) →
        HasRoomFor shape p (region_made w.keeping p e region) later_is
    closed gates ends checkpoints is j are =
        let m = fewer (found region) (found_newest region) in
        room_less shape p later_is m.0 j m.2
        (closings_raise_rooms shape base s chains w.keeping region p m.0 e (found region) j gates ends checkpoints is next h (found_newest region) are m.1)

    appended : (place : Place) (r : Record) → (w.keeping.runs p).part ≡ appends place r → HasRoomFor shape p (region_made w.keeping p e region) later_is
    appended place r is = elim (cases_lt ((w.keeping.runs p).made + 2) (length (plan_in shape w.keeping p))) [
      | inl lt ↦ still_waits place r is later_is lt fewer
      | inr le ↦ elim (eqb_tells ((w.keeping.runs p).made + 2) (length (plan_in shape w.keeping p))) [
        | inl same ↦ stores_now place r is later_is same.1 (one_more_room same.0)
        | inr ne ↦ (let other = ne.1 in let lt = below_end in ends_now place r is later_is (omega (arith, other, lt, le)) fewer)
      ]
    ]
      where
        one_more_room : ((w.keeping.runs p).made + 2 == length (plan_in shape w.keeping p)) ≡ true → HasRoomFor shape p region (later_is + 1)
        one_more_room same i are =
            let on = self_test p in
            let adds : is_append (w.keeping.runs p).part ≡ true = ap is_append is in
            let one : taken_in shape w.keeping p p ≡ 1 = rw (on, adds, same) refl in
            room_less shape p (later_is + 1) reserved i (omega (arith, less, one)) (room i are)

    -- a removal: the bucket is in the chain before its first event, and out of it behind that
    module _ (r : Remove) (is : (w.keeping.runs p).part ≡ drops r) where
      can_drop : CanRun shape p base s (chains p) (drops r)
      can_drop = subst (CanRun shape p base s (chains p)) is (h.can p next.inside)

      most : later_is ≤ s.room p + shape.cells
      most =
          let m = fewer (found region) (found_newest region) in
          let low = m.2 in
          elim (rooms_before.dropping r is) [
            | inl was ↦ (let same = room_is_one shape p m.0 (s.room p) (found region) m.1 was in omega (arith, low, same))
            | inr was ↦ (let same = room_is_one shape p m.0 (s.room p + shape.cells) (found region) m.1 was in omega (arith, low, same))
          ]

      least : (w.keeping.runs p).made ≡ 0 → later_is ≤ s.room p
      least none =
          let m = fewer (found region) (found_newest region) in
          let low = m.2 in
          let reached : Reaches (IsPartWord shape p) (progress_at base (plan_in shape w.keeping p) 0) (found region) =
          subst (λ n. Reaches (IsPartWord shape p) (progress_at base (plan_in shape w.keeping p) n) (found region)) none
          ((images_are_reached shape base s chains w.keeping region (found region) h (newest_stand region (found region) full (found_newest region))).parts p next.inside) in
          let was = room_alike shape p (s.room p) base (found region) h.allowed next.inside
          (λ a m. elim (reached a m) [ inl e ↦ e | inr wrote ↦ absurd wrote ]) (room_of_state shape p base s next.inside h.has) in
          let same = room_is_one shape p m.0 (s.room p) (found region) m.1 was in
          omega (arith, low, same)

      module _ (more : (w.keeping.runs p).made + 1 < length (plan_in shape w.keeping p)) (j : Words) (are : IsNewestOf (region_made w.keeping p e region) j) where
        stand : MayStand j (region_made w.keeping p e region)
        stand = newest_stand (region_made w.keeping p e region) j filled_later are

        kept_out : (n : ℕ) → (w.keeping.runs p).made ≡ suc n → IsRoomAt shape p j (s.room p + shape.cells)
        kept_out n one =
            let reached : Reaches (IsPartWord shape p) (progress_at base (plan_in shape w.keeping p) (suc (w.keeping.runs p).made)) j =
            subst (λ (x : Running). Reaches (IsPartWord shape p) (progress_at base (plan_of shape p x.part) x.made) j) (runs_on more)
            ((images_are_reached shape base s chains (made_part shape p w.keeping) (region_made w.keeping p e region) j (logged_on more) stand).parts p next.inside) in
            let there : Reaches (IsPartWord shape p) (progress_at base (plan_of shape p (drops r)) (suc (suc n))) j =
            subst (λ m. Reaches (IsPartWord shape p) (progress_at base (plan_of shape p (drops r)) (suc m)) j) one
            (subst (λ part. Reaches (IsPartWord shape p) (progress_at base (plan_of shape p part) (suc (w.keeping.runs p).made)) j) is reached) in
            room_alike shape p (s.room p + shape.cells) (joined shape p base j) j h.allowed next.inside (λ a m. sym (joined_in shape p base j a m))
            (removal_out shape p base (joined shape p base j) s r n h.allowed next.inside h.has can_drop
            (joined_reached shape p base j (plan_of shape p (drops r)) (suc (suc n)) (part_on shape p base s (chains p) (drops r) h.allowed next.inside h.has can_drop) there))

        from_first : (w.keeping.runs p).made ≡ 0 → IsRoomFrom shape p j later_is
        from_first none =
            let low = least none in
            elim ((images_have_rooms shape base s chains (made_part shape p w.keeping) (region_made w.keeping p e region) p j next.inside (logged_on more) stand).dropping r
            (ap (λ (x : Running). x.part) (runs_on more) ∙ is)) [
              | inl was ↦ (s.room p, was, low)
              | inr was ↦ (s.room p + shape.cells, was, omega (arith, low))
            ]

        goes_on_out : (n : ℕ) → (w.keeping.runs p).made ≡ n → IsRoomFrom shape p j later_is
        goes_on_out zero none = from_first none
        goes_on_out (suc n) one = (s.room p + shape.cells, kept_out n one, most)

      -- the last event is a fence
      no_last_store : (b v : ℕ) → e ≡ PStore b v → (w.keeping.runs p).made + 1 < length (plan_in shape w.keeping p)
      no_last_store b v store =
          let seven : length (plan_in shape w.keeping p) ≡ 7 = ap (λ part. length (plan_of shape p part)) is in
          let below = below_end in
          elim (eqb_tells (w.keeping.runs p).made 6) [
            | inr ne ↦ (let other = ne.1 in omega (arith, other, below, seven))
            | inl six ↦ (
                let got : slice_get (plan_of shape p (drops r)) 6 ≡ Some (PStore b v) =
                subst (λ x. slice_get (plan_of shape p (drops r)) 6 ≡ Some x) store
                (subst (λ n. slice_get (plan_of shape p (drops r)) n ≡ Some e) six.1 (subst (λ part. slice_get (plan_of shape p part) (w.keeping.runs p).made ≡ Some e) is next.next)) in
                absurd (no_store p r b v got))
          ]

      dropped : HasRoomFor shape p (region_made w.keeping p e region) later_is
      dropped = by e refl (durable_event (plan_in shape w.keeping p) (part_durable shape p (w.keeping.runs p).part) (w.keeping.runs p).made e next.next)
        where
          by : (x : Event) → e ≡ x → IsDurable e → HasRoomFor shape p (region_made w.keeping p e region) later_is
          by (Store b v) same d = absurd (subst IsDurable same d)
          by (PStore b v) same d = λ j are. goes_on_out (no_last_store b v same) j are (w.keeping.runs p).made refl
          by (WriteBack b) same d = absurd (subst IsDurable same d)
          by Fence same d = stays_there shape p (w.keeping.holder p) later_is e region h.allowed next.inside h.size (subst (IsElsewhere shape p) (sym same) tt) fewer

    here : (part : LogPart) → (w.keeping.runs p).part ≡ part → HasRoomFor shape p (region_made w.keeping p e region) later_is
    here rests is =
        let none : slice_get (plan_of shape p rests) (w.keeping.runs p).made ≡ Some e = subst (λ (x : LogPart). slice_get (plan_of shape p x) (w.keeping.runs p).made ≡ Some e) is next.next in
        cc
    here (appends place r) is = appended place r is
    here (closes gates ends checkpoints) is = closed gates ends checkpoints (inl is)
    here (takes_back gates) is = closed gates [] [] (inr is)
    here (drops r) is = dropped r is

pub parts_are_roomy : PartsAreRoomy
parts_are_roomy shape base s chains start w region reserved later p e next world less roomy = record {
  full = filled_after region (w.keeping.holder p) e roomy.full;
  room = λ q inside. elim (eqb_tells q p) [
    | inl same ↦ subst (λ x. HasRoomFor shape x (region_made w.keeping p e region) (later x)) (sym same.1)
        (here shape base s chains start w region p e next world roomy.full (reserved p) (later p) (less p next.inside) (roomy.room p next.inside) (w.keeping.runs p).part refl)
    | inr ne ↦ stays_there shape q (w.keeping.holder p) (later q) e region world.log.logged.allowed inside world.log.logged.size
        (part_elsewhere shape p q e world.log.logged.allowed next.inside inside ne.1 (on_part shape base s chains start w region p e next world roomy.full))
        (λ i are. room_less shape q (later q) (reserved q) i (let low = less q inside in omega (arith, low)) (roomy.room q inside i are))
  ];
}

-- ---- where nothing is under way

pub rests_are_roomy : RestsAreRoomy
rests_are_roomy = record {
  settled = λ shape base s chains start w region reserved p inside free world roomy. (
      let m = roomy.room p inside (found region) (found_newest region) in
      let is = (images_have_rooms shape base s chains w.keeping region p (found region) inside world.log.logged (newest_stand region (found region) roomy.full (found_newest region))).resting free in
      let same = room_is_one shape p m.0 (s.room p) (found region) m.1 is in
      let low = m.2 in
      omega (arith, same, low));
  begins = λ shape base s chains start w region reserved free less full world. record {
    full = full;
    room = λ p inside i are. (
      s.room p,
      (images_have_rooms shape base s chains w.keeping region p i inside world.log.logged (newest_stand region i full are)).resting (free p inside),
      less p inside,
    );
  };
}

-- ---- the beginning

pub rooms_start : RoomsStart
rooms_start shape base s chains lanes next region reserved force numbers finished less = (world, roomy)
  where
    world : IsWorldAt shape base s chains (heap_words shape base) (fresh_world lanes next) region
    world = worlds_start shape base s chains lanes next region force numbers finished

    roomy : IsRoomy shape region reserved
    roomy = rests_are_roomy.begins shape base s chains (heap_words shape base) (fresh_world lanes next) region reserved (λ p inside. refl) less
        (λ a lt. (let one = finished.settled a lt in omega (arith, one))) (worlds_start shape base s chains lanes next region force numbers finished)
