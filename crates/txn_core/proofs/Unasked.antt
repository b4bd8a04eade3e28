-- For want of memory a call isn't asked, and what the lane owes is as it was.
use Rattle.std.proofs.Common.{◌≡◌, inl, inr, ℕ, ◌<◌, ◌≤◌, length, refl, sym, ap, ◌∙◌, subst, arith}
use Rattle.std.proofs.Math.Logic.{∥∥₁_map, ∥∥₁_elim, ∥∥₁_prop}
use Rattle.persist_model.specs.Region.{Region}
use Rattle.lane_traits.specs.Device.{Counts}
use Rattle.region_layout.specs.declared.layout.Layout.{Layout}
use Rattle.lane_types.specs.declared.call.Call.{Call}
use Rattle.lane_types.specs.declared.call.Refusal.{Refusal}
use Rattle.lane_types.specs.Deeds.{Deeds}
use Rattle.lane_types.specs.Faces.{Base}
use Rattle.lane_book.specs.declared.book.Book.{Book}
use Rattle.lane_book.specs.declared.lane.Lane.{Lane}
use Rattle.lane_book.specs.Books.{IsBook}
use Rattle.lane_book.specs.FacesOf.{lane_at, faces_of}
use Rattle.lane_book.specs.Lanes.{with_lane, owing, refused_lane, IsRoomier}
use Rattle.lane_book.specs.Steps.{IsRoomierIn}
use Rattle.lawful_book.proofs.GoingOn.{owing_on}
use Rattle.txn_core.proofs.LawfulKept.{steps_keep}
use Rattle.log_keeper.specs.declared.keeper.LogKeeper.{LogKeeper}
use Rattle.log_keeper.specs.Keeper.{free_places}
use Rattle.txn_state.specs.Changes.{HasLane, GoesTo}
use Rattle.txn_state.specs.QuietLaws.{HasMorePlaces, HasSameTransaction}
use Rattle.txn_state.specs.Stages.{Between, stage_of}
use Rattle.txn_state.proofs.Lanes.{lane_sum_same}
use Rattle.txn_state.proofs.SameTransaction.{memory_is_taken, notes_keep}
use Rattle.txn_core.specs.Asking.{HasNoLess, IsUnasked, LacksMemory, Owes}
use Rattle.txn_core.specs.Exact.{KeepsBeside, blocks_stay}
use Rattle.txn_core.specs.States.{IsWorld, HasWorld}
use Rattle.txn_core.proofs.AskedFaces.{face_then}
use Rattle.txn_core.proofs.Memory.{same_keeper}
use Rattle.txn_core.proofs.Phasing.{phased_with, owing_phased}
use Rattle.txn_core.proofs.Paying.{goes_lane}

-- ---- lists

pub no_roomier : {E : Type 0} (lane : Lane E) → IsRoomier lane lane
no_roomier lane = record { is = refl; writes = refl; updates = refl; gives = refl; gates = refl; taken = refl; untaken = refl; points = refl }

-- where the lane before is this one
roomier_of : {E : Type 0} (lane was later : Lane E) → lane ≡ was → IsRoomier lane later → IsRoomier was later
roomier_of lane was later same roomier = subst (λ (x : Lane _). IsRoomier x later) same roomier

-- both owe other numbers
owing_roomier : {E : Type 0} (m n : ℕ) (lane later : Lane E) → IsRoomier lane later → IsRoomier (owing m n lane) (owing m n later)
owing_roomier m n lane later roomier = record {
  is = ap (owing m n) roomier.is;
  writes = roomier.writes;
  updates = roomier.updates;
  gives = roomier.gives;
  gates = roomier.gates;
  taken = roomier.taken;
  untaken = roomier.untaken;
  points = roomier.points;
}

-- ---- what isn't asked

pub no_less : (keeper : LogKeeper) (spare : ℕ) → HasNoLess keeper keeper spare spare
no_less keeper spare = record { stores = omega arith; places = omega arith }

module _ {E : Type 0} (book later : Book E) (keeper kept : LogKeeper) (spare left l : ℕ) where
  -- there was no memory at all
  pub unasked_at_once : (m n : ℕ) → Owes book later l m n → stage_of (lane_at book l) ≡ Between → HasNoLess keeper kept spare left → IsUnasked book later keeper kept spare left l
  unasked_at_once m n owes between more = record {
    lists = subst (λ (x : Lane E). IsRoomier (owing x.owed_events x.owed_records (lane_at book l)) x) (sym owes.goes.lanes.here) (no_roomier (owing m n (lane_at book l)));
    owed = inl between;
    more = more;
    blocks = owes.goes.lanes.blocks;
  }

  -- or none for the call's own lists
  pub unasked_behind : (mid : Book E) (m n : ℕ) → Owes book mid l m n → stage_of (lane_at book l) ≡ Between → IsRoomierIn mid later l → HasNoLess keeper kept spare left →
      IsUnasked book later keeper kept spare left l
  unasked_behind mid m n owes between roomier more =
      let events : m ≡ (lane_at later l).owed_events = sym (ap (λ (x : Lane E). x.owed_events) roomier.lane.is ∙ ap (λ (x : Lane E). x.owed_events) owes.goes.lanes.here) in
      let records : n ≡ (lane_at later l).owed_records = sym (ap (λ (x : Lane E). x.owed_records) roomier.lane.is ∙ ap (λ (x : Lane E). x.owed_records) owes.goes.lanes.here) in
      record {
        lists = roomier_of (lane_at mid l) (owing (lane_at later l).owed_events (lane_at later l).owed_records (lane_at book l)) (lane_at later l)
            (owes.goes.lanes.here ∙ (λ i. owing (events i) (records i) (lane_at book l))) roomier.lane;
        owed = inl between;
        more = more;
        blocks = ap (λ (b : Book E). b.blocks) roomier.is ∙ owes.goes.lanes.blocks;
      }

  -- or for the history
  pub unasked_places : (mid : Book E) (m n : ℕ) → Owes book mid l m n → stage_of (lane_at book l) ≡ Between → HasMorePlaces mid later → HasNoLess keeper kept spare left →
      IsUnasked book later keeper kept spare left l
  unasked_places mid m n owes between places more = record {
    lists = subst (λ (x : Lane E). IsRoomier (owing x.owed_events x.owed_records (lane_at book l)) x)
        (sym (ap (λ (b : Book E). lane_at b l) places.is ∙ owes.goes.lanes.here)) (no_roomier (owing m n (lane_at book l)));
    owed = inl between;
    more = more;
    blocks = ap (λ (b : Book E). b.blocks) places.is ∙ owes.goes.lanes.blocks;
  }

-- a call that takes no memory of device and keeper
pub unasked_quietly : {E : Type 0} (book later : Book E) (l : ℕ) → IsRoomierIn book later l → (keeper : LogKeeper) (spare : ℕ) → IsUnasked book later keeper keeper spare spare l
unasked_quietly book later l roomier keeper spare =
    let events : (lane_at later l).owed_events ≡ (lane_at book l).owed_events = ap (λ (x : Lane _). x.owed_events) roomier.lane.is in
    let records : (lane_at later l).owed_records ≡ (lane_at book l).owed_records = ap (λ (x : Lane _). x.owed_records) roomier.lane.is in
    record {
      lists = roomier_of (lane_at book l) (owing (lane_at later l).owed_events (lane_at later l).owed_records (lane_at book l)) (lane_at later l)
          (λ i. owing (sym events i) (sym records i) (lane_at book l)) roomier.lane;
      owed = inr (events, records);
      more = no_less keeper spare;
      blocks = ap (λ (b : Book _). b.blocks) roomier.is;
    }

-- nothing is done
pub unasked_still : {E : Type 0} (book : Book E) (keeper : LogKeeper) (spare l : ℕ) → IsUnasked book book keeper keeper spare spare l
unasked_still book keeper spare l = record { lists = no_roomier (lane_at book l); owed = inr (refl, refl); more = no_less keeper spare; blocks = refl }

-- and the state is one yet
pub still_world : {E : Type 0} (deeds : Deeds E) (layout : Layout) (book mid : Book E) (keeper kept : LogKeeper) (region : Region) (spare left : ℕ) (counts : Counts) (l : ℕ) →
    HasWorld deeds layout book keeper region spare counts → LacksMemory deeds layout book mid keeper kept region spare left counts l → HasWorld deeds layout mid kept region left counts
still_world deeds layout book mid keeper kept region spare left counts l world lacks =
    ∥∥₁_elim world ∥∥₁_prop (λ y. ∥∥₁_map (lacks.stays y.0 ∣ y.1 ∣₁) (λ w. (y.0, w)))

-- ---- what the lane owes is as it was

-- the numbers are those that it owes
owing_same : {E : Type 0} (m n : ℕ) (lane : Lane E) → m ≡ lane.owed_events → n ≡ lane.owed_records → HasSameTransaction lane (owing m n lane)
owing_same m n lane events records = record {
  stage = refl;
  transaction = refl;
  held = refl;
  begun = refl;
  commits = refl;
  writes = refl;
  updates = refl;
  waits = λ naming. refl;
  stored = refl;
  gives = refl;
  has_records = refl;
  rolled = refl;
  ended = refl;
  entry = refl;
  entered = refl;
  committing = refl;
  takes = λ s k call. call;
  due = refl;
  gives_same = λ k call. call;
  ending = refl;
  gates = refl;
  gates_wait = λ due. refl;
  promised = refl;
  owed_events = events;
  owed_records = records;
}

-- The book where it wasn't asked, the one with what it owed, and the lane in both.
module _ {E : Type 0} (book mid later : Book E) (l m n : ℕ) (lt : l < length mid.lanes.items) (events : m ≡ (lane_at book l).owed_events) (records : n ≡ (lane_at book l).owed_records)
    (is : later ≡ with_lane mid l (owing m n (lane_at mid l)) mid.touched) (beside : KeepsBeside book mid l) (count : length mid.lanes.items ≡ length book.lanes.items)
    (stand : mid.blocks ≡ book.blocks) where
  goes : GoesTo mid later l (owing m n (lane_at mid l))
  goes = goes_lane mid later l (owing m n (lane_at mid l)) mid.touched lt is

  from_book : HasLane book later l (owing m n (lane_at mid l))
  from_book = record {
    inside = subst (λ k. l < k) count lt;
    count = goes.lanes.count ∙ count;
    here = goes.lanes.here;
    others = λ k ne. goes.lanes.others k ne ∙ beside.others k ne;
    blocks = goes.lanes.blocks ∙ stand;
  }

  -- but for its lists the lane is the one that it was
  pub restored_lane : {keeper kept : LogKeeper} {spare left : ℕ} → IsUnasked book mid keeper kept spare left l → IsRoomier (lane_at book l) (lane_at later l)
  restored_lane unasked = subst (λ (x : Lane E). IsRoomier (lane_at book l) x) (sym goes.lanes.here)
      (roomier_of (owing m n (lane_at book l)) (lane_at book l) (owing m n (lane_at mid l)) (λ i. owing (events i) (records i) (lane_at book l))
      (owing_roomier m n (owing (lane_at mid l).owed_events (lane_at mid l).owed_records (lane_at book l)) (lane_at mid l) unasked.lists))

  pub restored_beside : KeepsBeside book later l
  restored_beside = record {
    others = from_book.others;
    history = ap (λ h. h.items) goes.history ∙ beside.history;
    blocks = blocks_stay from_book.blocks;
    next = goes.next ∙ beside.next;
    stopped = ap (λ (b : Book E). b.stopped) is ∙ beside.stopped;
  }

  -- there are places for it as before
  module _ (deeds : Deeds E) (layout : Layout) (keeper kept : LogKeeper) (region : Region) (spare left : ℕ) (counts : Counts) (good : IsBook later)
      (unasked : IsUnasked book mid keeper kept spare left l) where
    stores_less : (sum most : ℕ) → sum ≤ spare → most ≡ sum → most ≤ left
    stores_less sum most le same = let more = unasked.more.stores in omega (arith, le, same, more)

    places_less : (sum most : ℕ) → sum ≤ free_places keeper → most ≡ sum → most ≤ free_places kept
    places_less sum most le same = let more = unasked.more.places in omega (arith, le, same, more)

    between_there : stage_of (lane_at book l) ≡ Between → stage_of (lane_at mid l) ≡ Between
    between_there between = ap (λ (x : Lane E). stage_of x) unasked.lists.is ∙ between

    back : (base : Base) → IsWorld deeds layout base book keeper region spare counts.events → IsWorld deeds layout base mid kept region left counts.events →
        IsWorld deeds layout base later kept region left counts.events
    back base was world = record {
      state = elim unasked.owed [
        | inl between ↦ memory_is_taken layout _ mid later kept kept region left left counts.events l m n (between_there between) goes good (same_keeper kept)
            (stores_less _ _ was.state.owing.stores (lane_sum_same (λ x. x.owed_events) book later l (owing m n (lane_at mid l)) from_book events))
            (places_less _ _ was.state.owing.places (lane_sum_same (λ x. x.owed_records) book later l (owing m n (lane_at mid l)) from_book records)) world.state
        | inr same ↦ notes_keep layout _ mid later kept region left counts.events l (owing m n (lane_at mid l))
            (owing_same m n (lane_at mid l) (events ∙ sym same.0) (records ∙ sym same.1)) goes good world.state
      ];
      lawful = steps_keep deeds layout base mid later l (owing m n (lane_at mid l)) mid.touched world.lawful lt is (owing_on m n (lane_at mid l));
    }

    pub restored : LacksMemory deeds layout book mid keeper kept region spare left counts l → ((base : Base) (k : ℕ) → faces_of base later k ≡ faces_of base mid k) →
        LacksMemory deeds layout book later keeper kept region spare left counts l
    restored lacks same = record {
      stays = λ base stood. ∥∥₁_elim stood ∥∥₁_prop (λ was. ∥∥₁_map (lacks.stays base stood) (back base was));
      face = face_then (λ face. face) book mid later l lacks.face (record {
        asks = λ base. record { others = λ k ne. same base k; face = same base l };
        many = goes.lanes.count;
        touched = ap (λ (b : Book E). b.touched) is;
      });
      phased = λ phased. phased_with mid later l (owing m n (lane_at mid l)) mid.touched lt (ap (λ (b : Book E). b.lanes) is) (owing_phased (lane_at mid l) m n) (lacks.phased phased);
    }

-- ---- a refusal

pub refused_lanes : {E : Type 0} (call : Call E) (refusal : Refusal) (lane later : Lane E) → later ≡ refused_lane call refusal lane → IsRoomier (refused_lane call refusal lane) later
refused_lanes call refusal lane later is = subst (λ (x : Lane _). IsRoomier (refused_lane call refusal lane) x) (sym is) (no_roomier (refused_lane call refusal lane))

pub lacking_lane : {E : Type 0} (call : Call E) (lane later : Lane E) → IsRoomier lane later → IsRoomier (refused_lane call Refusal.NoMemory lane) later
lacking_lane call lane later roomier = record {
  is = roomier.is;
  writes = roomier.writes;
  updates = roomier.updates;
  gives = roomier.gives;
  gates = roomier.gates;
  taken = roomier.taken;
  untaken = roomier.untaken;
  points = roomier.points;
}
