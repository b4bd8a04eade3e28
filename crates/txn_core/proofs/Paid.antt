-- What a book's calls change as the laws take it: a lane is another, for an event or a record it has paid, and the faces behind a payment are the same.
use Rattle.std.proofs.Common.{◌≡◌, ℕ, ◌<◌, true, length, Option, None, inl, inr, refl, sym, ◌∙◌, ap, subst}
use Rattle.std.specs.Vec.{with_item}
use Rattle.std.proofs.Math.Logic.{∥∥₁_map, ∥∥₁_elim}
use Rattle.std.proofs.lemmas.List.{length-set}
use Rattle.persist_model.specs.Region.{Region}
use Rattle.lane_traits.specs.Device.{Counts}
use Rattle.region_layout.specs.declared.layout.Layout.{Layout}
use Rattle.lane_types.specs.declared.call.Stepped.{Stepped}
use Rattle.lane_types.specs.Deeds.{Deeds}
use Rattle.lane_types.specs.Faces.{Base, WholeFace}
use Rattle.lane_types.specs.LaneSteps.{LaneStep}
use Rattle.lane_book.specs.declared.book.Book.{Book}
use Rattle.lane_book.specs.declared.lane.Lane.{Lane}
use Rattle.lane_book.specs.FacesOf.{lane_at, faces_of}
use Rattle.lane_book.specs.Lanes.{with_lane, noted, paid_event}
use Rattle.lane_book.specs.Steps.{Steps}
use Rattle.lane_book.proofs.Owing.{owing_faces}
use Rattle.txn_core.specs.LawfulWorlds.{IsLawfulWorld}
use Rattle.lawful_book.specs.Laws.{GoesOn, IsSameBook}
use Rattle.txn_core.proofs.LawfulKept.{steps_keep, same_books_keep}
use Rattle.lawful_book.proofs.GoingOn.{noted_on, owing_on}
use Rattle.log_keeper.specs.declared.keeper.LogKeeper.{LogKeeper}
use Rattle.txn_state.specs.Changes.{HasLane, GoesTo}
use Rattle.txn_state.proofs.SameTransaction.{notes_keep}
use Rattle.txn_core.specs.Running.{HasStopped}
use Rattle.txn_core.specs.Advancing.{Stops}
use Rattle.txn_core.specs.Latched.{Latches, stop_told}
use Rattle.txn_core.specs.States.{IsWorld, start_of}
use Rattle.txn_core.specs.Phases.{ArePhased}
use Rattle.txn_core.specs.Stepping.{StepsWorld, TouchesWord, HasMade, IsCause}
use Rattle.txn_core.proofs.Phasing.{phased_with, noted_phased}
use Rattle.txn_core.proofs.Touching.{TouchesNone, count_with, none_with, same_leaves, touches_none, touches_prop}
use Rattle.txn_core.proofs.Paying.{goes_lane, goes_stopped, goes_then, noted_same}

-- ---- lanes

-- one step behind another of the same lane
pub lane_then : {E : Type 0} (book between later : Book E) (l : ℕ) (first lane : Lane E) → HasLane book between l first → HasLane between later l lane →
    HasLane book later l lane
lane_then book between later l first lane was is = record {
  inside = was.inside;
  count = is.count ∙ was.count;
  here = is.here;
  others = λ k ne. is.others k ne ∙ was.others k ne;
  blocks = is.blocks ∙ was.blocks;
}

-- a lane that paid goes to one that the later step says by what it was behind the payment
pub paid_goes : {E : Type 0} (book between later : Book E) (l : ℕ) (first : Lane E) (change : Lane E → Lane E) (touched : Option ℕ) → l < length book.lanes.items →
    between ≡ with_lane book l first touched → GoesTo between later l (change (lane_at between l)) → GoesTo book later l (change first)
paid_goes book between later l first change touched lt is goes =
    let was = goes_lane book between l first touched lt is in
    goes_then book between later l first (change first) was (subst (λ (x : Lane _). GoesTo between later l (change x)) was.lanes.here goes)

-- ---- faces

-- A step behind a payment is one of the book before it.
pub paid_step : {E : Type 0} (deeds : Deeds E) (book between later : Book E) (l : ℕ) (answer : Stepped) → l < length book.lanes.items →
    between ≡ with_lane book l (paid_event (lane_at book l)) book.touched → Steps deeds between later l answer → Steps deeds book later l answer
paid_step deeds book between later l answer lt is step base =
    let same : (k : ℕ) → faces_of base between k ≡ faces_of base book k =
    owing_faces book between l (paid_event (lane_at book l)).owed_events (paid_event (lane_at book l)).owed_records lt is base in
    record {
      others = λ k ne. (step base).others k ne ∙ same k;
      step = subst (λ (f : WholeFace _). LaneStep deeds answer f (faces_of base later l)) (same l) (step base).step;
    }

-- ---- the book's laws

pub lawful_with : {E : Type 0} (deeds : Deeds E) (layout : Layout) (base : Base) (book later : Book E) (l : ℕ) (lane : Lane E) (touched : Option ℕ) → l < length book.lanes.items →
    later ≡ with_lane book l lane touched → GoesOn (lane_at book l) lane → IsLawfulWorld deeds layout base book → IsLawfulWorld deeds layout base later
lawful_with deeds layout base book later l lane touched lt is goes lawful = steps_keep deeds layout base book later l lane touched lawful lt is goes

pub lawful_paid : {E : Type 0} (deeds : Deeds E) (layout : Layout) (base : Base) (book between : Book E) (l : ℕ) → l < length book.lanes.items →
    between ≡ with_lane book l (paid_event (lane_at book l)) book.touched → IsLawfulWorld deeds layout base book → IsLawfulWorld deeds layout base between
lawful_paid deeds layout base book between l lt is lawful =
    lawful_with deeds layout base book between l (paid_event (lane_at book l)) book.touched lt is
    (owing_on (paid_event (lane_at book l)).owed_events (paid_event (lane_at book l)).owed_records (lane_at book l)) lawful

pub lanes_paid : {E : Type 0} (book between : Book E) (l : ℕ) → between ≡ with_lane book l (paid_event (lane_at book l)) book.touched →
    l < length book.lanes.items → l < length between.lanes.items
lanes_paid book between l is lt = subst (λ (b : Book _). l < length b.lanes.items) (sym is)
    (subst (λ n. l < n) (sym (length-set book.lanes.items l (paid_event (lane_at book l)))) lt)

pub count_paid : {E : Type 0} (book between later : Book E) (l : ℕ) (lane : Lane E) → between ≡ with_lane book l (paid_event (lane_at book l)) book.touched →
    later.lanes ≡ with_item between.lanes l lane → length later.lanes.items ≡ length book.lanes.items
count_paid book between later l lane pays is = count_with between later l lane is ∙ count_with book between l (paid_event (lane_at book l)) (ap (λ (b : Book _). b.lanes) pays)

-- ---- steps of the world

pub steps_world : {E : Type 0} (deeds : Deeds E) (layout : Layout) (book later : Book E) (keeper kept : LogKeeper) (region behind : Region) (spare left : ℕ) (counts after : Counts) (l : ℕ) (answer : Stepped) →
    ((base : Base) → IsWorld deeds layout base book keeper region spare counts.events → IsWorld deeds layout base later kept behind left after.events) →
    Steps deeds book later l answer → HasMade answer counts after → (ArePhased book → ArePhased later) → IsCause layout book keeper counts l answer →
    length later.lanes.items ≡ length book.lanes.items → ((base : Base) → IsWorld deeds layout base book keeper region spare counts.events → TouchesWord layout region behind later.touched) →
    Latches layout book later keeper kept l → StepsWorld deeds layout book later keeper kept region behind spare left counts after l answer
steps_world deeds layout book later keeper kept region behind spare left counts after l answer stays step made phased cause count touches latches = record {
  latches = latches;
  count = count;
  touches = λ base is. ∥∥₁_elim is (touches_prop layout region behind later.touched) (touches base);
  phased = phased;
  cause = cause;
  stays = λ base is. ∥∥₁_map is (stays base);
  face = λ base is. step base;
  made = made;
}

-- The device has stopped: nothing else is another but that the lane was told so.
lawful_stopped : {E : Type 0} (deeds : Deeds E) (layout : Layout) (base : Base) (book later : Book E) (l : ℕ) → l < length book.lanes.items →
    later ≡ record (with_lane book l (noted Stepped.Stopped (lane_at book l)) None) { stopped = true } → IsLawfulWorld deeds layout base book → IsLawfulWorld deeds layout base later
lawful_stopped deeds layout base book later l lt is lawful =
    let lane = noted Stepped.Stopped (lane_at book l) in
    same_books_keep deeds layout base (with_lane book l lane None) later
    (lawful_with deeds layout base book (with_lane book l lane None) l lane None lt refl (noted_on Stepped.Stopped (lane_at book l)) lawful)
    (subst (λ (b : Book _). IsSameBook (with_lane book l lane None) b) (sym is) (record { lanes = refl; history = refl; blocks = refl; next = refl }))

pub stops_world : {E : Type 0} (deeds : Deeds E) (layout : Layout) (book later : Book E) (keeper : LogKeeper) (region behind : Region) (spare left : ℕ) (counts after : Counts) (l : ℕ) →
    l < length book.lanes.items → HasStopped region behind counts after spare left → Stops deeds book later l →
    StepsWorld deeds layout book later keeper keeper region behind spare left counts after l Stepped.Stopped
stops_world deeds layout book later keeper region behind spare left counts after l lt device stops =
    steps_world deeds layout book later keeper keeper region behind spare left counts after l Stepped.Stopped stays stops.step (inr device.counted_it)
    (phased_with book later l (noted Stepped.Stopped (lane_at book l)) None lt (ap (λ (b : Book _). b.lanes) stops.is) (noted_phased (lane_at book l) Stepped.Stopped))
    (inl device.at_budget) touched.count (λ base world. touches_none layout region behind later.touched touched.none (same_leaves layout region behind device.region_stays))
    (stop_told (ap (λ (b : Book _). b.stopped) stops.is))
  where
    touched : TouchesNone book later
    touched = none_with book later l (noted Stepped.Stopped (lane_at book l)) (ap (λ (b : Book _). b.lanes) stops.is) (ap (λ (b : Book _). b.touched) stops.is)

    here : (base : Base) → IsWorld deeds layout base book keeper region spare counts.events → IsWorld deeds layout base later keeper region spare counts.events
    here base world = record {
      state = notes_keep layout (start_of layout base) book later keeper region spare counts.events l (noted Stepped.Stopped (lane_at book l))
          (noted_same Stepped.Stopped (lane_at book l)) (goes_stopped book later l (noted Stepped.Stopped (lane_at book l)) None lt stops.is) stops.kept world.state;
      lawful = lawful_stopped deeds layout base book later l lt stops.is world.lawful;
    }

    stays : (base : Base) → IsWorld deeds layout base book keeper region spare counts.events → IsWorld deeds layout base later keeper behind left after.events
    stays base world = subst (λ (c : Counts). IsWorld deeds layout base later keeper behind left c.events) (sym device.counted_it)
        (subst (λ (r : Region). IsWorld deeds layout base later keeper r left counts.events) (sym device.region_stays)
        (subst (λ (n : ℕ). IsWorld deeds layout base later keeper region n counts.events) (sym device.spare_stays) (here base world)))
