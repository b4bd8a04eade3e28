-- Memory is taken for a call, or the lane owes nothing.
use Rattle.std.proofs.Common.{◌≡◌, ℕ, zero, suc, ◌+◌, ◌-◌, ◌<◌, ◌≤◌, ◌^◌, min, length, refl, sym, ap, ◌∙◌, subst, arith}
use Rattle.std.proofs.Math.Logic.{∥∥₁_map}
use Rattle.persist_model.specs.Region.{Region}
use Rattle.lane_traits.specs.Device.{Counts}
use Rattle.lane_types.specs.Deeds.{Deeds}
use Rattle.lane_types.specs.Faces.{Base}
use Rattle.lane_book.specs.declared.book.Book.{Book}
use Rattle.lane_book.specs.declared.lane.Lane.{Lane}
use Rattle.lane_book.specs.Lanes.{with_lane, owing}
use Rattle.lane_book.specs.FacesOf.{lane_at, faces_of}
use Rattle.lane_book.specs.Books.{IsBook}
use Rattle.lane_book.specs.Owed as owed
use Rattle.lane_book.specs.Reserved.{reserved_in}
use Rattle.log_keeper.specs.declared.keeper.LogKeeper.{LogKeeper}
use Rattle.log_keeper.specs.Keeper.{keeping_of, free_places, KeepsSlots}
use Rattle.txn_laws.specs.Rooms.{sum_below}
use Rattle.txn_state.specs.Changes.{HasLane, GoesTo}
use Rattle.txn_state.specs.Changes as changes
use Rattle.txn_state.proofs.Lanes.{lane_sum_less}
use Rattle.txn_state.proofs.Sums.{summand_within}
use Rattle.txn_state.proofs.SameTransaction.{memory_is_taken}
use Rattle.txn_core.proofs.LawfulKept.{steps_keep}
use Rattle.lawful_book.proofs.GoingOn.{owing_on}
use Rattle.txn_core.specs.Asking.{Owes, StaysBetween}
use Rattle.txn_core.proofs.Paying.{goes_lane, goes_then}

-- ---- the book

pub owes : {E : Type 0} (book later : Book E) (l m n : ℕ) → l < length book.lanes.items → later ≡ with_lane book l (owing m n (lane_at book l)) book.touched →
    ((base : Base) (k : ℕ) → faces_of base later k ≡ faces_of base book k) →
    ((partitions kept p : ℕ) → reserved_in later partitions kept p ≡ reserved_in book partitions kept p) → Owes book later l m n
owes book later l m n lt is faces reserved = record {
  goes = goes_lane book later l (owing m n (lane_at book l)) book.touched lt is;
  faces = faces;
  reserved = reserved;
  touched = ap (λ (b : Book _). b.touched) is;
  stopped = ap (λ (b : Book _). b.stopped) is;
}

pub owes_twice : {E : Type 0} (book mid later : Book E) (l m n i j : ℕ) → Owes book mid l m n → Owes mid later l i j → Owes book later l i j
owes_twice book mid later l m n i j first second = record {
  goes = subst (λ x. GoesTo book later l (owing i j x)) first.goes.lanes.here (goes_then book mid later l _ _ first.goes second.goes);
  faces = λ base k. second.faces base k ∙ first.faces base k;
  reserved = λ partitions kept p. second.reserved partitions kept p ∙ first.reserved partitions kept p;
  touched = second.touched ∙ first.touched;
  stopped = second.stopped ∙ first.stopped;
}

-- ---- sums

pub owed_is_sum : {E : Type 0} (f : Lane E → ℕ) (book : Book E) (n : ℕ) → owed.sum_below f book n ≡ sum_below (λ k. f (lane_at book k)) n
owed_is_sum f book zero = refl
owed_is_sum f book (suc n) = ap (λ m. m + f (lane_at book n)) (owed_is_sum f book n)

-- a sum that isn't the greatest number is what it says
pub exact : (sum told most : ℕ) → told ≡ min sum most → told < most → told ≡ sum
exact sum told most is less = omega (arith, is, less)

-- ---- the keeper

pub kept_slots : (keeper later : LogKeeper) → later.slots ≡ keeper.slots → KeepsSlots keeper.slots.items later.slots.items
kept_slots keeper later same = subst (λ s. KeepsSlots keeper.slots.items s.items) (sym same) record { count = refl; lists = λ p n lt has. has }

pub same_keeper : (keeper : LogKeeper) → changes.IsKept keeper keeper (keeping_of keeper)
same_keeper keeper = record { kept = refl; number = refl; places = omega arith; slots = record { count = refl; lists = λ p n lt has. has } }

-- ---- the state

-- the lane owes so much, for which there are places
pub stays_owing : {E : Type 0} (deeds : Deeds E) (book later : Book E) (keeper kept : LogKeeper) (region : Region) (spare left : ℕ) (counts : Counts) (l m n : ℕ) → l < length book.lanes.items →
    later ≡ with_lane book l (owing m n (lane_at book l)) book.touched → IsBook later → changes.IsKept keeper kept (keeping_of keeper) →
    owed.owed_events_in later ≤ left → owed.owed_records_in later ≤ free_places kept → StaysBetween deeds book later keeper kept region spare left counts l
stays_owing deeds book later keeper kept region spare left counts l m n lt is good takes stores places layout base between world = ∥∥₁_map world (λ w. record {
  state = memory_is_taken layout _ book later keeper kept region spare left counts.events l m n between (goes_lane book later l (owing m n (lane_at book l)) book.touched lt is) good takes
      (subst (λ s. s ≤ left) (owed_is_sum (λ x. x.owed_events) later (length later.lanes.items)) stores)
      (subst (λ s. s ≤ free_places kept) (owed_is_sum (λ x. x.owed_records) later (length later.lanes.items)) places) w.state;
  lawful = steps_keep deeds layout base book later l (owing m n (lane_at book l)) book.touched w.lawful lt is (owing_on m n (lane_at book l));
})

-- so does what one lane owes where all owe less
pub small_owed : {E : Type 0} (f : Lane E → ℕ) (book : Book E) (l n told : ℕ) → l < length book.lanes.items → f (lane_at book l) ≡ n → told ≡ min (owed.sum_of f book) (2 ^ 64 - 1) →
    told < 2 ^ 64 - 1 → n < 2 ^ 64 - 1
small_owed f book l n told lt is told_is less =
    let within = summand_within (λ k. f (lane_at book k)) l (length book.lanes.items) lt in
    let same = owed_is_sum f book (length book.lanes.items) in
    let sum = exact (owed.sum_of f book) told (2 ^ 64 - 1) told_is less in
    omega (arith, within, same, sum, is, less)

-- or nothing, with no place less
pub stays_without : {E : Type 0} (deeds : Deeds E) (book mid later : Book E) (keeper kept : LogKeeper) (region : Region) (spare left : ℕ) (counts : Counts) (l m n : ℕ) →
    l < length book.lanes.items → l < length mid.lanes.items →
    mid ≡ with_lane book l (owing m n (lane_at book l)) book.touched → later ≡ with_lane mid l (owing 0 0 (lane_at mid l)) mid.touched →
    IsBook later → changes.IsKept keeper kept (keeping_of keeper) → spare ≤ left → StaysBetween deeds book later keeper kept region spare left counts l
stays_without deeds book mid later keeper kept region spare left counts l m n lt lt_mid first second good takes places layout base between world = ∥∥₁_map world (λ w. record {
  state = memory_is_taken layout _ book later keeper kept region spare left counts.events l 0 0 between goes good takes
      (let sum = lane_sum_less (λ x. x.owed_events) book later l (owing 0 0 (lane_at book l)) goes.lanes (omega arith) in let most = w.state.owing.stores in omega (arith, sum, most, places))
      (let sum = lane_sum_less (λ x. x.owed_records) book later l (owing 0 0 (lane_at book l)) goes.lanes (omega arith) in let most = w.state.owing.places in let more = takes.places in
      omega (arith, sum, most, more)) w.state;
  lawful = steps_keep deeds layout base mid later l (owing 0 0 (lane_at mid l)) mid.touched
      (steps_keep deeds layout base book mid l (owing m n (lane_at book l)) book.touched w.lawful lt first (owing_on m n (lane_at book l))) lt_mid second (owing_on 0 0 (lane_at mid l));
})
  where
    goes_mid : GoesTo book mid l (owing m n (lane_at book l))
    goes_mid = goes_lane book mid l (owing m n (lane_at book l)) book.touched lt first

    goes : GoesTo book later l (owing 0 0 (lane_at book l))
    goes = subst (λ x. GoesTo book later l (owing 0 0 x)) goes_mid.lanes.here (goes_then book mid later l (owing m n (lane_at book l)) (owing 0 0 (lane_at mid l)) goes_mid
        (goes_lane mid later l (owing 0 0 (lane_at mid l)) mid.touched lt_mid second))
