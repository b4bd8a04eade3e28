-- What memory slots have, and slots that are free.
use Rattle.std.proofs.Common.{◌≡◌, ℕ, zero, suc, ◌<◌, List, [], ◌∷◌, ◌++◌, length, get_or, set, map, refl, sym, ap, subst, arith}
use Rattle.std.proofs.lemmas.List.{length-set, length-map}
use Rattle.log_keeper.specs.declared.slots.TheConstants.{NOBODY}
use Rattle.log_keeper.specs.declared.slots.Slot.{Slot}
use Rattle.log_keeper.specs.Slots.{run_of_slot, HasRoomOf}
use Rattle.log_keeper.specs.Logged.{resting}
use Rattle.log_keeper.specs.Keeper.{at_slot, holder_of, held_by, HasRoomIn, KeepsSlots}
use Rattle.log_keeper.specs.Starting.{IsFree, AreFree}

room_set : (xs : List Slot) (p q n : ℕ) (x y : Slot) → p < length xs → q < length xs → x ≡ get_or xs p x → (HasRoomOf x n → HasRoomOf y n) →
    HasRoomIn xs q n → HasRoomIn (set xs p y) q n
room_set [] p q n x y lt below is more room = absurd (omega (arith, lt))
room_set (a ∷ xs) zero zero n x y lt below is more room = λ z e. subst (λ s. HasRoomOf s n) (sym e) (more (room x is))
room_set (a ∷ xs) zero (suc q) n x y lt below is more room = room
room_set (a ∷ xs) (suc p) zero n x y lt below is more room = room
room_set (a ∷ xs) (suc p) (suc q) n x y lt below is more room = room_set xs p q n x y (omega (arith, lt)) (omega (arith, below)) is more room

-- one slot has another in its place, which has no less memory
pub keeps_set : (xs : List Slot) (p : ℕ) (x y : Slot) → p < length xs → x ≡ get_or xs p x → ((n : ℕ) → HasRoomOf x n → HasRoomOf y n) → KeepsSlots xs (set xs p y)
keeps_set xs p x y lt is more = record {
  count = length-set xs p y;
  lists = λ q n below room. room_set xs p q n x y lt below is (more n) room;
}

pub keeps_same : (xs later : List Slot) → later ≡ xs → KeepsSlots xs later
keeps_same xs later is = record {
  count = ap length is;
  lists = λ q n below room. subst (λ s. HasRoomIn s q n) (sym is) room;
}

room_held : (lane : ℕ) (xs : List Slot) (q n : ℕ) → q < length xs → HasRoomIn xs q n → HasRoomIn (map (held_by lane) xs) q n
room_held lane [] q n below room = absurd (omega (arith, below))
room_held lane (x ∷ xs) zero n below room = λ z e. subst (λ s. HasRoomOf s n) (sym e) (room x refl)
room_held lane (x ∷ xs) (suc q) n below room = room_held lane xs q n (omega (arith, below)) room

pub keeps_held : (lane : ℕ) (xs later : List Slot) → later ≡ map (held_by lane) xs → KeepsSlots xs later
keeps_held lane xs later is = subst (KeepsSlots xs) (sym is) (record {
  count = length-map xs (held_by lane);
  lists = λ q n below room. room_held lane xs q n below room;
})

-- ---- free slots

pub free_more : (xs : List Slot) (x : Slot) → AreFree xs → IsFree x → AreFree (xs ++ x ∷ [])
free_more [] x each is = (is, tt)
free_more (y ∷ xs) x each is = (each.0, free_more xs x each.1 is)

pub free_runs : (xs : List Slot) (q : ℕ) → AreFree xs → at_slot run_of_slot resting xs q ≡ resting
free_runs [] q each = refl
free_runs (x ∷ xs) zero each = each.0.0
free_runs (x ∷ xs) (suc q) each = free_runs xs q each.1

pub free_holders : (xs : List Slot) (q : ℕ) → AreFree xs → at_slot holder_of NOBODY xs q ≡ NOBODY
free_holders [] q each = refl
free_holders (x ∷ xs) zero each = each.0.1
free_holders (x ∷ xs) (suc q) each = free_holders xs q each.1
