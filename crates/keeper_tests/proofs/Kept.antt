-- What the tests' checks of a slot say to the keeper.
use Rattle.std.proofs.Common.{◌≡◌, ℕ, ◌<◌, ◌≤◌, List, length, get_or, sym, subst, arith}
use Rattle.log_keeper.specs.declared.slots.Slot.{Slot}
use Rattle.log_keeper.specs.Parts.{LogPart, Running}
use Rattle.log_keeper.specs.Slots.{run_of_slot}
use Rattle.log_keeper.specs.Logged.{resting}
use Rattle.log_keeper.specs.Keeper.{at_slot, HasListsFor, HasListFor, HasRoomIn}
use Rattle.log_keeper.proofs.SlotLists.{read_slot}

-- what holds of the slot's part holds of the partition's
pub part_of_slot : (P : LogPart → Type 0) (xs : List Slot) (p : ℕ) (x : Slot) → p < length xs → x ≡ get_or xs p x → P (run_of_slot x).part → P (at_slot run_of_slot resting xs p).part
part_of_slot P xs p x lt is k = subst (λ (run : Running). P run.part) (sym (read_slot run_of_slot resting xs p x lt is)) k

pub made_of_slot : (n : ℕ) (xs : List Slot) (p : ℕ) (x : Slot) → p < length xs → x ≡ get_or xs p x → x.made < n → (at_slot run_of_slot resting xs p).made < n
made_of_slot n xs p x lt is k = subst (λ (run : Running). run.made < n) (sym (read_slot run_of_slot resting xs p x lt is)) k

-- memory for n gates a list is memory for fewer
pub lists_for : (xs : List Slot) (p n : ℕ) (gates ends checkpoints : List ℕ) → length gates ≤ n → length ends ≤ n → length checkpoints ≤ n → HasRoomIn xs p n → HasListsFor xs p gates ends checkpoints
lists_for xs p n gates ends checkpoints a b c room = λ x is. (
    let has = room x is in
    let first = has.0 in
    let second = has.1 in
    let third = has.2 in
    (omega (arith, a, first), omega (arith, b, second), omega (arith, c, third)))

pub list_for : (xs : List Slot) (p n : ℕ) (gates : List ℕ) → length gates ≤ n → HasRoomIn xs p n → HasListFor xs p gates
list_for xs p n gates a room = λ x is. let has = (room x is).0 in omega (arith, a, has)
