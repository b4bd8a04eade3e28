-- What the code keeps of a partition, as plain data.
use Rattle.std.specs.Prelude.{ℕ, ◌<◌, ◌≤◌, List, length, get_or, IsPermutation}
use Rattle.std.specs.Vec.{vec_capacity}
use Rattle.bucket_log.specs.Plans.{place_address}
use Rattle.region_layout.specs.Cell.{record_of}
use Rattle.log_keeper.specs.declared.slots.Part.{Part}
use Rattle.log_keeper.specs.declared.slots.Part.TheVariants.{Rest, Append, Close, TakeBack, Drop}
use Rattle.log_keeper.specs.declared.slots.Slot.{Slot}
use Rattle.log_keeper.specs.Parts.{LogPart, rests, appends, closes, takes_back, drops, Running}

-- the part, with the gates of the slot's closing
abbrev pub part_with : List ℕ → List ℕ → List ℕ → Part → LogPart
part_with gates ends checkpoints Rest = rests
part_with gates ends checkpoints (Append place cell) = appends place (record_of (place_address place) cell)
part_with gates ends checkpoints Close = closes gates ends checkpoints
part_with gates ends checkpoints TakeBack = takes_back gates
part_with gates ends checkpoints (Drop r) = drops r

abbrev pub run_of_slot : Slot → Running
run_of_slot slot = record { part = part_with slot.gates.items slot.ends.items slot.checkpoints.items slot.part; made = slot.made }

-- another part, of which so much is made
abbrev pub with_part : Part → ℕ → Slot → Slot
with_part part made slot = record slot { part = part; made = made }

-- the slot's lists have memory for these gates
abbrev pub HasRoomFor : Slot → List ℕ → List ℕ → List ℕ → Type 0
HasRoomFor slot gates ends checkpoints =
    (length gates ≤ vec_capacity slot.gates) × (length ends ≤ vec_capacity slot.ends) × (length checkpoints ≤ vec_capacity slot.checkpoints)

-- no gate is above one behind it
abbrev pub AreAscending : List ℕ → Type 0
AreAscending gates = (i j : ℕ) → i ≤ j → j < length gates → get_or gates i 0 ≤ get_or gates j 0

-- the same gates, in the order of their addresses
pub record IsSortedOf (gates sorted : List ℕ) : Type 0 where
  pub same : IsPermutation gates sorted
  pub ascending : AreAscending sorted

-- its lists have memory for so many gates each
abbrev pub HasRoomOf : Slot → ℕ → Type 0
HasRoomOf slot n = (n ≤ vec_capacity slot.gates) × (n ≤ vec_capacity slot.ends) × (n ≤ vec_capacity slot.checkpoints)
