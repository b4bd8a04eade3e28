-- The keeper's fields as plain data, and what its calls do with it.
use Rattle.std.specs.Prelude.{◌≡◌, ℕ, zero, suc, ◌-◌, ◌<◌, ◌≤◌, Bool, if◌then◌else◌, List, [], ◌∷◌, length, get_or, not, ◌==◌, nat_lt}
use Rattle.std.specs.Vec.{vec_len, vec_capacity}
use Rattle.persist_model.specs.Records.{Record}
use Rattle.region_layout.specs.declared.cell.Cell.{Cell}
use Rattle.bucket_log.specs.declared.append.Place.{Place}
use Rattle.log_keeper.specs.declared.slots.TheConstants.{NOBODY}
use Rattle.log_keeper.specs.declared.ledger.Entry.{Entry}
use Rattle.log_keeper.specs.declared.slots.Slot.{Slot}
use Rattle.log_keeper.specs.declared.keeper.LogKeeper.{LogKeeper}
use Rattle.log_keeper.specs.Parts.{LogPart, appends}
use Rattle.log_keeper.specs.Ledger.{Drawn, Noted}
use Rattle.log_keeper.specs.Noting.{ledger_of}
use Rattle.log_keeper.specs.Slots.{run_of_slot, HasRoomFor, HasRoomOf}
use Rattle.log_keeper.specs.Logged.{Keeping, resting, beginning, latched}

-- a value of the slot with this number, and another past the last
abbrev pub at_slot : {A : Type 0} → (Slot → A) → A → List Slot → ℕ → A
at_slot f d [] p = d
at_slot f d (x ∷ slots) zero = f x
at_slot f d (x ∷ slots) (suc p) = at_slot f d slots p

abbrev pub holder_of : Slot → ℕ
holder_of slot = slot.holder

abbrev pub plain_of : List Entry → List Slot → Keeping
plain_of entries slots = record { ledger = ledger_of entries; runs = at_slot run_of_slot resting slots; holder = at_slot holder_of NOBODY slots }

abbrev pub keeping_of : LogKeeper → Keeping
keeping_of keeper = plain_of keeper.ledger.items keeper.slots.items

-- the cell has this number
abbrev pub numbered : ℕ → Cell → Cell
numbered n cell = record cell { lsn = n }

-- the holder of the partition's latch begins a part
abbrev pub begun_in : ℕ → LogPart → List Noted → Keeping → Keeping
begun_in p part ledger k = beginning p (k.holder p) part ledger k

-- it begins the append of this record, whose number is drawn
abbrev pub appending : ℕ → Place → Record → Keeping → Keeping
appending p place r k = begun_in p (appends place r) (record { lane = k.holder p; entry = r; stage = Drawn } ∷ k.ledger) k

-- the latch is taken if it is free
abbrev pub latched_if : Bool → ℕ → ℕ → Keeping → Keeping
latched_if free p lane k = if free then latched p lane k else k

-- the partition's slot has memory for these gates
abbrev pub HasListsFor : List Slot → ℕ → List ℕ → List ℕ → List ℕ → Type 0
HasListsFor slots p gates ends checkpoints = (x : Slot) → x ≡ get_or slots p x → HasRoomFor x gates ends checkpoints

abbrev pub HasListFor : List Slot → ℕ → List ℕ → Type 0
HasListFor slots p gates = (x : Slot) → x ≡ get_or slots p x → length gates ≤ vec_capacity x.gates

abbrev pub HasRoomIn : List Slot → ℕ → ℕ → Type 0
HasRoomIn slots p n = (x : Slot) → x ≡ get_or slots p x → HasRoomOf x n

-- somebody holds the slot's latch
abbrev pub is_held : Slot → Bool
is_held slot = not (slot.holder == NOBODY)

abbrev pub held_by : ℕ → Slot → Slot
held_by lane slot = record slot { holder = lane }

-- one lane holds the latches of all n partitions
abbrev pub all_latched : ℕ → ℕ → Keeping → Keeping
all_latched lane n k = record { ledger = k.ledger; runs = k.runs; holder = λ q. if nat_lt q n then lane else k.holder q }

abbrev pub all_latched_if : Bool → ℕ → ℕ → Keeping → Keeping
all_latched_if free lane n k = if free then all_latched lane n k else k

-- how many records more the ledger has memory for
abbrev pub free_places : LogKeeper → ℕ
free_places keeper = vec_capacity keeper.ledger - vec_len keeper.ledger

-- there are as many slots, and no list of a slot has less memory
pub record KeepsSlots (slots later : List Slot) : Type 0 where
  pub count : length later ≡ length slots
  pub lists : (p n : ℕ) → p < length slots → HasRoomIn slots p n → HasRoomIn later p n
