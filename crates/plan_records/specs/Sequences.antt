-- The parts that the plans of both policies share.
use Rattle.std.specs.Prelude.{ℕ, ◌<◌, ◌^◌, List, [], ◌∷◌, ◌++◌}
use Rattle.persist_model.specs.declared.event.Event.{Event}
use Rattle.persist_model.specs.declared.event.Event.TheVariants.{Store, PStore}
use Rattle.region_layout.specs.declared.cell.Cell.{Cell}
use Rattle.region_layout.specs.declared.layout.Policy.{Policy}
use Rattle.region_layout.specs.declared.layout.Policy.TheVariants.{Force, NoForce}
use Rattle.plan_records.specs.declared.parts.Part.{Part}
use Rattle.plan_records.specs.declared.parts.Part.TheVariants.{Append, Word, Fence}
use Rattle.region_layout.specs.RecordCells.{cell_of_compensation}

abbrev pub store_of : Policy → ℕ → ℕ → Event
store_of Force word value = PStore word value
store_of NoForce word value = Store word value

-- each update's compensation, and its value before for its word
abbrev pub undo_parts : Policy → List Cell → List Part
undo_parts policy [] = []
undo_parts policy (u ∷ updates) = Append (cell_of_compensation u) ∷ Word (store_of policy u.word u.before) ∷ undo_parts policy updates

abbrev pub zero_parts : List ℕ → List Part
zero_parts [] = []
zero_parts (a ∷ owners) = Word (PStore a 0) ∷ zero_parts owners

-- 0 to each of these owner words, and then a fence; nothing where there are none
abbrev pub owner_parts : List ℕ → List Part
owner_parts [] = []
owner_parts (a ∷ owners) = Word (PStore a 0) ∷ (zero_parts owners ++ Fence ∷ [])

-- the cell's word is an address of 32 bits
abbrev pub HasAddress : Cell → Type 0
HasAddress cell = cell.word < 2 ^ 32
