-- The lines that begin and end lanes and transactions.
use Rattle.std.specs.Prelude.{◌≡◌, ℕ, ◌+◌, ◌^◌, List, [], ◌∷◌, ◌++◌, length, Bool, ◌&&◌, nat_lt, Result, Ok, Err, if◌then◌else◌, bit_or}
use Rattle.std.specs.List.{list_all}
use Rattle.rewind_script.specs.Steps.{◌>>=◌, guard, sized, numerals}
use Rattle.rewind_script.specs.Order.{is_lane}
use Rattle.rewind_script.specs.declared.fault.Fault.{Fault}
use Rattle.rewind_script.specs.declared.fault.Fault.TheVariants as fault
use Rattle.rewind_script.specs.declared.read.refusal.Refusal.{Refusal}
use Rattle.rewind_script.specs.declared.read.refusal.Refusal.TheVariants as refusal
use Rattle.rewind_script.specs.declared.script.TheConstants.{MOST_TRANSACTIONS}
use Rattle.rewind_script.specs.declared.script.Item.TheVariants as item
use Rattle.rewind_script.specs.declared.script.LaneText.{LaneText}
use Rattle.rewind_script.specs.declared.read.reading.Part.TheVariants as part
use Rattle.rewind_script.specs.declared.read.reading.Reading.{Reading}

-- the lanes so far, that which is being read among them
unfoldable pub lanes_of : Reading → List LaneText
lanes_of reading = if is_lane reading.part then reading.lanes ++ record { items = reading.items } ∷ [] else reading.lanes

-- the lane that was being read is among the lanes, and no other has begun
abbrev pub Closes : Result (Unit {0}) Refusal → Reading → Reading → Type 0
Closes (Ok x) before after = after ≡ record before { lanes = lanes_of before; items = [] }
Closes (Err e) before after = e ≡ refusal.Memory

-- lane
unfoldable pub after_lane : Reading → List (List ℕ) → Result Reading Fault
after_lane reading args = do
  _ ← sized 0 args
  _ ← guard (nat_lt (length (lanes_of reading)) 16) fault.Limit
  Ok (record reading { part = part.Lane; lanes = lanes_of reading; items = [] })

-- a set with the bits of the structures of a list
unfoldable pub with_bits : ℕ → List ℕ → ℕ
with_bits set [] = set
with_bits set (s ∷ rest) = with_bits (bit_or set (2 ^ s)) rest

-- a structure that a script can name, and that the region has
abbrev pub is_structure : Reading → ℕ → Bool
is_structure reading s = nat_lt s 8 && nat_lt s (length reading.kinds)

abbrev pub structure : Reading → ℕ → Result ℕ Fault
structure reading s = guard (is_structure reading s) fault.Range >>= λ _. Ok s

abbrev pub set_of : Reading → List ℕ → Result ℕ Fault
set_of reading list = guard (list_all (is_structure reading) list) fault.Range >>= λ _. Ok (with_bits 0 list)

-- begin S S
unfoldable pub after_begin : Reading → List (List ℕ) → Result Reading Fault
after_begin reading args = do
  _ ← guard (nat_lt 0 (length args)) fault.Count
  list ← numerals args
  set ← set_of reading list
  _ ← guard (nat_lt reading.transactions MOST_TRANSACTIONS) fault.Limit
  Ok (record reading { part = part.Transaction; transactions = reading.transactions + 1; set = set; commands = [] })

-- checkpoint
unfoldable pub after_checkpoint : Reading → List (List ℕ) → Result Reading Fault
after_checkpoint reading args = do
  _ ← sized 0 args
  Ok (record reading { items = reading.items ++ item.Checkpoint ∷ [] })

-- commit and abort
unfoldable pub after_ending : Bool → Reading → List (List ℕ) → Result Reading Fault
after_ending commit reading args = do
  _ ← sized 0 args
  Ok (record reading { part = part.Lane; items = reading.items ++ item.Transaction reading.set reading.commands commit ∷ []; commands = [] })
