-- The lines within a transaction.
use Rattle.std.specs.Prelude.{ℕ, ◌+◌, ◌/◌, ◌%◌, ◌^◌, List, [], ◌∷◌, ◌++◌, length, min, Bool, true, false, not, ◌||◌, ◌==◌, nat_lt, nat_le, Result, Ok}
use Rattle.std.specs.List.{slice_index_or}
use Rattle.rewind_script.specs.Steps.{◌>>=◌, guard, numeral, arg, sized}
use Rattle.rewind_script.specs.Lanes.{structure}
use Rattle.region_layout.specs.declared.layout.Kind.{Kind}
use Rattle.region_layout.specs.declared.layout.Kind.TheVariants.{Cells, Tree, Hash}
use Rattle.rewind_script.specs.declared.fault.Fault.{Fault}
use Rattle.rewind_script.specs.declared.fault.Fault.TheVariants as fault
use Rattle.rewind_script.specs.declared.script.TheConstants.{MOST_COMMANDS}
use Rattle.rewind_script.specs.declared.script.Command.{Command}
use Rattle.rewind_script.specs.declared.script.Command.TheVariants as command
use Rattle.rewind_script.specs.declared.read.reading.Reading.{Reading}

abbrev pub is_cells : Kind → Bool
is_cells Cells = true
is_cells Tree = false
is_cells Hash = false

abbrev pub holds : ℕ → ℕ → Bool
holds set s = set / 2 ^ s % 2 == 1

-- a key of a structure that the transaction named
unfoldable pub reached : Reading → ℕ → ℕ → Result (Unit {0}) Fault
reached reading s key = do
  _ ← guard (not (is_cells (slice_index_or reading.kinds s Tree)) || nat_le key 11) fault.Key
  guard (holds reading.set s) fault.Held

abbrev pub with_command : Reading → Command → Result Reading Fault
with_command reading command = do
  _ ← guard (nat_lt (length reading.commands) MOST_COMMANDS) fault.Limit
  Ok (record reading { commands = reading.commands ++ command ∷ [] })

-- put S K V
unfoldable pub after_put : Reading → List (List ℕ) → Result Reading Fault
after_put reading args = do
  _ ← sized 3 args
  s ← numeral (arg args 0)
  key ← numeral (arg args 1)
  value ← numeral (arg args 2)
  map ← structure reading s
  _ ← guard (not (value == 0)) fault.Value
  _ ← reached reading map key
  with_command reading (command.Put map key value)

-- S K
unfoldable pub structure_key : Reading → List (List ℕ) → Result (ℕ × ℕ) Fault
structure_key reading args = do
  _ ← sized 2 args
  s ← numeral (arg args 0)
  key ← numeral (arg args 1)
  map ← structure reading s
  _ ← reached reading map key
  Ok (map, key)

-- del S K and get S K
unfoldable pub after_key : (ℕ → ℕ → Command) → Reading → List (List ℕ) → Result Reading Fault
after_key make reading args = do
  at ← structure_key reading args
  with_command reading (make at.0 at.1)

-- the savepoints that stand after a command, of live before it
abbrev pub live_step : ℕ → Command → ℕ
live_step live command.Savepoint = live + 1
live_step live (command.Rollback n) = min (n + 1) live
live_step live _ = live

unfoldable pub live_after : ℕ → List Command → ℕ
live_after live [] = live
live_after live (command ∷ rest) = live_after (live_step live command) rest

-- savepoint
unfoldable pub after_savepoint : Reading → List (List ℕ) → Result Reading Fault
after_savepoint reading args = do
  _ ← sized 0 args
  with_command reading command.Savepoint

-- rollback N
unfoldable pub after_rollback : Reading → List (List ℕ) → Result Reading Fault
after_rollback reading args = do
  _ ← sized 1 args
  n ← numeral (arg args 0)
  _ ← guard (nat_lt n (live_after 0 reading.commands)) fault.Range
  with_command reading (command.Rollback n)
