-- What the program makes of a text so far: the sizes of a region with one map of cells, and the puts of one lane's transactions.
use Rattle.std.specs.Prelude.{◌≡◌, ℕ, ◌<◌, ◌≤◌, List, [], ◌∷◌, ◌++◌, length, flat_map, Bool, true, false, not, ◌&&◌, ◌==◌, nat_le, Option, Some, None, Result, Ok, Err, All, codes, decimal}
use Rattle.std.specs.List.{list_all}
use Rattle.persist_model.specs.Shape.{IsBucketCount, IsBlockCount}
use Rattle.region_layout.specs.CellsMap.{CELL_KEYS}
use Rattle.rewind_script.specs.declared.script.TheConstants.{MOST_COMMANDS, MOST_TRANSACTIONS}
use Rattle.rewind_script.specs.declared.script.Command.{Command}
use Rattle.rewind_script.specs.declared.script.Command.TheVariants as command
use Rattle.rewind_script.specs.declared.script.Item.{Item}
use Rattle.rewind_script.specs.declared.script.Item.TheVariants as item
use Rattle.rewind_script.specs.declared.script.LaneText.{LaneText}
use Rattle.rewind_script.specs.declared.fault.Fault.{Fault}
use Rattle.rewind_script.specs.declared.fault.Fault.TheVariants as fault
use Rattle.rewind_script.specs.declared.fault.ScriptFault.{ScriptFault}
use Rattle.rewind_script.specs.declared.fault.ScriptFault.TheVariants.{Line}
use Rattle.rewind_script.specs.Grammar.{Meaning, script as meaning_of_text}
use Rattle.rewind_script.specs.Served.{is_one_cells, is_served_lane}
use Rattle.rewind.specs.declared.script.Put.{Put}
use Rattle.rewind.specs.declared.script.Script.{Script}
use Rattle.rewind.specs.declared.served.Wrong.{Wrong}
use Rattle.rewind.specs.declared.served.Wrong.TheVariants as wrong
use Rattle.rewind.specs.declared.served.Refusal.{Refusal}
use Rattle.rewind.specs.declared.served.Refusal.TheVariants as refusal

-- ---- which scripts are run

-- The script is under force with a simple log in one part and one map of cells, and has at most one lane, of transactions of
-- puts that are committed.
abbrev pub serves : Meaning → Bool
serves m =
    ((m.shape.policy == 1) && m.shape.cells == 1 && m.shape.partitions == 1 && not m.batch && is_one_cells m.kinds)
    && (length m.turns == 0 && nat_le (length m.lanes) 1 && list_all is_served_lane m.lanes)

-- ---- what is done for one

abbrev pub put_of : Command → List Put
put_of (command.Put map key value) = record { key = key; value = value } ∷ []
put_of _ = []

abbrev pub puts_of : List Command → List Put
puts_of commands = flat_map put_of commands

abbrev pub transaction_of : Item → List (List Put)
transaction_of (item.Transaction set commands commit) = puts_of commands ∷ []
transaction_of item.Checkpoint = []

abbrev pub lane_of : LaneText → List (List Put)
lane_of lane = flat_map transaction_of lane.items

abbrev pub script_of : Meaning → Script
script_of m = record { buckets = m.shape.buckets; blocks = m.shape.blocks; transactions = flat_map lane_of m.lanes }

abbrev pub served : Bool → Meaning → Option Script
served true m = Some (script_of m)
served false m = None

abbrev pub script_of_meaning : Result Meaning ScriptFault → Option Script
script_of_meaning (Ok m) = served (serves m) m
script_of_meaning (Err e) = None

-- The script that the program runs for a text, and nothing for a text that is no script, or one that isn't served.
abbrev pub script : List ℕ → Option Script
script text = script_of_meaning (meaning_of_text text)

-- ---- why a text isn't run

-- the text has this first wrong line, or it is a script that isn't served
abbrev pub IsWrong : Result Meaning ScriptFault → Wrong → Type 0
IsWrong meaning (wrong.Line line kind) = meaning ≡ Err (Line line kind)
IsWrong meaning wrong.Unserved = (m : Meaning) × (meaning ≡ Ok m) × (serves m ≡ false)

abbrev pub kind_text : Fault → List ℕ
kind_text fault.Byte = codes "byte"
kind_text fault.Word = codes "word"
kind_text fault.Count = codes "count"
kind_text fault.Number = codes "number"
kind_text fault.Range = codes "range"
kind_text fault.Value = codes "value"
kind_text fault.Key = codes "key"
kind_text fault.Held = codes "held"
kind_text fault.Limit = codes "limit"
kind_text fault.Unfinished = codes "unfinished"

-- script LINE KIND
abbrev pub wrong_text : Wrong → List ℕ
wrong_text (wrong.Line line kind) = codes "script " ++ (decimal line ++ (codes " " ++ (kind_text kind ++ codes "\n")))
wrong_text wrong.Unserved = codes "script 0 form\n"

-- What the reader answers: what the text means to the program, unless memory ran out.
abbrev pub Gives : Result Meaning ScriptFault → Result Script Refusal → Type 0
Gives meaning (Ok s) = script_of_meaning meaning ≡ Some s
Gives meaning (Err (refusal.Wrong w)) = (script_of_meaning meaning ≡ None) × IsWrong meaning w
Gives meaning (Err refusal.NoMemory) = Unit {0}

-- ---- what the limits say of a script

pub record IsPut (put : Put) : Type 0 where
  pub key : put.key < CELL_KEYS
  pub value : 1 ≤ put.value

pub record IsTransaction (puts : List Put) : Type 0 where
  pub short : length puts ≤ MOST_COMMANDS
  pub each : All IsPut puts

pub record IsInLimits (buckets blocks : ℕ) (transactions : List (List Put)) : Type 0 where
  pub buckets_within : IsBucketCount buckets
  pub blocks_within : IsBlockCount blocks
  pub short : length transactions ≤ MOST_TRANSACTIONS
  pub each : All IsTransaction transactions
