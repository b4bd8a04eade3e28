-- Histories of a script's transactions, by their names, and the maps that they make. Nothing here knows of words, of a log or
-- of turns.
use Rattle.std.specs.Prelude.{◌≡◌, ℕ, ◌<◌, Bool, true, List, [], ◌∷◌, ◌++◌, All, Option, Some, None}
use Rattle.std.specs.List.{slice_get}
use Rattle.region_layout.specs.FiniteMap.{lookup}
use Rattle.rewind_script.specs.declared.script.Script.{Script}
use Rattle.rewind_script.specs.declared.script.LaneText.{LaneText}
use Rattle.rewind_script.specs.declared.script.Item.{Item}
use Rattle.rewind_script.specs.declared.script.Item.TheVariants as item
use Rattle.rewind_script.specs.declared.script.Command.{Command}
use Rattle.rewind_script.specs.declared.script.Command.TheVariants as command
use Rattle.rewind_script.specs.declared.report.Named.{Named}
use Rattle.rewind_script.specs.declared.report.Got.{Got}
use Rattle.rewind_script.specs.declared.report.Printed.{Printed}
use Rattle.map_deeds.specs.Maps.{Maps, State, empty_maps, begun, after_command, after_transaction}

-- ---- the transactions of a script, by their names

pub record Transaction : Type 0 where
  pub set : ℕ
  pub commands : List Command
  pub commit : Bool

abbrev pub transactions : List Item → List Transaction
transactions [] = []
transactions (item.Transaction set commands commit ∷ items) = record { set = set; commands = commands; commit = commit } ∷ transactions items
transactions (item.Checkpoint ∷ items) = transactions items

abbrev pub transactions_of : Option LaneText → List Transaction
transactions_of None = []
transactions_of (Some text) = transactions text.items

-- the transaction with this number in its lane, from 0
abbrev pub transaction_of : Script → Named → Option Transaction
transaction_of script name = slice_get (transactions_of (slice_get script.lanes name.lane)) name.number

abbrev pub commands_or_none : Option Transaction → List Command
commands_or_none None = []
commands_or_none (Some t) = t.commands

abbrev pub commands_in : Script → Named → List Command
commands_in script name = commands_or_none (transaction_of script name)

-- ---- histories

-- a transaction of the script that ends in commit
pub record IsCommit (script : Script) (name : Named) : Type 0 where
  pub transaction : Transaction
  pub is : transaction_of script name ≡ Some transaction
  pub commit : transaction.commit ≡ true

-- the numbers of one lane rise
abbrev pub IsBefore : Named → Named → Type 0
IsBefore name later = name.lane ≡ later.lane → name.number < later.number

abbrev pub AreInOrder : List Named → Type 0
AreInOrder [] = Unit {0}
AreInOrder (name ∷ names) = All (IsBefore name) names × AreInOrder names

-- Transactions of the script that end in commit, each once, those of one lane in their order.
pub record IsPrintedHistory (script : Script) (names : List Named) : Type 0 where
  pub commits : All (IsCommit script) names
  pub in_order : AreInOrder names

-- ---- what they make

abbrev pub maps_from : Script → Maps → List Named → Maps
maps_from script maps [] = maps
maps_from script maps (name ∷ names) = maps_from script (after_transaction maps (commands_in script name)) names

-- the contents after the named transactions, in the list's order, from empty maps
abbrev pub maps_after : Script → List Named → Maps
maps_after script names = maps_from script empty_maps names

-- the key of a get and what it answers
abbrev pub got_by : Maps → Command → List Got
got_by maps (command.Put s key value) = []
got_by maps (command.Del s key) = []
got_by maps (command.Get s key) = record { key = key; value = lookup key (maps s) } ∷ []
got_by maps command.Savepoint = []
got_by maps (command.Rollback n) = []

abbrev pub gets_from : State → List Command → List Got
gets_from state [] = []
gets_from state (c ∷ commands) = got_by state.maps c ++ gets_from (after_command state c) commands

abbrev pub printed_from : Script → Maps → List Named → List Printed
printed_from script maps [] = []
printed_from script maps (name ∷ names) =
    record { lane = name.lane; number = name.number; gets = gets_from (begun maps) (commands_in script name) }
    ∷ printed_from script (after_transaction maps (commands_in script name)) names

-- the named transactions with the replies of their gets, in the list's order, from empty maps
abbrev pub printed_after : Script → List Named → List Printed
printed_after script names = printed_from script empty_maps names
