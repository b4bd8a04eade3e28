-- What a lawful history of a script's transactions leaves: the maps of its names.
use Rattle.std.specs.Prelude.{◌≡◌, ℕ, nat_lt, Bool, true, List, [], ◌∷◌, length, map, flat_map, All, Option, Some}
use Rattle.persist_model.specs.Shape.{heap}
use Rattle.lane_types.specs.declared.face.Entry.{Entry}
use Rattle.lane_types.specs.Heaps.{Heap}
use Rattle.lane_types.specs.Histories.{fold, Lawful, HaveSorts}
use Rattle.region_layout.specs.declared.layout.Kind.{Kind}
use Rattle.rewind_script.specs.declared.script.Script.{Script}
use Rattle.rewind_script.specs.declared.script.Command.{Command}
use Rattle.rewind_script.specs.declared.script.Command.TheVariants as command
use Rattle.rewind_script.specs.declared.report.Named.{Named}
use Rattle.rewind_script.specs.declared.report.Got.{Got}
use Rattle.rewind_script.specs.declared.report.Printed.{Printed}
use Rattle.rewind_script.specs.Limits.{IsScript}
use Rattle.map_deeds.specs.Maps.{Maps, empty_maps}
use Rattle.map_deeds.specs.Meanings.{commands_of, HoldMaps, sorts_of, map_deeds}
use Rattle.map_deeds.specs.Printed.{Transaction, transaction_of, IsPrintedHistory, maps_after, printed_after}
use Rattle.map_deeds.specs.declared.deed.Done.{Done}
use Rattle.map_deeds.specs.declared.deed.MapDeed.{MapDeed}

-- ---- what is printed of an entry

abbrev pub name_of : Entry MapDeed → Named
name_of e = record { lane = e.lane; number = e.number }

abbrev pub names_of : List (Entry MapDeed) → List Named
names_of entries = map name_of entries

-- a get's key and its reply
abbrev pub got_in : Command → Option ℕ → List Got
got_in (command.Put s key value) got = []
got_in (command.Del s key) got = []
got_in (command.Get s key) got = record { key = key; value = got } ∷ []
got_in command.Savepoint got = []
got_in (command.Rollback n) got = []

abbrev pub gets_of_step : Done → List Got
gets_of_step step = got_in step.command step.got

abbrev pub gets_of : List Done → List Got
gets_of steps = flat_map gets_of_step steps

abbrev pub printed_entry : Entry MapDeed → Printed
printed_entry e = record { lane = e.lane; number = e.number; gets = gets_of e.deed.steps }

-- ---- the law

-- The entry is the transaction of the script that its lane and its number name, and that ends in commit.
pub record IsEntryOf (script : Script) (e : Entry MapDeed) : Type 0 where
  pub transaction : Transaction
  pub is : transaction_of script (name_of e) ≡ Some transaction
  pub commit : transaction.commit ≡ true
  pub set : e.deed.set ≡ transaction.set
  pub commands : commands_of e.deed.steps ≡ transaction.commands

-- a structure that has a kind
abbrev pub has_kind : List Kind → ℕ → Bool
has_kind kinds s = nat_lt s (length kinds)

-- all structures of the heap are maps of these kinds, with these contents
abbrev pub HoldsMaps : List Kind → Heap → Maps → Type 0
HoldsMaps kinds heap maps = HoldMaps (has_kind kinds) kinds heap maps

-- The entries' names are a printed history, the entries have its replies, and the heap that they make has its maps.
pub record IsHistoryOf (script : Script) (heap : Heap) (history : List (Entry MapDeed)) : Type 0 where
  pub printed : IsPrintedHistory script (names_of history)
  pub replies : map printed_entry history ≡ printed_after script (names_of history)
  pub maps : HoldsMaps script.kinds (fold heap history) (maps_after script (names_of history))

abbrev pub HistoriesArePrinted : Type 0
HistoriesArePrinted = (script : Script) (heap : Heap) (history : List (Entry MapDeed)) → IsScript script
    → HoldsMaps script.kinds heap empty_maps → Lawful map_deeds heap history → HaveSorts map_deeds (sorts_of script.kinds) history
    → All (IsEntryOf script) history → IsHistoryOf script heap history
