-- The texts that a worker runs.
use Rattle.std.specs.Prelude.{◌≤◌, List, All}
use Rattle.region_layout.specs.declared.layout.Kind.{Kind}
use Rattle.rewind_script.specs.declared.script.TheConstants.{MOST_TRANSACTIONS}
use Rattle.rewind_script.specs.declared.script.Command.{Command}
use Rattle.rewind_script.specs.declared.script.Command.TheVariants as command
use Rattle.rewind_script.specs.declared.script.Item.{Item}
use Rattle.rewind_script.specs.declared.script.Item.TheVariants as item
use Rattle.rewind_script.specs.Limits.{IsItem, count_transactions}

-- the commands that a worker runs: all but those of savepoints
abbrev pub IsWorked : Command → Type 0
IsWorked (command.Put map key value) = Unit {0}
IsWorked (command.Del map key) = Unit {0}
IsWorked (command.Get map key) = Unit {0}
IsWorked command.Savepoint = ⊥
IsWorked (command.Rollback n) = ⊥

abbrev pub IsWorkedItem : Item → Type 0
IsWorkedItem (item.Transaction set commands commit) = All IsWorked commands
IsWorkedItem item.Checkpoint = Unit {0}

-- The text of one lane, for structures of these kinds.
pub record IsText (kinds : List Kind) (items : List Item) : Type 0 where
  pub fit : All (IsItem kinds) items
  pub few : count_transactions items ≤ MOST_TRANSACTIONS
  pub worked : All IsWorkedItem items
