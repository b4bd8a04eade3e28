-- What a script's commands may put into the log, and the events that a run of it makes at most.
use Rattle.std.specs.Prelude.{◌≡◌, ℕ, ◌+◌, ◌*◌, Bool, true, false, List, [], ◌∷◌, refl}
use Rattle.std.specs.List.{sum_by}
use Rattle.region_layout.specs.declared.layout.Kind.{Kind}
use Rattle.region_layout.specs.declared.layout.Kind.TheVariants.{Cells, Tree, Hash}
use Rattle.rewind_script.specs.declared.script.Command.{Command}
use Rattle.rewind_script.specs.declared.script.Command.TheVariants as command
use Rattle.rewind_script.specs.declared.script.Item.{Item}
use Rattle.rewind_script.specs.declared.script.Item.TheVariants as item
use Rattle.rewind_script.specs.declared.script.LaneText.{LaneText}
use Rattle.rewind_script.specs.declared.script.Script.{Script}
use Rattle.map_deeds.specs.Meanings.{kind_at}

-- the cells of the log that a put may take
abbrev pub put_weight : Kind → ℕ
put_weight Cells = 2
put_weight Tree = 440
put_weight Hash = 32

abbrev pub del_weight : Kind → ℕ
del_weight Cells = 2
del_weight Tree = 440
del_weight Hash = 3

abbrev pub weight : List Kind → Command → ℕ
weight kinds (command.Put s key value) = put_weight (kind_at kinds s)
weight kinds (command.Del s key) = del_weight (kind_at kinds s)
weight kinds (command.Get s key) = 0
weight kinds command.Savepoint = 0
weight kinds (command.Rollback n) = 0

-- A group of writes fills up its last cells.
abbrev pub group_weight : Bool → ℕ
group_weight true = 16
group_weight false = 0

-- a command's weight, and what its group adds
abbrev pub command_cells : Bool → List Kind → Command → ℕ
command_cells batch kinds (command.Put s key value) = put_weight (kind_at kinds s) + group_weight batch
command_cells batch kinds (command.Del s key) = del_weight (kind_at kinds s) + group_weight batch
command_cells batch kinds (command.Get s key) = 0
command_cells batch kinds command.Savepoint = 0
command_cells batch kinds (command.Rollback n) = 0

-- the cells of the log that a transaction with these commands may take
abbrev pub cells_of_transaction : Bool → List Kind → List Command → ℕ
cells_of_transaction batch kinds commands = sum_by (command_cells batch kinds) commands + 2

-- the events of a transaction that may take so many cells, with this number of cells in a bucket
abbrev pub most_events : ℕ → ℕ → ℕ
most_events size cells = cells * (31 + size) + 4

abbrev pub most_checkpoint_events : ℕ → ℕ
most_checkpoint_events size = (31 + size) + 5

-- ---- of a script

abbrev pub item_events : ℕ → Bool → List Kind → Item → ℕ
item_events size batch kinds (item.Transaction set commands commit) = most_events size (cells_of_transaction batch kinds commands)
item_events size batch kinds item.Checkpoint = most_checkpoint_events size

abbrev pub lane_events : ℕ → Bool → List Kind → LaneText → ℕ
lane_events size batch kinds text = sum_by (item_events size batch kinds) text.items

abbrev pub script_events : Script → ℕ
script_events script = sum_by (lane_events script.layout.cells script.batch script.kinds) script.lanes

-- ---- small transactions

one_put : cells_of_transaction false (Cells ∷ []) (command.Put 0 3 7 ∷ []) ≡ 4
one_put = refl

three_kinds : cells_of_transaction false (Cells ∷ Tree ∷ Hash ∷ []) (command.Put 0 3 7 ∷ command.Put 1 3 7 ∷ command.Del 2 3 ∷ command.Get 1 3 ∷ []) ≡ 447
three_kinds = refl

in_groups : cells_of_transaction true (Cells ∷ Hash ∷ []) (command.Put 0 3 7 ∷ command.Savepoint ∷ command.Put 1 3 7 ∷ command.Rollback 0 ∷ []) ≡ 68
in_groups = refl

one_put_events : most_events 1 4 ≡ 132
one_put_events = refl
