-- What holds of every script that is read: the limits, and that each command fits its transaction.
use Rattle.std.specs.Prelude.{◌≡◌, ◌⊎◌, ℕ, ◌+◌, ◌*◌, ◌^◌, ◌<◌, ◌≤◌, List, [], ◌∷◌, length, All, Bool, true, false, IsTrue}
use Rattle.std.specs.List.{sum_by, slice_index_or}
use Rattle.persist_model.specs.Shape.{IsBucketCount, IsBlockCount}
use Rattle.region_layout.specs.Layout.{IsAllowed}
use Rattle.region_layout.specs.declared.layout.Kind.{Kind}
use Rattle.region_layout.specs.declared.layout.Kind.TheVariants.{Cells, Tree}
use Rattle.rewind_script.specs.Order.{is_transaction}
use Rattle.rewind_script.specs.Commands.{holds, live_step}
use Rattle.rewind_script.specs.Grammar.{Meaning, meaning_of}
use Rattle.rewind_script.specs.declared.script.TheConstants.{MOST_COMMANDS, MOST_TRANSACTIONS}
use Rattle.rewind_script.specs.declared.script.Item.{Item}
use Rattle.rewind_script.specs.declared.script.Item.TheVariants as item
use Rattle.rewind_script.specs.declared.script.Command.{Command}
use Rattle.rewind_script.specs.declared.script.Command.TheVariants as command
use Rattle.rewind_script.specs.declared.script.LaneText.{LaneText}
use Rattle.rewind_script.specs.declared.script.Turns.{Turns}
use Rattle.rewind_script.specs.declared.script.Script.{Script}
use Rattle.rewind_script.specs.declared.read.reading.Part.{Part}
use Rattle.rewind_script.specs.declared.read.reading.Part.TheVariants as part
use Rattle.rewind_script.specs.declared.read.reading.Reading.{Reading}

-- ---- a transaction, in a region with structures of these kinds

-- one structure at least, and none that the region lacks
abbrev pub IsSet : List Kind → ℕ → Type 0
IsSet kinds set = (1 ≤ set) × (set < 2 ^ length kinds)

-- a key of a structure that the transaction named
abbrev pub Reaches : List Kind → ℕ → ℕ → ℕ → Type 0
Reaches kinds set map key = (map < length kinds) × IsTrue (holds set map) × (slice_index_or kinds map Tree ≡ Cells → key ≤ 11)

-- a command, where so many savepoints live
abbrev pub Fits : List Kind → ℕ → ℕ → Command → Type 0
Fits kinds set live (command.Put map key value) = Reaches kinds set map key × (1 ≤ value)
Fits kinds set live (command.Del map key) = Reaches kinds set map key
Fits kinds set live (command.Get map key) = Reaches kinds set map key
Fits kinds set live command.Savepoint = Unit {0}
Fits kinds set live (command.Rollback n) = n < live

abbrev pub AllFit : List Kind → ℕ → ℕ → List Command → Type 0
AllFit kinds set live [] = Unit {0}
AllFit kinds set live (command ∷ rest) = Fits kinds set live command × AllFit kinds set (live_step live command) rest

pub record AreCommands (kinds : List Kind) (set : ℕ) (commands : List Command) : Type 0 where
  pub count : length commands ≤ MOST_COMMANDS
  pub fit : AllFit kinds set 0 commands

abbrev pub IsItem : List Kind → Item → Type 0
IsItem kinds (item.Transaction set commands commit) = IsSet kinds set × AreCommands kinds set commands
IsItem kinds item.Checkpoint = Unit {0}

abbrev pub IsLaneText : List Kind → LaneText → Type 0
IsLaneText kinds lane = All (IsItem kinds) lane.items

-- ---- a script

abbrev pub is_one : Item → ℕ
is_one (item.Transaction set commands commit) = 1
is_one item.Checkpoint = 0

abbrev pub count_transactions : List Item → ℕ
count_transactions items = sum_by is_one items

abbrev pub count_in_lanes : List LaneText → ℕ
count_in_lanes lanes = sum_by (λ lane. count_transactions lane.items) lanes

abbrev pub IsTurns : Turns → Type 0
IsTurns turns = (turns.lane ≤ 15) × (1 ≤ turns.times)

abbrev pub count_turns : List Turns → ℕ
count_turns turns = sum_by (λ t. t.times) turns

pub record IsWithinLimits (meaning : Meaning) : Type 0 where
  pub region : IsAllowed meaning.shape
  pub format : meaning.shape.format ≡ 2
  pub structures : meaning.shape.structures ≡ length meaning.kinds
  pub batch : IsTrue meaning.batch → meaning.shape.cells ≡ 16
  pub turns : All IsTurns meaning.turns
  pub turn_count : count_turns meaning.turns ≤ 1000000
  pub lane_count : length meaning.lanes ≤ 16
  pub lanes : All (IsLaneText meaning.kinds) meaning.lanes
  pub transactions : count_in_lanes meaning.lanes ≤ MOST_TRANSACTIONS

abbrev pub IsScript : Script → Type 0
IsScript script = IsWithinLimits (meaning_of script)

-- ---- a reading, after any right lines

-- the lane that is being read
abbrev pub begun_lanes : Part → ℕ
begun_lanes part.Lane = 1
begun_lanes part.Transaction = 1
begun_lanes _ = 0

-- the transaction that is being read
abbrev pub begun_transactions : Part → ℕ
begun_transactions part.Transaction = 1
begun_transactions _ = 0

-- no lane has begun
abbrev pub is_early : Part → Bool
is_early part.Lane = false
is_early part.Transaction = false
is_early _ = true

pub record IsSized (cells : ℕ) (grouped : Bool) (buckets blocks partitions : ℕ) : Type 0 where
  pub one_or_sixteen : (cells ≡ 1) ⊎ (cells ≡ 16)
  pub of_batch : IsTrue grouped → cells ≡ 16
  pub buckets_within : IsBucketCount buckets
  pub blocks_within : IsBlockCount blocks
  pub partitions_within : (1 ≤ partitions) × (partitions ≤ 3)
  pub split : 4 * partitions ≤ buckets

pub record IsReading (reading : Reading) : Type 0 where
  pub sized : IsSized reading.cells reading.batch reading.buckets reading.blocks reading.partitions
  pub kinds : length reading.kinds ≤ 8
  pub turns : All IsTurns reading.turns
  pub total : (reading.total ≡ count_turns reading.turns) × (reading.total ≤ 1000000)
  pub count : length reading.lanes + begun_lanes reading.part ≤ 16
  pub lanes : All (IsLaneText reading.kinds) reading.lanes
  pub items : All (IsItem reading.kinds) reading.items
  pub transactions : (count_in_lanes reading.lanes + count_transactions reading.items + begun_transactions reading.part ≡ reading.transactions) × (reading.transactions ≤ MOST_TRANSACTIONS)
  pub set : is_transaction reading.part ≡ true → IsSet reading.kinds reading.set
  pub commands : AreCommands reading.kinds reading.set reading.commands
  pub early : is_early reading.part ≡ true → (reading.lanes ≡ []) × (reading.items ≡ []) × (reading.commands ≡ [])
