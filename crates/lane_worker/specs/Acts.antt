-- What a worker's calls promise.
use Rattle.std.specs.Prelude.{◌≡◌, ℕ, ◌<◌, ◌≤◌, List, length, Some}
use Rattle.lane_types.specs.declared.call.Call.{Call}
use Rattle.lane_types.specs.declared.call.Call.TheVariants as call
use Rattle.lane_types.specs.declared.call.Reply.{Reply}
use Rattle.lane_types.specs.declared.call.Reply.TheVariants as reply
use Rattle.lane_types.specs.declared.call.Refusal.{Refusal}
use Rattle.lane_types.specs.declared.call.Refusal.TheVariants as refusal
use Rattle.lane_types.specs.Faces.{WholeFace}
use Rattle.lane_types.specs.Asks.{Fits}
use Rattle.lane_types.specs.May.{May}
use Rattle.lane_types.specs.Heaps.{has_bit}
use Rattle.region_layout.specs.declared.layout.Kind.{Kind}
use Rattle.rewind_script.specs.declared.script.Item.{Item}
use Rattle.rewind_script.specs.declared.script.Item.TheVariants as item
use Rattle.map_deeds.specs.Maps.{Maps}
use Rattle.map_deeds.specs.Meanings.{HoldMaps, map_deeds}
use Rattle.map_deeds.specs.declared.deed.MapDeed.{MapDeed}
use Rattle.lane_worker.specs.declared.worker.Worker.{Worker}
use Rattle.lane_worker.specs.declared.stage.Stage.TheVariants as stage
use Rattle.lane_worker.specs.declared.act.Act.{Act}
use Rattle.lane_worker.specs.declared.act.Act.TheVariants.{Ask, Ended}
use Rattle.lane_worker.specs.Shown.{heap_first}
use Rattle.lane_worker.specs.Standing.{IsReady, IsDue}

-- the first call of an item
abbrev pub first_call : Item → Call MapDeed
first_call (item.Transaction set commands commit) = call.Begin set
first_call item.Checkpoint = call.Checkpoint

-- The lane may ask the call, which fits its phase and names only what it holds, and the worker waits for its answer.
pub record Asks (w : Worker) (c : Call MapDeed) (f : WholeFace MapDeed) : Type 0 where
  pub ready : IsReady w f
  pub due : IsDue w c f
  pub fits : Fits f c
  pub may : May map_deeds f c

-- Each item was asked to its end.
pub record HasEnded (w : Worker) (f : WholeFace MapDeed) : Type 0 where
  pub ready : IsReady w f
  pub out : w.stage ≡ stage.Out
  pub all : w.at ≡ length w.items.now

abbrev pub Does : Act → Worker → WholeFace MapDeed → Type 0
Does (Ask c) w f = Asks w c f
Does Ended w f = HasEnded w f

-- What a transaction begins on: its structures are maps of their kinds.
pub record BeginsOnMaps (kinds : List Kind) (f : WholeFace MapDeed) : Type 0 where
  pub maps : Maps
  pub first : HoldMaps (has_bit f.face.held) kinds (heap_first f) maps
  pub roots : (n s : ℕ) → f.words.owner n ≡ Some s → n < f.base.structures → s ≡ n

-- what is told of an answer beside its row: that a begin found maps, and that a block that was taken is no root
abbrev pub IsTold : List Kind → Reply → WholeFace MapDeed → Type 0
IsTold kinds (reply.Begun n) g = BeginsOnMaps kinds g
IsTold kinds (reply.Block b) g = g.base.structures ≤ b
IsTold kinds _ g = Unit {0}

-- the refusals after which a transaction is aborted
abbrev pub IsForWant : Refusal → Type 0
IsForWant (refusal.LogFull room need) = room < need
IsForWant refusal.HeapFull = Unit {0}
IsForWant _ = ⊥
