-- What a worker owes to its transaction, by what it is doing.
use Rattle.std.specs.Prelude.{◌≡◌, ℕ, ◌+◌, ◌<◌, ◌≤◌, List, [], ◌∷◌, ◌++◌, drop, Option, Some, None}
use Rattle.std.specs.List.{slice_get}
use Rattle.persist_model.specs.Records.{IsAmong}
use Rattle.persist_model.specs.Chain.{HasNoRepeats}
use Rattle.lane_traits.specs.Draft.{addresses}
use Rattle.lane_traits.specs.declared.draft.WordWrite.{WordWrite}
use Rattle.lane_types.specs.Faces.{WholeFace}
use Rattle.lane_types.specs.Heaps.{has_bit, block_address}
use Rattle.region_layout.specs.declared.layout.Kind.{Kind}
use Rattle.rewind_script.specs.declared.script.Item.{Item}
use Rattle.rewind_script.specs.declared.script.Item.TheVariants as item
use Rattle.rewind_script.specs.declared.script.Command.{Command}
use Rattle.rewind_script.specs.declared.script.Command.TheVariants as command
use Rattle.rewind_script.specs.declared.report.How.{How}
use Rattle.map_deeds.specs.Maps.{Maps, after_transaction, replies_in}
use Rattle.map_deeds.specs.Meanings.{commands_of, gots_of, HoldMaps}
use Rattle.map_deeds.specs.Printed.{Transaction}
use Rattle.map_deeds.specs.declared.deed.MapDeed.{MapDeed}
use Rattle.lane_worker.specs.declared.worker.Worker.{Worker}
use Rattle.lane_worker.specs.declared.stage.Stage.{Stage}
use Rattle.lane_worker.specs.declared.stage.Stage.TheVariants as stage
use Rattle.lane_worker.specs.Shown.{heap_now, heap_first, with_change, AreWhole}
use Rattle.lane_worker.specs.Ledger.{MayEnd}

abbrev pub item_of : Transaction → Item
item_of t = item.Transaction t.set t.commands t.commit

-- a block of the structure, by its address, that isn't a root
pub record IsHeldBlock (f : WholeFace MapDeed) (s b : ℕ) : Type 0 where
  pub number : ℕ
  pub place : b ≡ block_address f.base.heap number
  pub owner : f.words.owner number ≡ Some s
  pub no_root : f.base.structures ≤ number

-- a data word of the structure's blocks
pub record IsHeldWord (f : WholeFace MapDeed) (s a : ℕ) : Type 0 where
  pub number : ℕ
  pub index : ℕ
  pub place : a ≡ block_address f.base.heap number + index
  pub above : 0 < index
  pub below : index < 16
  pub owner : f.words.owner number ≡ Some s

-- The maps of the transaction's structures are these, once these words are written and these blocks are nobody's.
abbrev pub WouldHold : List Kind → ℕ → List WordWrite → List ℕ → WholeFace MapDeed → Maps → Type 0
WouldHold kinds set writes blocks f maps = HoldMaps (has_bit set) kinds (with_change writes blocks (heap_now f)) maps

-- The transaction is this one, and of its commands those that were done gave these steps.
pub record IsInside (w : Worker) (t : Transaction) (f : WholeFace MapDeed) (maps : Maps) (rest : List Command) : Type 0 where
  pub item : slice_get w.items.now w.at ≡ Some (item_of t)
  pub held : f.face.held ≡ t.set
  pub whole : AreWhole f
  pub first : HoldMaps (has_bit t.set) w.kinds.now (heap_first f) maps
  pub commands : t.commands ≡ commands_of w.steps ++ rest
  pub replies : gots_of w.steps ≡ replies_in maps (commands_of w.steps)

-- the structure for which the command takes blocks
abbrev pub takes_for : List Command → Option ℕ
takes_for [] = None
takes_for (command.Put map key value ∷ rest) = Some map
takes_for (c ∷ rest) = None

-- The worker is at the first of the rest. The words without the blocks that were taken for it hold the maps so far.
pub record IsChoosing (w : Worker) (f : WholeFace MapDeed) : Type 0 where
  pub t : Transaction
  pub maps : Maps
  pub rest : List Command
  pub within : IsInside w t f maps rest
  pub now : WouldHold w.kinds.now t.set [] w.taken.items f (after_transaction maps (commands_of w.steps))
  pub taken : (b : ℕ) → IsAmong w.taken.items b → (s : ℕ) × (takes_for rest ≡ Some s) × IsHeldBlock f s b
  pub once : HasNoRepeats w.taken.items

-- a command that changes a map
abbrev pub changes : Command → Option ℕ
changes (command.Put map key value) = Some map
changes (command.Del map key) = Some map
changes _ = None

-- The writes and gives of the command that are still to be made are of words and blocks of its structure. With them made the
-- words hold the maps behind it.
pub record IsMaking (w : Worker) (f : WholeFace MapDeed) : Type 0 where
  pub t : Transaction
  pub maps : Maps
  pub command : Command
  pub rest : List Command
  pub within : IsInside w t f maps (command ∷ rest)
  pub structure : ℕ
  pub of : changes command ≡ Some structure
  pub now : WouldHold w.kinds.now t.set (drop w.change.written w.change.writes) (drop w.change.given w.change.gives) f
      (after_transaction maps (commands_of w.steps ++ command ∷ []))
  pub words : (a : ℕ) → IsAmong (addresses (drop w.change.written w.change.writes)) a → IsHeldWord f structure a
  pub blocks : (b : ℕ) → IsAmong (drop w.change.given w.change.gives) b → IsHeldBlock f structure b
  pub once : HasNoRepeats (drop w.change.given w.change.gives)

-- the transaction may end so
pub record IsAborting (w : Worker) (how : How) : Type 0 where
  pub t : Transaction
  pub item : slice_get w.items.now w.at ≡ Some (item_of t)
  pub may : MayEnd t (Some how)

abbrev pub IsAtStage : Stage → Worker → WholeFace MapDeed → Type 0
IsAtStage stage.Out w f = Unit {0}
IsAtStage stage.Choosing w f = IsChoosing w f
IsAtStage stage.Making w f = IsMaking w f
IsAtStage (stage.Aborting how) w f = IsAborting w how

-- transactions begun that didn't end
abbrev pub open_in : Stage → ℕ
open_in stage.Out = 0
open_in _ = 1
