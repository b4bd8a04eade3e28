-- A worker at a command of its transaction.
use Rattle.std.specs.Prelude.{◌≡◌, ◌⊎◌, ℕ, Bool, List, [], ◌∷◌, ◌++◌, length, Option, Some, None, Result, Ok, Err}
use Rattle.std.specs.List.{slice_get}
use Rattle.persist_model.specs.declared.list.NoMemory.{NoMemory}
use Rattle.lane_traits.specs.Space.{Space}
use Rattle.lane_types.specs.declared.call.Call.{Call}
use Rattle.lane_types.specs.declared.call.Phase.TheVariants.{In}
use Rattle.lane_types.specs.Faces.{WholeFace}
use Rattle.rewind_script.specs.declared.script.Item.{Item}
use Rattle.rewind_script.specs.declared.script.Item.TheVariants as item
use Rattle.rewind_script.specs.declared.script.Command.{Command}
use Rattle.rewind_script.specs.declared.report.How.{How}
use Rattle.rewind_script.specs.declared.report.How.TheVariants.{Aborted}
use Rattle.map_deeds.specs.Maps.{Maps, after_transaction, reply}
use Rattle.map_deeds.specs.Meanings.{commands_of}
use Rattle.map_deeds.specs.Printed.{Transaction}
use Rattle.map_deeds.specs.declared.deed.MapDeed.{MapDeed}
use Rattle.lane_worker.specs.declared.worker.Worker.{Worker}
use Rattle.lane_worker.specs.declared.stage.Stage.TheVariants as stage
use Rattle.lane_worker.specs.declared.stage.Change.{Change}
use Rattle.lane_worker.specs.Shown.{Shows}
use Rattle.lane_worker.specs.Stages.{IsInside, WouldHold, open_in}
use Rattle.lane_worker.specs.Standing.{IsReady, phase_in}
use Rattle.lane_worker.specs.declared.act.Act.{Act}
use Rattle.lane_worker.specs.Acts.{Asks, Does}

abbrev pub commands_in : Option Item → List Command
commands_in None = []
commands_in (Some (item.Transaction set commands commit)) = commands
commands_in (Some item.Checkpoint) = []

-- the command that the worker is at
abbrev pub command_at : Worker → Option Command
command_at w = slice_get (commands_in (slice_get w.items.now w.at)) (length w.steps)

-- The worker is at this command, with a reader of its lane's words.
pub record IsAtCommand (w : Worker) (c : Command) (space : Space) (readable : ℕ → Bool) (f : WholeFace MapDeed) : Type 0 where
  pub ready : IsReady w f
  pub at : w.stage ≡ stage.Choosing
  pub shows : Shows f space readable
  pub here : command_at w ≡ Some c

-- It is at a command, or behind the last one.
pub record IsChoosingOver (w : Worker) (space : Space) (readable : ℕ → Bool) (f : WholeFace MapDeed) : Type 0 where
  pub ready : IsReady w f
  pub at : w.stage ≡ stage.Choosing
  pub shows : Shows f space readable

-- The worker would be ready with this change to make for the command.
pub record IsStarting (w : Worker) (c : Command) (change : Change) (f : WholeFace MapDeed) : Type 0 where
  pub ready : IsReady (record w { change = change; stage = stage.Making }) f
  pub here : command_at w ≡ Some c

-- The command read this, and what it changes was made: all that stands, but that the worker is still at it.
pub record IsDone (w : Worker) (c : Command) (got : Option ℕ) (f : WholeFace MapDeed) : Type 0 where
  pub t : Transaction
  pub maps : Maps
  pub rest : List Command
  pub ready : IsReady w f
  pub phase : phase_in w.stage ≡ In
  pub opened : open_in w.stage ≡ 1
  pub within : IsInside w t f maps (c ∷ rest)
  pub read : got ≡ reply (after_transaction maps (commands_of w.steps)) c
  pub now : WouldHold w.kinds.now t.set [] [] f (after_transaction maps (commands_of w.steps ++ c ∷ []))

-- All commands were done.
pub record IsAtEnd (w : Worker) (f : WholeFace MapDeed) : Type 0 where
  pub ready : IsReady w f
  pub at : w.stage ≡ stage.Choosing
  pub none : command_at w ≡ None

-- The worker is at its next command.
pub record IsBehind (w : Worker) (f : WholeFace MapDeed) : Type 0 where
  pub ready : IsReady w f
  pub at : w.stage ≡ stage.Choosing

-- The worker is at the same item of the same text.
pub record KeepsText (w v : Worker) : Type 0 where
  pub items : v.items.now ≡ w.items.now
  pub at : v.at ≡ w.at

-- The worker is not to abort, but where it was before, or as its text says.
abbrev pub KeepsFate : Worker → Worker → Type 0
KeepsFate w v = (how : How) → v.stage ≡ stage.Aborting how → (w.stage ≡ stage.Aborting how) ⊎ (how ≡ Aborted)

-- what a command leaves: a call to ask, or nothing more of it
abbrev pub GoesOn : Result (Option (Call MapDeed)) NoMemory → Worker → WholeFace MapDeed → Type 0
GoesOn (Ok (Some call)) w f = Asks w call f
GoesOn (Ok None) w f = IsBehind w f
GoesOn (Err e) w f = IsReady w f

-- what the next call is, or that the worker stands as before
abbrev pub Gives : Result Act NoMemory → Worker → WholeFace MapDeed → Type 0
Gives (Ok act) w f = Does act w f
Gives (Err e) w f = IsReady w f
