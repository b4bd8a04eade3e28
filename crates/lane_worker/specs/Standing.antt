-- How a worker stands to its lane's face: between calls, and while a call of it is unanswered.
use Rattle.std.specs.Prelude.{◌≡◌, ℕ, ◌+◌, ◌<◌, ◌≤◌, true, false, List, [], ◌∷◌, ◌++◌, length, drop, Some, None, vec_len, vec_capacity}
use Rattle.std.specs.List.{slice_get}
use Rattle.persist_model.specs.Shape.{heap}
use Rattle.lane_types.specs.declared.call.Call.{Call}
use Rattle.lane_types.specs.declared.call.Call.TheVariants as call
use Rattle.lane_types.specs.declared.call.Phase.{Phase}
use Rattle.lane_types.specs.declared.call.Phase.TheVariants.{Out, In, Calling}
use Rattle.lane_types.specs.declared.face.Entry.{Entry}
use Rattle.lane_types.specs.Faces.{WholeFace}
use Rattle.lane_types.specs.Heaps.{has_bit, block_address}
use Rattle.region_layout.specs.Layout.{layout_shape}
use Rattle.rewind_script.specs.declared.script.Item.TheVariants as item
use Rattle.rewind_script.specs.Limits.{count_transactions}
use Rattle.rewind_script.specs.declared.report.How.{How}
use Rattle.map_deeds.specs.Meanings.{sorts_of}
use Rattle.map_deeds.specs.Printed.{Transaction}
use Rattle.map_deeds.specs.declared.deed.MapDeed.{MapDeed}
use Rattle.lane_worker.specs.declared.worker.Worker.{Worker}
use Rattle.lane_worker.specs.declared.stage.Stage.{Stage}
use Rattle.lane_worker.specs.declared.stage.Stage.TheVariants as stage
use Rattle.lane_worker.specs.Texts.{IsText}
use Rattle.lane_worker.specs.Ledger.{IsLedger, IsDeedOf}
use Rattle.lane_worker.specs.Stages.{IsAtStage, IsChoosing, item_of, open_in, takes_for}

-- The worker runs a text of the face's lane, on the face's region.
pub record IsAtHome (w : Worker) (f : WholeFace MapDeed) : Type 0 where
  pub lane : f.face.lane ≡ w.lane
  pub text : IsText w.kinds.now w.items.now
  pub sorts : f.base.sorts ≡ sorts_of w.kinds.now
  pub structures : f.base.structures ≡ length w.kinds.now
  pub roots : length w.kinds.now ≤ w.layout.blocks
  pub heap : f.base.heap.start ≡ heap (layout_shape w.layout)
  pub blocks : f.base.heap.blocks ≡ w.layout.blocks

-- What holds of a worker at any time, with these entries of its lane.
pub record Stands (w : Worker) (mine : List (Entry MapDeed)) (f : WholeFace MapDeed) : Type 0 where
  pub home : IsAtHome w f
  pub place : w.at ≤ length w.items.now
  pub ledger : IsLedger w.items.now w.at w.lane w.number w.fates.items mine
  pub begun : f.face.begun ≡ w.number + open_in w.stage
  -- there is room for the fates of all transactions to come
  pub room : vec_len w.fates + count_transactions (drop w.at w.items.now) ≤ vec_capacity w.fates
  pub staged : IsAtStage w.stage w f

abbrev pub phase_in : Stage → Phase
phase_in stage.Out = Out
phase_in _ = In

-- No call is unanswered.
pub record IsReady (w : Worker) (f : WholeFace MapDeed) : Type 0 where
  pub stands : Stands w f.mine f
  pub phase : f.face.phase ≡ phase_in w.stage
  pub no_call : f.call ≡ None
  pub entered : f.entered ≡ false

-- ---- the call that is due

pub record BeginIsDue (w : Worker) (set : ℕ) : Type 0 where
  pub stage_is : w.stage ≡ stage.Out
  pub t : Transaction
  pub item : slice_get w.items.now w.at ≡ Some (item_of t)
  pub set_is : set ≡ t.set

pub record WriteIsDue (w : Worker) (a v : ℕ) : Type 0 where
  pub stage_is : w.stage ≡ stage.Making
  pub next : slice_get w.change.writes w.change.written ≡ Some (record { address = a; value = v })

-- the structure is that of the put that the worker is at
pub record TakeIsDue (w : Worker) (s : ℕ) (f : WholeFace MapDeed) : Type 0 where
  pub stage_is : w.stage ≡ stage.Choosing
  pub here : IsChoosing w f
  pub put : takes_for here.rest ≡ Some s
  pub held : has_bit f.face.held s ≡ true
  pub room : vec_len w.taken < vec_capacity w.taken

-- all writes were made before
pub record GiveIsDue (w : Worker) (block : ℕ) (f : WholeFace MapDeed) : Type 0 where
  pub stage_is : w.stage ≡ stage.Making
  pub written : length w.change.writes ≤ w.change.written
  pub next : slice_get w.change.gives w.change.given ≡ Some (block_address f.base.heap block)

-- all commands were done
pub record CommitIsDue (w : Worker) (deed : MapDeed) : Type 0 where
  pub stage_is : w.stage ≡ stage.Choosing
  pub t : Transaction
  pub item : slice_get w.items.now w.at ≡ Some (item_of t)
  pub commit : t.commit ≡ true
  pub deed_is : IsDeedOf t deed

pub record AbortIsDue (w : Worker) : Type 0 where
  pub how : How
  pub stage_is : w.stage ≡ stage.Aborting how

pub record CheckpointIsDue (w : Worker) : Type 0 where
  pub stage_is : w.stage ≡ stage.Out
  pub item : slice_get w.items.now w.at ≡ Some item.Checkpoint

-- the worker asks this call, and waits for its answer
abbrev pub IsDue : Worker → Call MapDeed → WholeFace MapDeed → Type 0
IsDue w (call.Begin set) f = BeginIsDue w set
IsDue w (call.Read a) f = ⊥
IsDue w (call.Write a v) f = WriteIsDue w a v
IsDue w (call.Take s) f = TakeIsDue w s f
IsDue w (call.Give block) f = GiveIsDue w block f
IsDue w (call.Commit deed) f = CommitIsDue w deed
IsDue w call.Abort f = AbortIsDue w
IsDue w call.Checkpoint f = CheckpointIsDue w
IsDue w (call.Batch writes) f = ⊥
IsDue w call.Savepoint f = ⊥
IsDue w (call.RollbackTo n) f = ⊥

-- the lane's entries before the call in progress: its entry may have joined them
pub data HasEntries (w : Worker) (c : Call MapDeed) (settled : List (Entry MapDeed)) (f : WholeFace MapDeed) : Type 0 where
  not_entered : f.mine ≡ settled → f.entered ≡ false → HasEntries w c settled f
  entered : (e : Entry MapDeed) → c ≡ call.Commit e.deed → e.lane ≡ w.lane → e.number ≡ w.number
      → f.mine ≡ settled ++ e ∷ [] → f.entered ≡ true → HasEntries w c settled f

-- A call of the worker is in progress.
pub record IsAsking (w : Worker) (f : WholeFace MapDeed) : Type 0 where
  pub call : Call MapDeed
  pub settled : List (Entry MapDeed)
  pub stands : Stands w settled f
  pub phase : f.face.phase ≡ Calling
  pub call_is : f.call ≡ Some call
  pub due : IsDue w call f
  pub entries : HasEntries w call settled f
