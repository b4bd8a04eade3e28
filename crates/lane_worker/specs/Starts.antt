-- A worker and its lane's face at the start.
use Rattle.std.specs.Prelude.{◌≡◌, ℕ, ◌+◌, ◌≤◌, false, [], length, Some, None, vec_len, vec_capacity}
use Rattle.std.specs.List.{slice_get}
use Rattle.persist_model.specs.Shape.{heap}
use Rattle.lane_types.specs.declared.call.Phase.TheVariants.{Out}
use Rattle.lane_types.specs.Faces.{WholeFace}
use Rattle.region_layout.specs.Layout.{layout_shape}
use Rattle.rewind_script.specs.declared.script.Script.{Script}
use Rattle.map_deeds.specs.Meanings.{sorts_of}
use Rattle.map_deeds.specs.declared.deed.MapDeed.{MapDeed}
use Rattle.lane_worker.specs.declared.worker.Worker.{Worker}
use Rattle.lane_worker.specs.declared.stage.Stage.TheVariants as stage
use Rattle.lane_worker.specs.Texts.{IsText}
use Rattle.lane_worker.specs.Standing.{IsReady}

-- The worker is at the first item of its lane's text.
pub record IsNewWorker (script : Script) (lane : ℕ) (w : Worker) : Type 0 where
  pub lane_is : w.lane ≡ lane
  pub layout : w.layout ≡ script.layout
  pub kinds : w.kinds.now ≡ script.kinds
  pub text : slice_get script.lanes lane ≡ Some (record { items = w.items.now })
  pub at : w.at ≡ 0
  pub number : w.number ≡ 0
  pub stage_is : w.stage ≡ stage.Out
  pub fates : w.fates.items ≡ []
  pub room : vec_len w.fates + length w.items.now ≤ vec_capacity w.fates

-- A lane that begun nothing, on a region of the script.
pub record IsNewFace (script : Script) (lane : ℕ) (f : WholeFace MapDeed) : Type 0 where
  pub lane_is : f.face.lane ≡ lane
  pub phase : f.face.phase ≡ Out
  pub begun : f.face.begun ≡ 0
  pub mine : f.mine ≡ []
  pub no_call : f.call ≡ None
  pub entered : f.entered ≡ false
  pub sorts : f.base.sorts ≡ sorts_of script.kinds
  pub structures : f.base.structures ≡ length script.kinds
  pub start : f.base.heap.start ≡ heap (layout_shape script.layout)
  pub blocks : f.base.heap.blocks ≡ script.layout.blocks

-- a new worker is ready at a lane that begun nothing
abbrev pub NewIsReady : Type 0
NewIsReady = (script : Script) (lane : ℕ) (w : Worker) (f : WholeFace MapDeed) → length script.kinds ≤ script.layout.blocks → IsText script.kinds w.items.now
    → IsNewWorker script lane w → IsNewFace script lane f → IsReady w f
