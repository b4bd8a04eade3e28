-- Laws of how a worker stands to its lane's face.
use Rattle.std.specs.Prelude.{ℕ}
use Rattle.lane_types.specs.declared.call.Call.{Call}
use Rattle.lane_types.specs.declared.call.Stepped.{Stepped}
use Rattle.lane_types.specs.Faces.{WholeFace, stepped}
use Rattle.lane_types.specs.Asks.{asked}
use Rattle.lane_types.specs.LaneSteps.{Moves, BeginStep}
use Rattle.map_deeds.specs.Maps.{Maps}
use Rattle.map_deeds.specs.Meanings.{map_deeds}
use Rattle.map_deeds.specs.HistoryLaw.{HoldsMaps}
use Rattle.map_deeds.specs.declared.deed.MapDeed.{MapDeed}
use Rattle.lane_worker.specs.declared.worker.Worker.{Worker}
use Rattle.lane_worker.specs.Standing.{IsReady, IsAsking}
use Rattle.lane_worker.specs.Acts.{Asks, BeginsOnMaps}

-- a call that the lane may ask is then in progress
abbrev pub AcceptedIsAsking : Type 0
AcceptedIsAsking = (w : Worker) (c : Call MapDeed) (f : WholeFace MapDeed) → Asks w c f → IsAsking w (asked c f)

-- a step that doesn't answer leaves the call in progress
abbrev pub MovedIsAsking : Type 0
MovedIsAsking = (w : Worker) (f g : WholeFace MapDeed) → IsAsking w f → Moves f g → IsAsking w g

abbrev pub SteppedIsAsking : Type 0
SteppedIsAsking = (w : Worker) (answer : Stepped) (f : WholeFace MapDeed) → IsAsking w f → IsAsking w (stepped answer f)

-- a step of a lane without a call leaves the worker ready
abbrev pub SteppedIsReady : Type 0
SteppedIsReady = (w : Worker) (answer : Stepped) (f : WholeFace MapDeed) → IsReady w f → IsReady w (stepped answer f)

-- where the heap held maps when the world began, a begin finds maps
abbrev pub BeginsAreTold : Type 0
BeginsAreTold = (w : Worker) (maps : Maps) (n : ℕ) (f g : WholeFace MapDeed) → HoldsMaps w.kinds.now f.base.heap maps → IsAsking w f → BeginStep map_deeds n f g → BeginsOnMaps w.kinds.now g
