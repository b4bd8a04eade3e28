-- What the hub answers.
use Rattle.std.specs.Prelude.{◌≡◌, ℕ, suc, Bool, ◌==◌, ◌<◌, true, false, List, [], ◌∷◌, ◌++◌}
use Rattle.std.specs.List.{list_any}
use Rattle.atomic_table.specs.Seated.{TableId}
use Rattle.lane_types.specs.declared.laned.Laned.{Ghosts}
use Rattle.lane_types.specs.declared.deed.Deed as deed
use Rattle.lane_types.specs.declared.call.Call.{Call}
use Rattle.lane_types.specs.declared.call.Refusal.{Refusal}
use Rattle.lane_types.specs.declared.call.Stepped.{Stepped}
use Rattle.lane_types.specs.declared.call.Stepped.TheVariants.{Moved, Answered, Waiting, Stopped, Idle}
use Rattle.lane_types.specs.Deeds.{Deeds}
use Rattle.lane_types.specs.Faces.{WholeFace}
use Rattle.lane_types.specs.Asks.{Fits, Why, asked, refused}
use Rattle.lane_types.specs.LaneSteps.{LaneStep}
use Rattle.turn_hub.specs.declared.pass.Pass.{Pass}
use Rattle.turn_hub.specs.declared.view.Sight.{Sight}
use Rattle.turn_hub.specs.declared.hub.Polled.{Polled}
use Rattle.turn_hub.specs.declared.hub.Polled.TheVariants as polled
use Rattle.turn_hub.specs.declared.hub.CloseFault.{CloseFault}
use Rattle.turn_hub.specs.declared.hub.CloseFault.TheVariants.{Missing}
use Rattle.turn_hub.specs.declared.hub.Asked.{Asked}
use Rattle.turn_hub.specs.declared.hub.Asked.TheVariants as answer_of
use Rattle.turn_hub.specs.Turns.{seen_by}

abbrev pub IfStepped : Polled → (Stepped → Type 0) → Type 0
IfStepped polled.Busy P = Unit {0}
IfStepped (polled.Stepped answer) P = P answer

abbrev pub IfBusy : Polled → Type 0 → Type 0
IfBusy polled.Busy P = P
IfBusy (polled.Stepped answer) P = Unit {0}

module _ {E : Type 0} where
  abbrev pub IfTaken : Asked E → Type 0 → Type 0
  IfTaken answer_of.Taken P = P
  IfTaken (answer_of.Refused why call) P = Unit {0}
  IfTaken (answer_of.Busy call) P = Unit {0}

  abbrev pub IfRefused : Asked E → (Refusal → Call E → Type 0) → Type 0
  IfRefused answer_of.Taken P = Unit {0}
  IfRefused (answer_of.Refused why call) P = P why call
  IfRefused (answer_of.Busy call) P = Unit {0}

  abbrev pub IfAskBusy : Asked E → (Call E → Type 0) → Type 0
  IfAskBusy answer_of.Taken P = Unit {0}
  IfAskBusy (answer_of.Refused why call) P = Unit {0}
  IfAskBusy (answer_of.Busy call) P = P call

  -- the lane has the call in progress
  pub record Takes (call : Call E) (f g : WholeFace E) : Type 0 where
    pub fits : Fits f call
    pub face : g ≡ asked call f

  -- the value itself refused the call
  pub record Refuses (call : Call E) (refusal : Refusal) (f g : WholeFace E) : Type 0 where
    pub why : Why refusal f call
    pub face : g ≡ refused call refusal f

module _ {T E : Type 0} {L : Ghosts T E} {D : deed.Ghosts E} where
  -- the whole face of its lane, as the pass saw it last
  abbrev pub face_of : Pass T E L D → WholeFace E
  face_of p = (seen_by L.seen p.place.me.0.sights).faces p.lane

  -- how often the pass found the turn with another lane
  abbrev pub missed_of : Pass T E L D → ℕ
  missed_of p = p.place.me.0.missed

  -- the pass is the lane's, at this hub, with this face, and found no turn with another lane
  pub record IsNewPass (id : TableId) (l : ℕ) (f : WholeFace E) (p : Pass T E L D) : Type 0 where
    pub lane : p.lane ≡ l
    pub hub : p.place.table_id ≡ id
    pub face : face_of p ≡ f
    pub missed : missed_of p ≡ 0

  -- the passes of a hub that was just made, from this lane on
  abbrev pub ArePasses : TableId → (ℕ → WholeFace E) → ℕ → List (Pass T E L D) → Type 0
  ArePasses id faces lane [] = Unit {0}
  ArePasses id faces lane (p ∷ passes) = IsNewPass id lane (faces lane) p × ArePasses id faces (suc lane) passes

  -- some pass is the lane's
  abbrev pub has_lane : ℕ → List (Pass T E L D) → Bool
  has_lane lane passes = list_any (λ p. p.lane == lane) passes

  -- each pass saw its face of these
  abbrev pub SawFaces : (ℕ → WholeFace E) → List (Pass T E L D) → Type 0
  SawFaces faces [] = Unit {0}
  SawFaces faces (p ∷ passes) = (faces p.lane ≡ face_of p) × SawFaces faces passes

  -- what these passes saw, the last first
  abbrev pub sights_back : List (Pass T E L D) → List (Sight T)
  sights_back [] = []
  sights_back (p ∷ passes) = sights_back passes ++ p.place.me.0.sights

  -- the lane of the fault is the least without a pass
  abbrev pub IsMissing : CloseFault → ℕ → List (Pass T E L D) → Type 0
  IsMissing (Missing lane) lanes passes = (lane < lanes) × (has_lane lane passes ≡ false) × ((lower : ℕ) → lower < lane → has_lane lower passes ≡ true)

-- the call goes on
abbrev pub goes_on : Stepped → Bool
goes_on Moved = true
goes_on (Waiting what holder) = true
goes_on (Answered reply) = false
goes_on Stopped = false
goes_on Idle = false

-- what some steps that go on make of a face
pub data Through {E : Type 0} (deeds : Deeds E) : WholeFace E → WholeFace E → Type 0 where
  here : (f : WholeFace E) → Through deeds f f
  on : (f g h : WholeFace E) (answer : Stepped) → Through deeds f g → LaneStep deeds answer g h → goes_on answer ≡ true → Through deeds f h

-- some steps that go on, and then one that doesn't
pub record Runs {E : Type 0} (deeds : Deeds E) (f : WholeFace E) (answer : Stepped) (g : WholeFace E) : Type 0 where
  pub before : WholeFace E
  pub through : Through deeds f before
  pub last : LaneStep deeds answer before g
  pub ends : goes_on answer ≡ false
