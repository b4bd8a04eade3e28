-- The rule of the hub's table. Word 0 is the turn, word 1 + a is the word a of the value, and the one slot has the value or nothing.
use Rattle.std.specs.Prelude.{◌≡◌, ◌≢◌, ◌⊎◌, ℕ, suc, ◌+◌, ◌<◌, Bool, true, false, nat_lt, ◌==◌, if◌then◌else◌, List, [], ◌∷◌, length, slice_index, Option, Some, None}
use mathlib.Core.Option.{some}
use mathlib.Core.Option as maybe
use lib.ListN.{get_elem?}
use Rattle.atomic_table.specs.Table.{State}
use Rattle.lane_types.specs.declared.call.Phase.TheVariants.{Out}
use Rattle.lane_types.specs.Heaps.{is_data, nothing_held}
use Rattle.lane_types.specs.Faces.{Base, WholeFace}
use Rattle.lane_types.specs.Seen.{Seen}
use Rattle.turn_hub.specs.declared.view.Sight.{Sight}
use Rattle.turn_hub.specs.declared.view.Grip.{Grip}
use Rattle.turn_hub.specs.declared.view.View.{View}

module _ {T : Type 0} where
  abbrev pub sight : ℕ → T → Sight T
  sight lane value = record { lane = lane; value = value }

  abbrev pub grip : ℕ → T → Bool → Grip T
  grip lane picture out = record { lane = lane; picture = picture; out = out }

  -- the lanes of these faces
  abbrev pub lanes_in : List (Sight T) → List ℕ
  lanes_in [] = []
  lanes_in (s ∷ sights) = s.lane ∷ lanes_in sights

  -- how many of these are of the lane
  abbrev pub times : ℕ → List (Sight T) → ℕ
  times lane [] = 0
  times lane (s ∷ sights) = (if s.lane == lane then 1 else 0) + times lane sights

  -- how often the lane is among the faces of these views
  abbrev pub seats_of : ℕ → List (View T) → ℕ
  seats_of lane [] = 0
  seats_of lane (v ∷ views) = times lane v.sights + seats_of lane views

  -- the slot is out, or at home and holds nothing
  abbrev pub home_of : Bool → maybe.Option (Option T)
  home_of true = maybe.none
  home_of false = some None

module _ {E : Type 0} where
  -- stands in where no lane is
  abbrev pub no_face : WholeFace E
  no_face = record {
    face = record {
      lane = 0;
      phase = Out;
      held = 0;
      begun = 0;
      commits = 0;
      answer = None;
      tally = record { steps = 0; last = None; cells = 0; checkpoints = 0; takes = 0; full = false; heap = false; stopped = false };
      live = 0;
    };
    base = record {
      sorts = [];
      structures = 0;
      header = [];
      heap = record { start = 0; blocks = 0; at = λ a. 0 };
      counts = record { events = 0; budget = 0; stopped = 0; restarts = record { loaded_at = 0; times = 0; pick = None }; origin = [] };
    };
    words = nothing_held;
    first = nothing_held;
    points = [];
    mine = [];
    call = None;
    entered = false;
  }

  abbrev pub nothing_seen : Seen E
  nothing_seen = record { lanes = 0; span = 0; word = λ a. 0; touched = None; faces = λ lane. no_face }

  -- what stood at the start, which all faces have in common
  abbrev pub base_of : Seen E → Base
  base_of s = (s.faces 0).base

  -- a is a data word of the heap
  abbrev pub IsData : Seen E → ℕ → Type 0
  IsData s a = is_data (base_of s).heap a ≡ true

module _ {T E : Type 0} (R : T → Seen E) where
  -- the value that the first of these saw
  abbrev pub seen_by : List (Sight T) → Seen E
  seen_by [] = nothing_seen
  seen_by (s ∷ sights) = R s.value

  -- no call changes these
  pub record IsAlike (value other : T) : Type 0 where
    pub lanes : (R value).lanes ≡ (R other).lanes
    pub span : (R value).span ≡ (R other).span
    pub base : base_of (R value) ≡ base_of (R other)

  -- each face is the one in the picture
  abbrev pub Shows : T → List (Sight T) → Type 0
  Shows picture [] = Unit {0}
  Shows picture (s ∷ sights) = (IsAlike picture s.value × ((R picture).faces s.lane ≡ (R s.value).faces s.lane)) × Shows picture sights

  -- the turn is free, and the value is at home
  pub record IsFree (picture : T) (s : State (Option T) (View T)) : Type 0 where
    pub turn : slice_index s.words 0 ≡ 0
    pub home : get_elem? s.homes 0 ≡ some (some (Some picture))
    pub no_grip : (id : ℕ) (v : View T) → get_elem? s.views id ≡ some v → v.grip ≡ None

  -- the turn is the lane's, in whose seat the grip is
  pub record IsTaken (picture : T) (s : State (Option T) (View T)) : Type 0 where
    pub holder : ℕ
    pub view : View T
    pub lane : ℕ
    pub out : Bool
    pub seat : get_elem? s.views holder ≡ some view
    pub has_grip : view.grip ≡ Some (grip lane picture out)
    pub own : 0 < times lane view.sights
    pub turn : slice_index s.words 0 ≡ suc lane
    pub home : get_elem? s.homes 0 ≡ some (home_of out)
    pub no_other : (id : ℕ) (v : View T) → get_elem? s.views id ≡ some v → id ≢ holder → v.grip ≡ None

  -- The turn rule. The picture is the value at home, or the grip's.
  pub record TurnRule (start : T) (s : State (Option T) (View T)) : Type 0 where
    pub picture : T
    pub alike : IsAlike picture start
    -- each lane is in just one view
    pub seats : (lane : ℕ) → seats_of lane s.views ≡ (if nat_lt lane (R start).lanes then 1 else 0)
    -- each face of each view is the one in the picture
    pub shows : (id : ℕ) (v : View T) → get_elem? s.views id ≡ some v → Shows picture v.sights
    pub turn : IsFree picture s ⊎ IsTaken picture s
    -- each data word stands in the table as in the picture
    pub wide : length s.words ≡ suc (R start).span
    pub words : (a : ℕ) → a < (R start).span → IsData (R start) a → slice_index s.words (suc a) ≡ (R picture).word a
