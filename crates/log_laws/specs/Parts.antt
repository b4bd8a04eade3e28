-- A part of recovery: a plan of events, each image of each prefix of which is some of recovery's steps further on.
use Rattle.std.specs.Prelude.{◌≡◌, ℕ, ◌<◌, List, [], ◌∷◌, take, slice_index}
use Rattle.persist_model.specs.declared.event.Event.{Event}
use Rattle.persist_model.specs.Region.{Words, Region, IsImage, after}
use Rattle.persist_model.specs.Progress.{Progress, Tracks, Reaches, IsDurable, start, advance_all}
use Rattle.persist_model.specs.Shape.{Shape, words_of_shape}
use Rattle.persist_model.specs.State.{State, IsSoundState}
use Rattle.log_laws.specs.Recovery.{Steps, KeepsStanding}
use Rattle.persist_model.specs.Sound.{HasState}
use Rattle.log_laws.specs.Recovering.{RECOVERY_LANE, IsAtRest}

-- the region after all the events of the plan
abbrev pub after_plan : ℕ → Region → List Event → Region
after_plan lane region [] = region
after_plan lane region (e ∷ plan) = after_plan lane (after region lane e) plan

abbrev pub AreDurable : List Event → Type 0
AreDurable [] = Unit {0}
AreDurable (e ∷ plan) = IsDurable e × AreDurable plan

-- Recovery began at the state first, and has come to the durable words w with state s; p has what is pending for the heap beside them.
pub record HasCome (shape : Shape) (first : State) (p : Progress) (w : Words) (s : State) (region : Region) : Type 0 where
  pub size : region.size ≡ words_of_shape shape
  pub tracks : Tracks (λ a. a < words_of_shape shape) RECOVERY_LANE p region
  pub rest : IsAtRest shape p w s
  pub steps : Steps shape first s

-- From p, at the state s, each image of each prefix of the plan is some steps further on.
pub record Leads (shape : Shape) (p : Progress) (s : State) (plan : List Event) : Type 0 where
  pub durable : AreDurable plan
  pub images : (k : ℕ) (v : Words) → Reaches (λ a. a < words_of_shape shape) (advance_all p (take k plan)) v →
      (x : State) × HasState shape v x × Steps shape s x

-- The region is as large as the shape says, and each image is sound, with the standing words of the state first.
pub record EachKeeps (shape : Shape) (first : State) (region : Region) : Type 0 where
  pub size : region.size ≡ words_of_shape shape
  pub each : (words : List ℕ) → IsImage words region →
      (x : State) × HasState shape (slice_index words) x × IsSoundState shape x × KeepsStanding shape.policy first x

-- Wherever a part is stopped, each image keeps the standing words.
abbrev pub PartsKeep : Type 0
PartsKeep = (shape : Shape) (first : State) (p : Progress) (w : Words) (s : State) (region : Region) (plan : List Event) (k : ℕ) →
    IsSoundState shape first → HasCome shape first p w s region → Leads shape p s plan → EachKeeps shape first (after_plan RECOVERY_LANE region (take k plan))

-- A part whose end is settled words d with state y leads there.
abbrev pub PartsGoOn : Type 0
PartsGoOn = (shape : Shape) (first : State) (p : Progress) (w d : Words) (s y : State) (region : Region) (plan : List Event) →
    HasCome shape first p w s region → Leads shape p s plan → advance_all p plan ≡ start d → HasState shape d y → Steps shape s y →
    HasCome shape first (start d) d y (after_plan RECOVERY_LANE region plan)
