-- What holds of every plan on the words of a list: a lane goes on with it, others keep it, and what images of it may reach.
use Rattle.std.specs.Prelude.{◌≡◌, ℕ, suc, List, [], Some, slice_get}
use Rattle.persist_model.specs.declared.event.Event.{Event}
use Rattle.persist_model.specs.declared.event.Event.TheVariants.{Store, PStore, WriteBack, Fence}
use Rattle.persist_model.specs.Region.{Words, Region, after, MayStand, AreInside}
use Rattle.persist_model.specs.Progress.{Progress, Tracks, Reaches, AreSettledAt, IsAside}
use Rattle.persist_model.specs.Runs.{progress_at, Run}
use Rattle.persist_model.specs.Shape.{Shape}
use Rattle.atomic_list.specs.Rules.{IsListWord}

-- the event stores durably to a word of the list, or fences
abbrev pub IsOnList : Shape → ℕ → Event → Type 0
IsOnList shape p (Store a v) = ⊥
IsOnList shape p (PStore a v) = IsListWord shape p a
IsOnList shape p (WriteBack a) = ⊥
IsOnList shape p Fence = Unit {0}

-- each event of the plan does
abbrev pub IsListPlan : Shape → ℕ → List Event → Type 0
IsListPlan shape p plan = (k : ℕ) (e : Event) → slice_get plan k ≡ Some e → IsOnList shape p e

-- With the first k events of the plan made from settled words w, the list words of the region are as these events left them.
abbrev pub IsMaking : Shape → ℕ → ℕ → Words → List Event → ℕ → Region → Type 0
IsMaking shape p lane w plan k region = Tracks (IsListWord shape p) lane (progress_at w plan k) region

-- settled list words are a plan's first state
abbrev pub PlansBegin : Type 0
PlansBegin = (shape : Shape) (p lane : ℕ) (w : Words) (plan : List Event) (region : Region) →
    AreSettledAt (IsListWord shape p) w region → IsMaking shape p lane w plan 0 region

-- the next event takes a plan one step on
abbrev pub PlansAdvance : Type 0
PlansAdvance = (shape : Shape) (p lane : ℕ) (w : Words) (plan : List Event) (k : ℕ) (e : Event) (region : Region) →
    IsListPlan shape p plan → slice_get plan k ≡ Some e →
    IsMaking shape p lane w plan k region → IsMaking shape p lane w plan (suc k) (after region lane e)

-- events on other words, and fences of other lanes, keep a plan where it is
abbrev pub PlansStay : Type 0
PlansStay = (shape : Shape) (p lane by : ℕ) (w : Words) (plan : List Event) (k : ℕ) (e : Event) (region : Region) →
    IsAside (IsListWord shape p) lane by e →
    IsMaking shape p lane w plan k region → IsMaking shape p lane w plan k (after region by e)

-- and so does a whole run
abbrev pub PlansRun : Type 0
PlansRun = (shape : Shape) (p lane : ℕ) (w : Words) (plan : List Event) (k : ℕ) (before region : Region) →
    IsListPlan shape p plan → AreSettledAt (IsListWord shape p) w before → Run (IsListWord shape p) lane plan before k region →
    IsMaking shape p lane w plan k region

-- an image has in each word of the list its durable value, or one that the lane has stored since its last fence
abbrev pub ListImagesReach : Type 0
ListImagesReach = (shape : Shape) (p lane : ℕ) (progress : Progress) (region : Region) (i : Words) →
    AreInside (IsListWord shape p) region → MayStand i region → Tracks (IsListWord shape p) lane progress region →
    Reaches (IsListWord shape p) progress i

-- where nothing is pending the list words are settled at the durable values
abbrev pub ListSettles : Type 0
ListSettles = (shape : Shape) (p lane : ℕ) (progress : Progress) (region : Region) →
    progress.pending ≡ [] → Tracks (IsListWord shape p) lane progress region → AreSettledAt (IsListWord shape p) progress.durable region
