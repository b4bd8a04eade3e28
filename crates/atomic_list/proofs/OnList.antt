-- Plans whose events are on the words of a list.
use Rattle.std.proofs.Common.{◌≡◌, inl, inr, ℕ, zero, suc, List, [], ◌∷◌, subst}
use Rattle.persist_model.specs.declared.event.Event.{Event}
use Rattle.persist_model.specs.declared.event.Event.TheVariants.{Store, PStore, WriteBack, Fence}
use Rattle.persist_model.specs.Region.{Words, Region, MayStand, AreInside}
use Rattle.persist_model.specs.Progress.{Wrote, IsDurable, Reaches, AreSettledAt}
use Rattle.persist_model.specs.Runs.{progress_at, Run}
use Rattle.persist_model.specs.Shape.{Shape}
use Rattle.persist_model.proofs.Tracking.{Tracks-settled, Tracks-aside, Reaches-image}
use Rattle.persist_model.proofs.Running.{Tracks-makes, Tracks-run}
use Rattle.atomic_list.specs.Rules.{IsListWord}
use Rattle.atomic_list.specs.ListPlans.{IsOnList, IsListPlan, PlansBegin, PlansAdvance, PlansStay, PlansRun, ListImagesReach, ListSettles}

abbrev pub AreOnList : Shape → ℕ → List Event → Type 0
AreOnList shape part [] = Unit {0}
AreOnList shape part (e ∷ es) = IsOnList shape part e × AreOnList shape part es

pub list_plan : (shape : Shape) (part : ℕ) (plan : List Event) → AreOnList shape part plan → IsListPlan shape part plan
list_plan shape part [] each k e found = cc
list_plan shape part (x ∷ xs) each zero e found = let same : x ≡ e = cc in subst (IsOnList shape part) same each.0
list_plan shape part (x ∷ xs) each (suc k) e found = list_plan shape part xs each.1 k e found

durable_of : (shape : Shape) (part : ℕ) (e : Event) → IsOnList shape part e → IsDurable e
durable_of shape part (Store a v) h = h
durable_of shape part (PStore a v) h = tt
durable_of shape part (WriteBack a) h = h
durable_of shape part Fence h = tt

pub plans_begin : PlansBegin
plans_begin shape part lane w plan region settled = Tracks-settled (IsListWord shape part) lane w region settled

pub plans_advance : PlansAdvance
plans_advance shape part lane w plan k e region on at h =
    Tracks-makes (IsListWord shape part) lane w plan k e region at (durable_of shape part e (on k e at)) h

pub plans_stay : PlansStay
plans_stay shape part lane by w plan k e region aside h = Tracks-aside (IsListWord shape part) lane by (progress_at w plan k) region e aside h

pub plans_run : PlansRun
plans_run shape part lane w plan k before region on settled run =
    Tracks-run (IsListWord shape part) lane w plan before region k (λ j e at. durable_of shape part e (on j e at)) settled run

pub list_images_reach : ListImagesReach
list_images_reach shape part lane progress region i inside image h = Reaches-image (IsListWord shape part) lane progress region i inside image h

pub list_settles : ListSettles
list_settles shape part lane progress region none h = λ b m v k. elim ((h b m).values v k) [
  | inl e ↦ e
  | inr x ↦ elim (subst (λ s. Wrote s b v) none x) [ ]
]

-- each image of a run reaches what the prefix does
pub run_images : (shape : Shape) (part lane : ℕ) (w i : Words) (plan : List Event) (k : ℕ) (before region : Region) →
    IsListPlan shape part plan → AreSettledAt (IsListWord shape part) w before → Run (IsListWord shape part) lane plan before k region →
    AreInside (IsListWord shape part) region → MayStand i region → Reaches (IsListWord shape part) (progress_at w plan k) i
run_images shape part lane w i plan k before region on settled run inside image =
    Reaches-image (IsListWord shape part) lane (progress_at w plan k) region i inside image (plans_run shape part lane w plan k before region on settled run)

-- and a run with nothing pending is settled
pub run_settles : (shape : Shape) (part lane : ℕ) (w : Words) (plan : List Event) (k : ℕ) (before region : Region) →
    IsListPlan shape part plan → AreSettledAt (IsListWord shape part) w before → Run (IsListWord shape part) lane plan before k region →
    (progress_at w plan k).pending ≡ [] → AreSettledAt (IsListWord shape part) (progress_at w plan k).durable region
run_settles shape part lane w plan k before region on settled run none =
    list_settles shape part lane (progress_at w plan k) region none (plans_run shape part lane w plan k before region on settled run)
