-- How many events a part has, and where they store.
use Rattle.std.specs.Prelude.{◌≡◌, ℕ, ◌+◌, ◌<◌, ◌≤◌, Some, List, [], ◌∷◌, length, slice_get}
use Rattle.persist_model.specs.declared.event.Event.{Event}
use Rattle.persist_model.specs.declared.event.Event.TheVariants.{Store, PStore, WriteBack, Fence}
use Rattle.persist_model.specs.Region.{Words, Region}
use Rattle.persist_model.specs.Records.{Record}
use Rattle.persist_model.specs.Shape.{Shape, words_of_shape}
use Rattle.persist_model.specs.State.{State}
use Rattle.persist_model.specs.Sound.{HasState}
use Rattle.atomic_list.specs.declared.plans.Remove.{Remove}
use Rattle.region_layout.specs.declared.layout.Layout.{Layout}
use Rattle.region_layout.specs.Layout.{layout_shape, IsAllowed}
use Rattle.bucket_log.specs.declared.append.Place.{Place}
use Rattle.bucket_log.specs.Plans.{append_events}
use Rattle.log_keeper.specs.Parts.{LogPart, rests, appends, closes, takes_back, drops, plan_of, CanRun}
use Rattle.log_keeper.specs.Logged.{Keeping, plan_in, IsLoggedAt}
use Rattle.log_keeper.specs.Fitting.{FitsLayout}

-- a store for each gate, and a fence; nothing where there is no gate
abbrev pub group_events : List ℕ → ℕ
group_events [] = 0
group_events (a ∷ gates) = length gates + 2

abbrev pub events_of : Shape → LogPart → ℕ
events_of shape rests = 0
events_of shape (appends place r) = append_events shape.cells place
events_of shape (closes gates ends checkpoints) = group_events gates + (group_events ends + group_events checkpoints)
events_of shape (takes_back gates) = group_events gates
events_of shape (drops r) = 7

-- the event names a word below this size, or none
abbrev pub IsInside : ℕ → Event → Type 0
IsInside size (Store a v) = a < size
IsInside size (PStore a v) = a < size
IsInside size (WriteBack a) = a < size
IsInside size Fence = Unit {0}

-- ---- the laws

-- a group has an event more than gates
pub record IsGroupPlan (shape : Shape) (p : ℕ) (gates : List ℕ) : Type 0 where
  pub of_gates : length (plan_of shape p (closes gates [] [])) ≡ length gates + 1
  pub of_ends : length (plan_of shape p (closes [] gates [])) ≡ length gates + 1
  pub of_checkpoints : length (plan_of shape p (closes [] [] gates)) ≡ length gates + 1
  pub of_deletions : length (plan_of shape p (takes_back gates)) ≡ length gates + 1

pub record PlansAreShort : Type 0 where
  pub counted : (shape : Shape) (p : ℕ) (part : LogPart) → length (plan_of shape p part) ≡ events_of shape part
  pub appends : (shape : Shape) (p : ℕ) (place : Place) (r : Record) →
      (10 ≤ length (plan_of shape p (appends place r))) × (length (plan_of shape p (appends place r)) ≤ 21 + shape.cells)
  pub groups : (shape : Shape) (p : ℕ) (gates : List ℕ) → 1 ≤ length gates → IsGroupPlan shape p gates
  pub removals : (shape : Shape) (p : ℕ) (r : Remove) → length (plan_of shape p (drops r)) ≡ 7

-- The events of a part that may be made store in the region,
abbrev pub PlansAreInside : Type 0
PlansAreInside = (shape : Shape) (p : ℕ) (base : Words) (s : State) (chain : List ℕ) (part : LogPart) (i : ℕ) (e : Event) → IsAllowed shape → p < shape.partitions →
    HasState shape base s → CanRun shape p base s chain part → slice_get (plan_of shape p part) i ≡ Some e → IsInside (words_of_shape shape) e

-- and so do those of the parts that are under way.
abbrev pub EventsAreInside : Type 0
EventsAreInside = (shape : Shape) (base : Words) (s : State) (chains : ℕ → List ℕ) (k : Keeping) (region : Region) (p i : ℕ) (e : Event) → p < shape.partitions →
    IsLoggedAt shape base s chains k region → slice_get (plan_in shape k p) i ≡ Some e → IsInside region.size e

-- A part that may be made in a region of this layout fits it.
abbrev pub PartsFitLayouts : Type 0
PartsFitLayouts = (layout : Layout) (p : ℕ) (base : Words) (s : State) (chain : List ℕ) (part : LogPart) → p < layout.partitions →
    CanRun (layout_shape layout) p base s chain part → FitsLayout layout part
