-- The repair of an image in which a bucket is being put behind or taken out. w are the words of partition p's view.
use Rattle.std.specs.Prelude.{◌≡◌, ◌≢◌, ℕ, ◌<◌, List, []}
use Rattle.persist_model.specs.declared.format.TheConstants.{MAX_WORDS}
use Rattle.persist_model.specs.Region.{Words, Region, MayStand, AreInside}
use Rattle.persist_model.specs.Progress.{Progress, Reaches, AreSettledAt}
use Rattle.persist_model.specs.Runs.{progress_at, Run}
use Rattle.persist_model.specs.Shape.{Shape}
use Rattle.persist_model.specs.Chain.{TAIL, TO_APPEND, word_behind}
use Rattle.atomic_list.specs.declared.plans.Insert.{Insert}
use Rattle.atomic_list.specs.declared.repairing.Repair.{Repair}
use Rattle.atomic_list.specs.declared.repairing.Repair.TheVariants.{Nothing, Append, Remove as TakeOut}
use Rattle.atomic_list.specs.Plans.{repair_plan, repair_asked}
use Rattle.atomic_list.specs.Rules.{IsAtRest, IsList, IsListWord}
use Rattle.atomic_list.specs.Removal.{IsTakenOut}
use Rattle.atomic_list.specs.ListPlans.{IsListPlan}

-- the buckets whose PREV it may store to are within any region
abbrev pub CanRepair : Repair → Type 0
CanRepair Nothing = Unit {0}
CanRepair (Append a) = a.node < MAX_WORDS
CanRepair (TakeOut r) = r.next < MAX_WORDS

-- how far the repair that w asks for has come with its first k events
abbrev pub repaired : Words → ℕ → Progress
repaired w k = progress_at w (repair_plan (repair_asked w)) k

-- v are the words w but for those that the end of the insertion stores to
pub record IsLinkedIn (w v : Words) (a : Insert) : Type 0 where
  pub to_append : v TO_APPEND ≡ 0
  pub link : v (word_behind a.tail) ≡ a.node
  pub tail : v TAIL ≡ a.node
  pub others : (x : ℕ) → x ≢ TO_APPEND → x ≢ word_behind a.tail → x ≢ TAIL → v x ≡ w x

-- v are the words w but for those that the repair stores to
abbrev pub IsRepaired : Words → Words → Repair → Type 0
IsRepaired w v Nothing = (x : ℕ) → v x ≡ w x
IsRepaired w v (Append a) = IsLinkedIn w v a
IsRepaired w v (TakeOut r) = IsTakenOut w v r

-- what a whole repair leaves
pub record RepairLeaves (shape : Shape) (p : ℕ) (w : Words) (xs : List ℕ) (progress : Progress) : Type 0 where
  pub nothing_pending : progress.pending ≡ []
  pub at_rest : IsAtRest shape p progress.durable xs
  pub words : IsRepaired w progress.durable (repair_asked w)

-- ---- the laws

abbrev pub RepairIsOnList : Type 0
RepairIsOnList = (shape : Shape) (p : ℕ) (w : Words) (xs : List ℕ) → IsList shape p w xs → IsListPlan shape p (repair_plan (repair_asked w))

-- at each prefix of the repair, each image has the chain with which it began
abbrev pub EachRepairingImage : Type 0
EachRepairingImage = (shape : Shape) (p : ℕ) (w v : Words) (xs : List ℕ) (k : ℕ) →
    IsList shape p w xs → Reaches (IsListWord shape p) (repaired w k) v → IsList shape p v xs

abbrev pub RepairEnds : Type 0
RepairEnds = (shape : Shape) (p : ℕ) (w : Words) (xs : List ℕ) → IsList shape p w xs → RepairLeaves shape p w xs (repaired w 5)

-- the same of a region, with events of others on other words, and fences of others, in between
abbrev pub EachImageOfRepairs : Type 0
EachImageOfRepairs = (shape : Shape) (p lane : ℕ) (w i : Words) (xs : List ℕ) (k : ℕ) (before region : Region) →
    IsList shape p w xs → AreSettledAt (IsListWord shape p) w before → Run (IsListWord shape p) lane (repair_plan (repair_asked w)) before k region →
    AreInside (IsListWord shape p) region → MayStand i region → IsList shape p i xs

abbrev pub RepairsEnd : Type 0
RepairsEnd = (shape : Shape) (p lane : ℕ) (w : Words) (xs : List ℕ) (before region : Region) →
    IsList shape p w xs → AreSettledAt (IsListWord shape p) w before → Run (IsListWord shape p) lane (repair_plan (repair_asked w)) before 5 region →
    AreSettledAt (IsListWord shape p) (repaired w 5).durable region × IsAtRest shape p (repaired w 5).durable xs
