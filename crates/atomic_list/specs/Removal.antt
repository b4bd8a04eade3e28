-- A removal, from its conditions to what each image of each prefix is. w are the words of partition p's view.
use Rattle.std.specs.Prelude.{◌≡◌, ◌≢◌, ◌⊎◌, ℕ, List, [], ◌∷◌, ◌++◌}
use Rattle.persist_model.specs.Region.{Words, Region, MayStand, AreInside}
use Rattle.persist_model.specs.Progress.{Progress, Reaches, AreSettledAt}
use Rattle.persist_model.specs.Runs.{progress_at, Run}
use Rattle.persist_model.specs.Shape.{Shape}
use Rattle.persist_model.specs.Chain.{TO_REMOVE, word_behind, word_before, first_or, last_or}
use Rattle.atomic_list.specs.declared.plans.Remove.{Remove}
use Rattle.atomic_list.specs.Plans.{removal}
use Rattle.atomic_list.specs.Rules.{IsAtRest, IsList, IsListWord}
use Rattle.atomic_list.specs.ListPlans.{IsListPlan}

-- The list is at rest, and the removal's bucket stands in the chain between its two neighbours, 0 where there is none.
pub record CanRemove (shape : Shape) (p : ℕ) (w : Words) (front rest : List ℕ) (r : Remove) : Type 0 where
  pub at_rest : IsAtRest shape p w (front ++ r.node ∷ rest)
  pub prev : r.prev ≡ last_or 0 front
  pub next : r.next ≡ first_or 0 rest

-- how far the removal has come with its first k events
abbrev pub removed : Words → Remove → ℕ → Progress
removed w r k = progress_at w (removal r) k

-- the chain is the one before or the one after
abbrev pub IsWithOrWithout : Shape → ℕ → Words → List ℕ → ℕ → List ℕ → Type 0
IsWithOrWithout shape p v front node rest = IsList shape p v (front ++ node ∷ rest) ⊎ IsList shape p v (front ++ rest)

-- v are the words w but for those that the removal stores to
pub record IsTakenOut (w v : Words) (r : Remove) : Type 0 where
  pub to_remove : v TO_REMOVE ≡ 0
  pub link : v (word_behind r.prev) ≡ r.next
  pub back : v (word_before r.next) ≡ r.prev
  pub others : (x : ℕ) → x ≢ TO_REMOVE → x ≢ word_behind r.prev → x ≢ word_before r.next → v x ≡ w x

-- what a whole removal leaves
pub record RemovalLeaves (shape : Shape) (p : ℕ) (w : Words) (front rest : List ℕ) (r : Remove) (progress : Progress) : Type 0 where
  pub nothing_pending : progress.pending ≡ []
  pub at_rest : IsAtRest shape p progress.durable (front ++ rest)
  pub words : IsTakenOut w progress.durable r

-- ---- the laws

abbrev pub RemovalIsOnList : Type 0
RemovalIsOnList = (shape : Shape) (p : ℕ) (w : Words) (front rest : List ℕ) (r : Remove) → CanRemove shape p w front rest r → IsListPlan shape p (removal r)

-- at each prefix of a removal, each image has the chain before or the one after
abbrev pub EachRemovingImage : Type 0
EachRemovingImage = (shape : Shape) (p : ℕ) (w v : Words) (front rest : List ℕ) (r : Remove) (k : ℕ) →
    CanRemove shape p w front rest r → Reaches (IsListWord shape p) (removed w r k) v → IsWithOrWithout shape p v front r.node rest

abbrev pub RemovalEnds : Type 0
RemovalEnds = (shape : Shape) (p : ℕ) (w : Words) (front rest : List ℕ) (r : Remove) →
    CanRemove shape p w front rest r → RemovalLeaves shape p w front rest r (removed w r 7)

-- the same of a region, with events of others on other words, and fences of others, in between
abbrev pub EachImageOfRemovals : Type 0
EachImageOfRemovals = (shape : Shape) (p lane : ℕ) (w i : Words) (front rest : List ℕ) (r : Remove) (k : ℕ) (before region : Region) →
    CanRemove shape p w front rest r → AreSettledAt (IsListWord shape p) w before → Run (IsListWord shape p) lane (removal r) before k region →
    AreInside (IsListWord shape p) region → MayStand i region → IsWithOrWithout shape p i front r.node rest

abbrev pub RemovalsEnd : Type 0
RemovalsEnd = (shape : Shape) (p lane : ℕ) (w : Words) (front rest : List ℕ) (r : Remove) (before region : Region) →
    CanRemove shape p w front rest r → AreSettledAt (IsListWord shape p) w before → Run (IsListWord shape p) lane (removal r) before 7 region →
    AreSettledAt (IsListWord shape p) (removed w r 7).durable region × IsAtRest shape p (removed w r 7).durable (front ++ rest)
