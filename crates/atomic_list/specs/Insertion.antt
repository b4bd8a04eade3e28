-- An insertion, from its conditions to what each image of each prefix is. w are the words of partition p's view.
use Rattle.std.specs.Prelude.{◌≡◌, ◌≢◌, ◌⊎◌, ℕ, ◌≤◌, List, [], ◌∷◌, ◌++◌}
use Rattle.persist_model.specs.Region.{Words, Region, MayStand, AreInside}
use Rattle.persist_model.specs.Progress.{Progress, Reaches, AreSettledAt}
use Rattle.persist_model.specs.Runs.{progress_at, Run}
use Rattle.persist_model.specs.Shape.{Shape, IsBucketOf}
use Rattle.persist_model.specs.Chain.{TAIL, TO_APPEND, LAST_TAIL, next_of, prev_of, word_behind, IsAbsent, last_or}
use Rattle.atomic_list.specs.declared.plans.Insert.{Insert}
use Rattle.atomic_list.specs.Plans.{insertion}
use Rattle.atomic_list.specs.Rules.{IsAtRest, IsList, IsListWord}
use Rattle.atomic_list.specs.ListPlans.{IsListPlan}

-- The list is at rest, the insertion's bucket isn't in the chain, and its tail is the chain's last bucket, or 0 for an empty chain.
pub record CanInsert (shape : Shape) (p : ℕ) (w : Words) (xs : List ℕ) (a : Insert) : Type 0 where
  pub at_rest : IsAtRest shape p w xs
  pub bucket : IsBucketOf shape p a.node
  pub absent : IsAbsent a.node xs
  pub tail : a.tail ≡ last_or 0 xs

-- how far the insertion has come with its first k events
abbrev pub inserted : Words → Insert → ℕ → Progress
inserted w a k = progress_at w (insertion a) k

-- the chain is the one before or the one after
abbrev pub IsBeforeOrAfter : Shape → ℕ → Words → List ℕ → ℕ → Type 0
IsBeforeOrAfter shape p v xs node = IsList shape p v xs ⊎ IsList shape p v (xs ++ node ∷ [])

-- v are the words w but for those that the insertion stores to
pub record IsInserted (w v : Words) (a : Insert) : Type 0 where
  pub next : v (next_of a.node) ≡ 0
  pub prev : v (prev_of a.node) ≡ a.tail
  pub last_tail : v LAST_TAIL ≡ a.tail
  pub to_append : v TO_APPEND ≡ 0
  pub link : v (word_behind a.tail) ≡ a.node
  pub tail : v TAIL ≡ a.node
  pub others : (x : ℕ) → x ≢ next_of a.node → x ≢ prev_of a.node → x ≢ LAST_TAIL → x ≢ TO_APPEND → x ≢ word_behind a.tail → x ≢ TAIL → v x ≡ w x

-- what a whole insertion leaves
pub record InsertionLeaves (shape : Shape) (p : ℕ) (w : Words) (xs : List ℕ) (a : Insert) (progress : Progress) : Type 0 where
  pub nothing_pending : progress.pending ≡ []
  pub at_rest : IsAtRest shape p progress.durable (xs ++ a.node ∷ [])
  pub words : IsInserted w progress.durable a

-- ---- the laws

abbrev pub InsertionIsOnList : Type 0
InsertionIsOnList = (shape : Shape) (p : ℕ) (w : Words) (xs : List ℕ) (a : Insert) → CanInsert shape p w xs a → IsListPlan shape p (insertion a)

-- at each prefix of an insertion, each image has the chain before or the one after
abbrev pub EachInsertingImage : Type 0
EachInsertingImage = (shape : Shape) (p : ℕ) (w v : Words) (xs : List ℕ) (a : Insert) (k : ℕ) →
    CanInsert shape p w xs a → Reaches (IsListWord shape p) (inserted w a k) v → IsBeforeOrAfter shape p v xs a.node

-- up to the third event each has the chain before, at rest
abbrev pub EachImageBefore : Type 0
EachImageBefore = (shape : Shape) (p : ℕ) (w v : Words) (xs : List ℕ) (a : Insert) (k : ℕ) →
    CanInsert shape p w xs a → k ≤ 4 → Reaches (IsListWord shape p) (inserted w a k) v → IsAtRest shape p v xs

abbrev pub InsertionEnds : Type 0
InsertionEnds = (shape : Shape) (p : ℕ) (w : Words) (xs : List ℕ) (a : Insert) →
    CanInsert shape p w xs a → InsertionLeaves shape p w xs a (inserted w a 11)

-- the same of a region, with events of others on other words, and fences of others, in between
abbrev pub EachImageOfInsertions : Type 0
EachImageOfInsertions = (shape : Shape) (p lane : ℕ) (w i : Words) (xs : List ℕ) (a : Insert) (k : ℕ) (before region : Region) →
    CanInsert shape p w xs a → AreSettledAt (IsListWord shape p) w before → Run (IsListWord shape p) lane (insertion a) before k region →
    AreInside (IsListWord shape p) region → MayStand i region → IsBeforeOrAfter shape p i xs a.node

abbrev pub InsertionsEnd : Type 0
InsertionsEnd = (shape : Shape) (p lane : ℕ) (w : Words) (xs : List ℕ) (a : Insert) (before region : Region) →
    CanInsert shape p w xs a → AreSettledAt (IsListWord shape p) w before → Run (IsListWord shape p) lane (insertion a) before 11 region →
    AreSettledAt (IsListWord shape p) (inserted w a 11).durable region × IsAtRest shape p (inserted w a 11).durable (xs ++ a.node ∷ [])
