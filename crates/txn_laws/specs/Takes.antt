-- Words that nobody has come to a transaction that runs, as those of a block that it takes.
use Rattle.std.specs.Prelude.{◌≡◌, ℕ, ◌<◌, Bool, true, false, ◌||◌, List, length}
use Rattle.persist_model.specs.Region.{Words, Region}
use Rattle.persist_model.specs.Shape.{Shape, IsHeapWord}
use Rattle.persist_model.specs.State.{State}
use Rattle.txn_laws.specs.Txns.{Txn, txn_at}
use Rattle.txn_laws.specs.Owners.{IsNobodys}
use Rattle.txn_laws.specs.PartsOf.{IsResting}
use Rattle.txn_laws.specs.Worlds.{World, with_lane, IsWorldAt}

abbrev pub with_words : (ℕ → Bool) → Txn → Txn
with_words words x = record x { words = λ a. x.words a || words a }

pub record MayTake (shape : Shape) (w : World) (l : ℕ) (words : ℕ → Bool) : Type 0 where
  pub lane : l < length w.lanes
  pub resting : IsResting shape w.keeping l
  pub in_heap : (a : ℕ) → words a ≡ true → IsHeapWord shape a
  pub nobodys : (a : ℕ) → words a ≡ true → IsNobodys w.lanes a

abbrev pub TakesKeep : Type 0
TakesKeep = (shape : Shape) (base : Words) (s : State) (chains : ℕ → List ℕ) (start : Words) (w : World) (region : Region) (l : ℕ) (words : ℕ → Bool) →
    (txn_at w.lanes l).over ≡ false → MayTake shape w l words → IsWorldAt shape base s chains start w region →
    IsWorldAt shape base s chains start (with_lane l (with_words words (txn_at w.lanes l)) w) region
