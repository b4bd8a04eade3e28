-- What a read of a word of the heap finds.
use Rattle.std.specs.Prelude.{◌≡◌, ℕ, false, List}
use Rattle.persist_model.specs.Region.{Words, Region, IsCandidate, newest}
use Rattle.persist_model.specs.Progress.{latest}
use Rattle.persist_model.specs.Shape.{Shape, IsHeapWord}
use Rattle.persist_model.specs.State.{State}
use Rattle.history_laws.specs.Histories.{fold}
use Rattle.txn_laws.specs.Txns.{txn_at, written}
use Rattle.txn_laws.specs.Owners.{IsMine, IsNobodys}
use Rattle.txn_laws.specs.Worlds.{World, IsWorldAt}

-- In a word of its own a running transaction finds what it has written, on the history's value.
abbrev pub OwnReads : Type 0
OwnReads = (shape : Shape) (base : Words) (s : State) (chains : ℕ → List ℕ) (start : Words) (w : World) (region : Region) (l a : ℕ) →
    (txn_at w.lanes l).over ≡ false → IsMine (txn_at w.lanes l) a → IsWorldAt shape base s chains start w region →
    newest (region.at a) ≡ latest (written (txn_at w.lanes l)) a (fold start w.history a)

-- A read finds this value, and a stop leaves no other.
pub record HasOneValue (region : Region) (a v : ℕ) : Type 0 where
  pub found : newest (region.at a) ≡ v
  pub settled : (u : ℕ) → IsCandidate (region.at a) u → u ≡ v

-- In a word that nobody has it is the history's.
abbrev pub UnownedRead : Type 0
UnownedRead = (shape : Shape) (base : Words) (s : State) (chains : ℕ → List ℕ) (start : Words) (w : World) (region : Region) (a : ℕ) →
    IsHeapWord shape a → IsNobodys w.lanes a → IsWorldAt shape base s chains start w region → HasOneValue region a (fold start w.history a)
