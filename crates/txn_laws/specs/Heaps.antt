-- The words of the heap in the region: what a read of them finds, and what waits for a fence.
use Rattle.std.specs.Prelude.{◌≡◌, ℕ, ◌<◌, true, if◌then◌else◌, List, [], ◌∷◌, length, take}
use Rattle.persist_model.specs.Region.{Words, Region, IsCandidate, newest}
use Rattle.persist_model.specs.Progress.{Progress, Wrote, Tracks, latest}
use Rattle.persist_model.specs.Records.{Log, IsAmong, HasNo}
use Rattle.persist_model.specs.Standing.{IsToDelete, Stands}
use Rattle.persist_model.specs.Shape.{Shape, IsHeapWord}
use Rattle.txn_laws.specs.Txns.{Gift, Txn, txn_at, written}
use Rattle.txn_laws.specs.Owners.{IsMine}

-- the history's heap h, with what each transaction has written to its own words
abbrev pub now_of : List Txn → Words → Words
now_of [] h a = h a
now_of (x ∷ lanes) h a = if x.words a then latest (written x) a (h a) else now_of lanes h a

-- Each value that a stop may leave of a word of the heap stands for h there, by these records.
abbrev pub StandsForHeap : Shape → Log → Words → Region → Type 0
StandsForHeap shape log h region = (a u : ℕ) → IsHeapWord shape a → IsCandidate (region.at a) u → Stands shape.policy log (λ b. u) a (h a)

-- A read finds what the lanes wrote, but in a word that a committed deletion names; there it finds 0 once that is stored.
pub record IsHeapOf (shape : Shape) (log : Log) (h : Words) (lanes : List Txn) (region : Region) : Type 0 where
  pub full : (a : ℕ) → IsHeapWord shape a → 0 < length (region.at a)
  pub now : (a : ℕ) → IsHeapWord shape a → HasNo (IsToDelete log a) log → newest (region.at a) ≡ now_of lanes h a
  pub found : (l : ℕ) (g : Gift) → (txn_at lanes l).over ≡ true → IsAmong (take (txn_at lanes l).zeroed (txn_at lanes l).gifts) g → newest (region.at g.word) ≡ 0

-- Of its own words the region has what the lane stored: some of it is durable, and some waits for the lane's fence.
pub record IsKept (l : ℕ) (x : Txn) (region : Region) : Type 0 where
  pub progress : Progress
  pub tracks : Tracks (IsMine x) l progress region
  pub own : (a v : ℕ) → Wrote progress.pending a v → IsMine x a
  pub fenced : x.fenced ≡ true → (a v : ℕ) → Wrote progress.pending a v → ⊥
