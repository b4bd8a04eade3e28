-- How far a recovery has come, as one state: the log and its room in settled words, and the newest values of the heap's.
use Rattle.std.specs.Prelude.{◌≡◌, ℕ, ◌+◌, ◌<◌, ◌≤◌, ◌==◌, if◌then◌else◌, List, length, slice_index}
use Rattle.persist_model.specs.Region.{Words, Region, IsSettled, AreSettled, newest_words}
use Rattle.persist_model.specs.Progress.{Progress, Wrote, start}
use Rattle.persist_model.specs.Shape.{Shape, shape_of, heap_words, list_words, IsShape}
use Rattle.persist_model.specs.Sound.{HasChain}
use Rattle.persist_model.specs.State.{State}
use Rattle.log_laws.specs.Recovering.{with_heap}
use Rattle.log_laws.specs.Parts.{HasCome}

-- what a read of each word gives
abbrev pub newest_at : Region → Words
newest_at region = slice_index (newest_words region)

-- the words with another value at a
abbrev pub with_value : Words → ℕ → ℕ → Words
with_value w a v = λ b. if b == a then v else w b

-- the region's header is right, and is that of the shape
pub record HasHeader (shape : Shape) (region : Region) : Type 0 where
  pub header : IsShape region.size (newest_at region)
  pub shape_is : shape_of (newest_at region) ≡ shape

-- a word to which nothing is pending has one candidate
abbrev pub AreSingle : Progress → Region → Type 0
AreSingle progress region = (a : ℕ) → a < region.size → ((v : ℕ) → Wrote progress.pending a v → ⊥) → IsSettled (region.at a)

-- Recovery began at first and has come to y: nothing is pending for the log, and for the heap only values of words whose
-- standing value a record decides. The heap words of y are the newest ones.
pub record HasReached (shape : Shape) (first y : State) (region : Region) : Type 0 where
  pub header : HasHeader shape region
  pub progress : Progress
  pub durable : Words
  pub state : State
  pub come : HasCome shape first progress durable state region
  pub single : AreSingle progress region
  pub is : y ≡ with_heap state (heap_words shape (newest_at region))

-- and nothing is pending
pub record HasSettled (shape : Shape) (first y : State) (region : Region) : Type 0 where
  pub header : HasHeader shape region
  pub durable : Words
  pub come : HasCome shape first (start durable) durable y region
  pub settled : AreSettled region

-- no recovery word of the partition asks for a repair
abbrev pub IsQuiet : ℕ → Words → Type 0
IsQuiet p w = (w (list_words p + 2) ≡ 0) × (w (list_words p + 4) ≡ 0)

-- the partition's chain has at most one bucket
abbrev pub HasFewBuckets : Shape → ℕ → Words → Type 0
HasFewBuckets shape p w = (chain : List ℕ) → HasChain shape w p chain → length chain ≤ 1
