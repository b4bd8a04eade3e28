-- A checkpoint begins, sweeps the heap while other lanes store, and makes its fence.
use Rattle.std.specs.Prelude.{◌≡◌, ℕ, ◌+◌, ◌<◌, ◌≤◌, ◌==◌, ◌&&◌, not, Bool, false, List}
use Rattle.persist_model.specs.declared.event.Event.TheVariants.{WriteBack, Fence}
use Rattle.persist_model.specs.Region.{Words, Region, after}
use Rattle.persist_model.specs.Shape.{Shape, heap, words_of_shape, IsHeapWord}
use Rattle.persist_model.specs.State.{State}
use Rattle.log_keeper.specs.declared.slots.TheConstants.{NOBODY}
use Rattle.log_keeper.specs.Logged.{resting}
use Rattle.log_keeper.specs.Keeper.{all_latched}
use Rattle.history_laws.specs.UnderWay.{nothing}
use Rattle.txn_laws.specs.Txns.{txn_at}
use Rattle.txn_laws.specs.Flights.{is_flying}
use Rattle.txn_laws.specs.Worlds.{World}
use Rattle.redo_laws.specs.Checkpoints.{Checkpoint, none, sweeps, swept}
use Rattle.redo_laws.specs.Worlds.{RedoWorld, IsRedoWorldAt}

abbrev pub at_stage : Checkpoint → RedoWorld → RedoWorld
at_stage c z = record z { checkpoint = c }

-- Nothing is under way, and no commit is in flight.
pub record MaySweep (shape : Shape) (w : World) (l : ℕ) : Type 0 where
  pub few : l < NOBODY
  pub run : (p : ℕ) → p < shape.partitions → w.keeping.runs p ≡ resting
  pub under : (p : ℕ) → p < shape.partitions → w.under p ≡ nothing
  pub landed : (k : ℕ) → is_flying (txn_at w.lanes k) ≡ false

-- the lane takes all latches
abbrev pub sweeping_from : Shape → ℕ → RedoWorld → RedoWorld
sweeping_from shape l z =
    record { world = record z.world { keeping = all_latched l shape.partitions z.world.keeping }; dirty = z.dirty; checkpoint = sweeps l (heap shape) }

abbrev pub SweepsBegin : Type 0
SweepsBegin = (shape : Shape) (base : Words) (s : State) (chains : ℕ → List ℕ) (start : Words) (z : RedoWorld) (region : Region) (l : ℕ) →
    z.checkpoint ≡ none → MaySweep shape z.world l → IsRedoWorldAt shape base s chains start z region → IsRedoWorldAt shape base s chains start (sweeping_from shape l z) region

-- Where the sweep comes to words that aren't dirty it passes them, without an event.
abbrev pub SweepsPass : Type 0
SweepsPass = (shape : Shape) (base : Words) (s : State) (chains : ℕ → List ℕ) (start : Words) (z : RedoWorld) (region : Region) (l place later : ℕ) →
    z.checkpoint ≡ sweeps l place → ((a : ℕ) → IsHeapWord shape a → place ≤ a → a < later → z.dirty a ≡ false) → IsRedoWorldAt shape base s chains start z region →
    IsRedoWorldAt shape base s chains start (at_stage (sweeps l later) z) region

-- a write back makes the word clean
abbrev pub clean_at : ℕ → (ℕ → Bool) → ℕ → Bool
clean_at a dirty b = dirty b && not (b == a)

abbrev pub written_back : ℕ → ℕ → RedoWorld → RedoWorld
written_back l a z = record { world = z.world; dirty = clean_at a z.dirty; checkpoint = sweeps l (a + 1) }

-- It writes back the next dirty word.
abbrev pub WordsAreWrittenBack : Type 0
WordsAreWrittenBack = (shape : Shape) (base : Words) (s : State) (chains : ℕ → List ℕ) (start : Words) (z : RedoWorld) (region : Region) (l a : ℕ) →
    z.checkpoint ≡ sweeps l a → IsHeapWord shape a → IsRedoWorldAt shape base s chains start z region →
    IsRedoWorldAt shape base s chains start (written_back l a z) (after region l (WriteBack a))

-- Behind the last word its fence keeps what it wrote back.
abbrev pub SweepsAreFenced : Type 0
SweepsAreFenced = (shape : Shape) (base : Words) (s : State) (chains : ℕ → List ℕ) (start : Words) (z : RedoWorld) (region : Region) (l place : ℕ) → l < NOBODY →
    z.checkpoint ≡ sweeps l place → words_of_shape shape ≤ place → IsRedoWorldAt shape base s chains start z region →
    IsRedoWorldAt shape base s chains start (at_stage (swept l) z) (after region l Fence)
