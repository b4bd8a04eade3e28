-- What a lane stores to its own words, and waits for, between its parts of the log.
use Rattle.log_keeper.specs.declared.slots.TheConstants.{NOBODY}
use Rattle.std.specs.Prelude.{◌≡◌, ℕ, ◌+◌, ◌<◌, true, false, Some, List, length, slice_get}
use Rattle.persist_model.specs.declared.event.Event.{Event}
use Rattle.persist_model.specs.declared.event.Event.TheVariants.{PStore, Fence}
use Rattle.persist_model.specs.Region.{Words, Region, after}
use Rattle.persist_model.specs.Progress.{write, latest}
use Rattle.persist_model.specs.Shape.{Shape}
use Rattle.persist_model.specs.State.{State}
use Rattle.history_laws.specs.Histories.{fold}
use Rattle.txn_laws.specs.Txns.{Gift, Txn, txn_at}
use Rattle.txn_laws.specs.AreTransactions.{recorded}
use Rattle.txn_laws.specs.PartsOf.{IsResting}
use Rattle.txn_laws.specs.Worlds.{World, with_lane, IsWorldAt}

-- it is one of the lanes, and no part of it is under way
pub record IsBetween (shape : Shape) (w : World) (l : ℕ) : Type 0 where
  pub lane : l < length w.lanes
  pub few : l < NOBODY
  pub resting : IsResting shape w.keeping l

-- With lane l's event e its transaction becomes y, and nothing else changes.
abbrev pub EventKeeps : (shape : Shape) → Words → State → (ℕ → List ℕ) → Words → World → Region → ℕ → Event → Txn → Type 0
EventKeeps shape base s chains start w region l e y =
    IsBetween shape w l → IsWorldAt shape base s chains start w region → IsWorldAt shape base s chains start (with_lane l y w) (after region l e)

-- so many writes stand in the device, and the last store waits for a fence
abbrev pub with_stored : ℕ → Txn → Txn
with_stored n x = record x { stored = n; fenced = false }

abbrev pub with_zeroed : ℕ → Txn → Txn
with_zeroed n x = record x { zeroed = n; fenced = false }

abbrev pub with_fence : Txn → Txn
with_fence x = record x { fenced = true }

-- the next of the recorded writes is stored
abbrev pub WritesAreStored : Type 0
WritesAreStored = (shape : Shape) (base : Words) (s : State) (chains : ℕ → List ℕ) (start : Words) (w : World) (region : Region) (l a v : ℕ) →
    let x = txn_at w.lanes l in
    x.over ≡ false → slice_get (recorded x) x.stored ≡ Some (write a v) → EventKeeps shape base s chains start w region l (PStore a v) (with_stored (x.stored + 1) x)

-- A write whose update was compensated is taken back: its word becomes what it was behind the writes that are left.
abbrev pub WritesAreTakenBack : Type 0
WritesAreTakenBack = (shape : Shape) (base : Words) (s : State) (chains : ℕ → List ℕ) (start : Words) (w : World) (region : Region) (l a v u : ℕ) →
    let x = txn_at w.lanes l in
    x.over ≡ false → x.stored ≡ length x.updates + 1 → slice_get x.writes (length x.updates) ≡ Some (write a u) → v ≡ latest (recorded x) a (fold start w.history a) →
    EventKeeps shape base s chains start w region l (PStore a v) (with_stored (length x.updates) x)

-- behind its commit the next owner word of what it gave becomes 0
abbrev pub GiftsAreZeroed : Type 0
GiftsAreZeroed = (shape : Shape) (base : Words) (s : State) (chains : ℕ → List ℕ) (start : Words) (w : World) (region : Region) (l : ℕ) (g : Gift) →
    let x = txn_at w.lanes l in
    x.over ≡ true → x.commits ≡ true → slice_get x.gifts x.zeroed ≡ Some g → EventKeeps shape base s chains start w region l (PStore g.word 0) (with_zeroed (x.zeroed + 1) x)

-- and behind a fence of the lane nothing waits any more
abbrev pub FencesKeep : Type 0
FencesKeep = (shape : Shape) (base : Words) (s : State) (chains : ℕ → List ℕ) (start : Words) (w : World) (region : Region) (l : ℕ) →
    EventKeeps shape base s chains start w region l Fence (with_fence (txn_at w.lanes l))
