-- What a lane stores to its own words between its parts of the log. A checkpoint may be anywhere meanwhile.
use Rattle.std.specs.Prelude.{◌≡◌, ℕ, ◌+◌, ◌==◌, ◌||◌, Bool, false, Some, List, length, slice_get}
use Rattle.persist_model.specs.declared.event.Event.TheVariants.{Store}
use Rattle.persist_model.specs.Region.{Words, Region, after}
use Rattle.persist_model.specs.Progress.{write, latest}
use Rattle.persist_model.specs.Shape.{Shape}
use Rattle.persist_model.specs.State.{State}
use Rattle.history_laws.specs.Histories.{fold}
use Rattle.txn_laws.specs.Txns.{Txn, txn_at}
use Rattle.txn_laws.specs.AreTransactions.{recorded}
use Rattle.txn_laws.specs.Stores.{IsBetween}
use Rattle.txn_laws.specs.Worlds.{with_lane}
use Rattle.redo_laws.specs.Worlds.{RedoWorld, IsRedoWorldAt}

-- a plain store makes the word dirty
abbrev pub dirty_with : ℕ → (ℕ → Bool) → ℕ → Bool
dirty_with a dirty b = dirty b || (b == a)

-- so many writes stand in the device
abbrev pub with_plain_stored : ℕ → Txn → Txn
with_plain_stored n x = record x { stored = n }

-- lane l has another transaction, and stored to a
abbrev pub stored_by : ℕ → ℕ → Txn → RedoWorld → RedoWorld
stored_by l a x z = record { world = with_lane l x z.world; dirty = dirty_with a z.dirty; checkpoint = z.checkpoint }

-- the next of the recorded writes is stored
abbrev pub WritesAreStored : Type 0
WritesAreStored = (shape : Shape) (base : Words) (s : State) (chains : ℕ → List ℕ) (start : Words) (z : RedoWorld) (region : Region) (l a v : ℕ) →
    let x = txn_at z.world.lanes l in
    x.over ≡ false → slice_get (recorded x) x.stored ≡ Some (write a v) → IsBetween shape z.world l → IsRedoWorldAt shape base s chains start z region →
    IsRedoWorldAt shape base s chains start (stored_by l a (with_plain_stored (x.stored + 1) x) z) (after region l (Store a v))

-- A write whose update was compensated is taken back: its word becomes what it was behind the writes that are left.
abbrev pub WritesAreTakenBack : Type 0
WritesAreTakenBack = (shape : Shape) (base : Words) (s : State) (chains : ℕ → List ℕ) (start : Words) (z : RedoWorld) (region : Region) (l a v u : ℕ) →
    let x = txn_at z.world.lanes l in
    x.over ≡ false → x.stored ≡ length x.updates + 1 → slice_get x.writes (length x.updates) ≡ Some (write a u) → v ≡ latest (recorded x) a (fold start z.world.history a) →
    IsBetween shape z.world l → IsRedoWorldAt shape base s chains start z region →
    IsRedoWorldAt shape base s chains start (stored_by l a (with_plain_stored (length x.updates) x) z) (after region l (Store a v))
