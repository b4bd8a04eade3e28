-- What a stop leaves of a world of lanes, what a read finds, and where a world begins.
use Rattle.std.specs.Prelude.{◌≡◌, ℕ, ◌+◌, ◌*◌, ◌≤◌, ◌^◌, false, List}
use Rattle.persist_model.specs.Region.{Words, Region, MayStand, newest}
use Rattle.persist_model.specs.Progress.{latest}
use Rattle.persist_model.specs.Records.{HasNo}
use Rattle.persist_model.specs.Standing.{IsToDelete}
use Rattle.persist_model.specs.Shape.{Shape, heap_words, IsHeapWord}
use Rattle.persist_model.specs.State.{State}
use Rattle.history_laws.specs.Histories.{fold}
use Rattle.history_laws.specs.Stands.{StandsFor}
use Rattle.txn_laws.specs.Txns.{txn_at, written}
use Rattle.txn_laws.specs.Flights.{flight_of}
use Rattle.txn_laws.specs.Owners.{IsMine, IsNobodys}
use Rattle.txn_laws.specs.StartLaws.{IsStartingRegion, fresh_world}
use Rattle.redo_laws.specs.Checkpoints.{none}
use Rattle.redo_laws.specs.Worlds.{RedoWorld, IsRedoWorldAt}

-- Each image stands for the history and those commits in flight that it has.
abbrev pub WorldsStand : Type 0
WorldsStand = (shape : Shape) (base : Words) (s : State) (chains : ℕ → List ℕ) (start : Words) (z : RedoWorld) (region : Region) →
    IsRedoWorldAt shape base s chains start z region → (i : Words) → MayStand i region → StandsFor region.size start z.world.history (flight_of z.world.lanes) i

-- In a word of its own a running transaction finds what it has written, on the history's value.
abbrev pub OwnReads : Type 0
OwnReads = (shape : Shape) (base : Words) (s : State) (chains : ℕ → List ℕ) (start : Words) (z : RedoWorld) (region : Region) (l a : ℕ) →
    (txn_at z.world.lanes l).over ≡ false → IsMine (txn_at z.world.lanes l) a → IsRedoWorldAt shape base s chains start z region →
    newest (region.at a) ≡ latest (written (txn_at z.world.lanes l)) a (fold start z.world.history a)

-- In a word that nobody has, and that no committed deletion names, a read finds the history's value.
abbrev pub UnownedRead : Type 0
UnownedRead = (shape : Shape) (base : Words) (s : State) (chains : ℕ → List ℕ) (start : Words) (z : RedoWorld) (region : Region) (a : ℕ) →
    IsHeapWord shape a → IsNobodys z.world.lanes a → HasNo (IsToDelete s.log a) s.log → IsRedoWorldAt shape base s chains start z region →
    newest (region.at a) ≡ fold start z.world.history a

-- nothing is under way, and no word is dirty
abbrev pub fresh_redo : ℕ → ℕ → RedoWorld
fresh_redo lanes next = record { world = fresh_world lanes next; dirty = λ a. false; checkpoint = none }

-- A settled region with an empty log, where the first partition has a cell, is where a world begins, with the heap of its words and no history.
abbrev pub WorldsStart : Type 0
WorldsStart = (shape : Shape) (base : Words) (s : State) (chains : ℕ → List ℕ) (lanes next : ℕ) (region : Region) → shape.policy ≡ 2 → 1 ≤ s.room 0 →
    next + shape.cells * (shape.buckets + shape.partitions) + 1 ≤ 2 ^ 63 → IsStartingRegion shape base s chains region →
    IsRedoWorldAt shape base s chains (heap_words shape base) (fresh_redo lanes next) region
