-- A transaction begins, takes words, means to write, and leaves its words behind its end. None of it makes an event, and a checkpoint may be anywhere.
use Rattle.std.specs.Prelude.{◌≡◌, ℕ, ◌<◌, Bool, true, false, List, [], length}
use Rattle.persist_model.specs.Region.{Words, Region}
use Rattle.persist_model.specs.Progress.{Write}
use Rattle.persist_model.specs.Records.{HasNo, IsOf}
use Rattle.persist_model.specs.Standing.{IsToDelete}
use Rattle.persist_model.specs.Shape.{Shape}
use Rattle.persist_model.specs.State.{State}
use Rattle.history_laws.specs.Histories.{Entry}
use Rattle.txn_laws.specs.Txns.{Txn, idle, txn_at}
use Rattle.txn_laws.specs.PartsOf.{IsResting}
use Rattle.txn_laws.specs.Beginnings.{MayBegin, MayLeaveUnrecorded}
use Rattle.txn_laws.specs.Takes.{with_words, MayTake}
use Rattle.txn_laws.specs.Asks.{asked, MayAsk}
use Rattle.txn_laws.specs.Worlds.{World, with_lane}
use Rattle.txn_laws.specs.Beginnings.{left_with}
use Rattle.redo_laws.specs.Worlds.{RedoWorld, with_world, IsRedoWorldAt}

-- lane l has another transaction
abbrev pub with_redo_lane : ℕ → Txn → RedoWorld → RedoWorld
with_redo_lane l x z = with_world (with_lane l x z.world) z

-- with these words as its own, of which nothing waits for a fence
abbrev pub redo_begun : ℕ → ℕ → (ℕ → Bool) → Txn
redo_begun number part words = record idle { number = number; part = part; words = words; fenced = true }

-- no committed deletion names one of these words
abbrev pub AreFree : State → (ℕ → Bool) → Type 0
AreFree s words = (a : ℕ) → words a ≡ true → HasNo (IsToDelete s.log a) s.log

abbrev pub BeginsKeep : Type 0
BeginsKeep = (shape : Shape) (base : Words) (s : State) (chains : ℕ → List ℕ) (start : Words) (z : RedoWorld) (region : Region) (l number part : ℕ) (words : ℕ → Bool) →
    MayBegin shape z.world l number words → HasNo (IsOf number) s.log → AreFree s words → IsRedoWorldAt shape base s chains start z region →
    IsRedoWorldAt shape base s chains start (with_redo_lane l (redo_begun number part words) z) region

abbrev pub TakesKeep : Type 0
TakesKeep = (shape : Shape) (base : Words) (s : State) (chains : ℕ → List ℕ) (start : Words) (z : RedoWorld) (region : Region) (l : ℕ) (words : ℕ → Bool) →
    (txn_at z.world.lanes l).over ≡ false → MayTake shape z.world l words → AreFree s words → IsRedoWorldAt shape base s chains start z region →
    IsRedoWorldAt shape base s chains start (with_redo_lane l (with_words words (txn_at z.world.lanes l)) z) region

-- its end's gate isn't stored
abbrev pub AsksKeep : Type 0
AsksKeep = (shape : Shape) (base : Words) (s : State) (chains : ℕ → List ℕ) (start : Words) (z : RedoWorld) (region : Region) (l : ℕ) (more : List Write) (commits : Bool) →
    MayAsk shape z.world l more → (txn_at z.world.lanes l).ended ≡ false → IsRedoWorldAt shape base s chains start z region →
    IsRedoWorldAt shape base s chains start (with_redo_lane l (asked more commits (txn_at z.world.lanes l)) z) region

-- Its end is fenced and nothing of it is under way. Its records stay until a checkpoint closes them.
pub record MayDepart (shape : Shape) (w : World) (l : ℕ) : Type 0 where
  pub lane : l < length w.lanes
  pub is_over : (txn_at w.lanes l).over ≡ true
  pub resting : IsResting shape w.keeping l

abbrev pub DepartsKeep : Type 0
DepartsKeep = (shape : Shape) (base : Words) (s : State) (chains : ℕ → List ℕ) (start : Words) (z : RedoWorld) (region : Region) (l : ℕ) →
    MayDepart shape z.world l → IsRedoWorldAt shape base s chains start z region → IsRedoWorldAt shape base s chains start (with_redo_lane l idle z) region

-- One that runs leaves where it has neither a record nor a store,
abbrev pub UnrecordedLeave : Type 0
UnrecordedLeave = (shape : Shape) (base : Words) (s : State) (chains : ℕ → List ℕ) (start : Words) (z : RedoWorld) (region : Region) (l : ℕ) →
    MayLeaveUnrecorded shape s z.world l → IsRedoWorldAt shape base s chains start z region → IsRedoWorldAt shape base s chains start (with_redo_lane l idle z) region

-- and so may the commit of one that writes nothing, whose entry joins the history.
abbrev pub UnrecordedCommit : Type 0
UnrecordedCommit = (shape : Shape) (base : Words) (s : State) (chains : ℕ → List ℕ) (start : Words) (z : RedoWorld) (region : Region) (l : ℕ) (e : Entry) →
    e.writes ≡ [] → MayLeaveUnrecorded shape s z.world l → IsRedoWorldAt shape base s chains start z region →
    IsRedoWorldAt shape base s chains start (with_world (left_with l e z.world) z) region
