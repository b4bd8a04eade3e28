-- A transaction begins on words that nobody has, and is over once the log has none of its records. Neither makes an event.
use Rattle.std.specs.Prelude.{◌≡◌, ◌≢◌, ℕ, ◌<◌, ◌≤◌, Bool, true, false, List, [], ◌∷◌, ◌++◌, length}
use Rattle.persist_model.specs.Region.{Words, Region}
use Rattle.persist_model.specs.Records.{HasNo, IsOf}
use Rattle.persist_model.specs.Shape.{Shape, IsHeapWord}
use Rattle.persist_model.specs.State.{State}
use Rattle.history_laws.specs.Histories.{Entry}
use Rattle.txn_laws.specs.Txns.{Txn, idle, txn_at}
use Rattle.txn_laws.specs.Owners.{IsNobodys}
use Rattle.txn_laws.specs.PartsOf.{IsResting}
use Rattle.txn_laws.specs.Worlds.{World, with_lane, IsWorldAt}

-- with these words as its own
abbrev pub begun : ℕ → ℕ → (ℕ → Bool) → Txn
begun number part words = record idle { number = number; part = part; words = words }

-- The lane has no transaction, no other has the number, and the words are nobody's.
pub record MayBegin (shape : Shape) (w : World) (l number : ℕ) (words : ℕ → Bool) : Type 0 where
  pub lane : l < length w.lanes
  pub free : txn_at w.lanes l ≡ idle
  pub some : 1 ≤ number
  pub fresh : (k : ℕ) → (txn_at w.lanes k).number ≢ number
  pub in_heap : (a : ℕ) → words a ≡ true → IsHeapWord shape a
  pub nobodys : (a : ℕ) → words a ≡ true → IsNobodys w.lanes a

abbrev pub BeginsKeep : Type 0
BeginsKeep = (shape : Shape) (base : Words) (s : State) (chains : ℕ → List ℕ) (start : Words) (w : World) (region : Region) (l number part : ℕ) (words : ℕ → Bool) →
    MayBegin shape w l number words → IsWorldAt shape base s chains start w region → IsWorldAt shape base s chains start (with_lane l (begun number part words) w) region

-- The lane's end is fenced, nothing of it is under way, and no record of its transaction is left.
pub record MayLeave (shape : Shape) (s : State) (w : World) (l : ℕ) : Type 0 where
  pub lane : l < length w.lanes
  pub is_over : (txn_at w.lanes l).over ≡ true
  pub no_record : HasNo (IsOf (txn_at w.lanes l).number) s.log
  pub resting : IsResting shape w.keeping l

abbrev pub LeavesKeep : Type 0
LeavesKeep = (shape : Shape) (base : Words) (s : State) (chains : ℕ → List ℕ) (start : Words) (w : World) (region : Region) (l : ℕ) →
    MayLeave shape s w l → IsWorldAt shape base s chains start w region → IsWorldAt shape base s chains start (with_lane l idle w) region

-- ---- without a record

-- The lane's transaction runs, the log has no record of it, nothing of it is under way, and no write of it stands in the device.
pub record MayLeaveUnrecorded (shape : Shape) (s : State) (w : World) (l : ℕ) : Type 0 where
  pub lane : l < length w.lanes
  pub runs : (txn_at w.lanes l).over ≡ false
  pub no_record : HasNo (IsOf (txn_at w.lanes l).number) s.log
  pub resting : IsResting shape w.keeping l
  pub none_stored : (txn_at w.lanes l).stored ≡ 0

abbrev pub UnrecordedLeave : Type 0
UnrecordedLeave = (shape : Shape) (base : Words) (s : State) (chains : ℕ → List ℕ) (start : Words) (w : World) (region : Region) (l : ℕ) →
    MayLeaveUnrecorded shape s w l → IsWorldAt shape base s chains start w region → IsWorldAt shape base s chains start (with_lane l idle w) region

-- the entry joins the history as the lane leaves
abbrev pub left_with : ℕ → Entry → World → World
left_with l e w = record (with_lane l idle w) { history = w.history ++ e ∷ [] }

-- So may the commit of a transaction that writes nothing.
abbrev pub UnrecordedCommit : Type 0
UnrecordedCommit = (shape : Shape) (base : Words) (s : State) (chains : ℕ → List ℕ) (start : Words) (w : World) (region : Region) (l : ℕ) (e : Entry) →
    e.writes ≡ [] → MayLeaveUnrecorded shape s w l → IsWorldAt shape base s chains start w region → IsWorldAt shape base s chains start (left_with l e w) region
