-- The settled records against the transactions of the lanes, where records stay behind their transaction's end. h is the history's heap.
use Rattle.std.specs.Prelude.{◌≡◌, ◌≢◌, ◌⊎◌, ℕ, ◌≤◌, List}
use Rattle.persist_model.specs.Region.{Words}
use Rattle.persist_model.specs.Kinds.{CHECKPOINT}
use Rattle.persist_model.specs.Records.{Record, Log, IsAmong, IsOf, IsEnded}
use Rattle.persist_model.specs.Standing.{IsToDelete}
use Rattle.persist_model.specs.Shape.{Shape}
use Rattle.txn_laws.specs.Txns.{Txn, txn_at}
use Rattle.txn_laws.specs.Owners.{IsMine}
use Rattle.txn_laws.specs.AreTransactions.{IsTransaction}

-- a transaction with a record of the log and a lane
abbrev pub IsLanes : List Txn → Record → Type 0
IsLanes lanes r = (l : ℕ) × (1 ≤ (txn_at lanes l).number) × IsOf (txn_at lanes l).number r

-- one that has ended, and that no lane has any more
abbrev pub IsGone : Log → List Txn → Record → Type 0
IsGone log lanes r = IsEnded log r.transaction × ((l : ℕ) → (txn_at lanes l).number ≢ r.transaction)

-- Each record but a checkpoint's is of a lane's transaction, or of one that is gone. An owner word of a block that a commit gave back is no
-- other lane's until that record is closed.
pub record AreRedoTransactions (shape : Shape) (log : Log) (h : Words) (lanes : List Txn) : Type 0 where
  pub each : (l : ℕ) → IsTransaction shape log h (txn_at lanes l)
  pub known : (r : Record) → IsAmong log r → r.kind ≢ CHECKPOINT → IsLanes lanes r ⊎ IsGone log lanes r
  pub apart : (l k : ℕ) → 1 ≤ (txn_at lanes l).number → (txn_at lanes l).number ≡ (txn_at lanes k).number → l ≡ k
  pub barred : (r : Record) (l a : ℕ) → IsAmong log r → IsToDelete log a r → IsMine (txn_at lanes l) a → IsOf (txn_at lanes l).number r
