-- The settled records against the transactions of the lanes. h is the history's heap.
use Rattle.std.specs.Prelude.{◌≡◌, ℕ, ◌≤◌, true, false, Some, List, [], ◌∷◌, length, take, slice_get}
use Rattle.persist_model.specs.Region.{Words}
use Rattle.persist_model.specs.Progress.{Write, write, latest}
use Rattle.persist_model.specs.Records.{Record, Log, IsAmong, Has, HasNo, IsOf, IsUpdate, IsRollback, IsRunning, IsEnded, IsCommitted}
use Rattle.persist_model.specs.Standing.{IsLatest}
use Rattle.persist_model.specs.Order.{undo_point}
use Rattle.persist_model.specs.Need.{to_undo}
use Rattle.persist_model.specs.Shape.{Shape, part_of}
use Rattle.log_laws.specs.Moves.{IsDeletionBy, IsChangeBy}
use Rattle.txn_laws.specs.Txns.{Gift, Txn, txn_at}
use Rattle.txn_laws.specs.Owners.{IsMine, NamesItsOwn}

-- u is the update of write number n: it has its word and value, and as OLD the value before it
pub record IsUpdateAt (h : Words) (writes : List Write) (n : ℕ) (u : Record) : Type 0 where
  pub of_write : slice_get writes n ≡ Some (write u.word u.after)
  pub before : u.before ≡ latest (take n writes) u.word (h u.word)

-- these are the updates of the first writes, newest first
abbrev pub AreUpdatesOf : Words → List Write → List Record → Type 0
AreUpdatesOf h writes [] = Unit {0}
AreUpdatesOf h writes (u ∷ updates) = IsUpdateAt h writes (length updates) u × AreUpdatesOf h writes updates

-- the writes that have an update
abbrev pub recorded : Txn → List Write
recorded x = take (length x.updates) x.writes

-- What the settled log has of a transaction that runs. Its changes are its recorded writes: the last NEW of a changed word is the value behind
-- them, and other words have none. Each word that it has stored to has an update.
pub record IsGoing (log : Log) (h : Words) (x : Txn) : Type 0 where
  pub running : IsRunning log x.number
  pub to_undo_is : to_undo x.number log ≡ x.updates
  pub point_is : undo_point x.number log ≡ x.point
  pub rolled_is : x.rolled ≡ false → HasNo (λ r. IsOf x.number r × IsRollback r) log
  pub rolled_has : x.rolled ≡ true → Has (λ r. IsOf x.number r × IsRollback r) log
  pub updates_are : AreUpdatesOf h x.writes x.updates
  pub changed : (a : ℕ) (r : Record) → IsLatest (IsChangeBy x.number a) log r → r.after ≡ latest (recorded x) a (h a)
  pub unchanged : (a : ℕ) → HasNo (IsChangeBy x.number a) log → (u : ℕ) → latest (recorded x) a u ≡ u
  pub covered : (v : Write) → IsAmong (take x.stored x.writes) v → Has (λ r. IsUpdate r × (r.word ≡ v.address) × (r.transaction ≡ x.number)) log
  pub unzeroed : x.zeroed ≡ 0
  pub writes_own : (v : Write) → IsAmong x.writes v → IsMine x v.address

-- What it has of one whose end is fenced, while a record of it is left.
pub record IsOver (log : Log) (x : Txn) : Type 0 where
  pub has_end : Has (IsOf x.number) log → IsEnded log x.number
  pub committed : x.commits ≡ true → Has (IsOf x.number) log → IsCommitted log x.number
  pub commits_is : IsCommitted log x.number → x.commits ≡ true

-- The settled log has of each transaction what its lane has, all in one partition; its deletions stand at the gates of its gifts.
pub record IsTransaction (shape : Shape) (log : Log) (h : Words) (x : Txn) : Type 0 where
  pub in_part : (r : Record) → IsAmong log r → IsOf x.number r → part_of shape r.at ≡ x.part
  pub going : x.over ≡ false → IsGoing log h x
  pub ended : x.over ≡ true → IsOver log x
  pub deletions : (a : ℕ) (r : Record) → IsAmong log r → IsDeletionBy x.number a r → (g : Gift) × IsAmong x.gifts g × (g.word ≡ a) × (g.gate ≡ r.at)
  pub given : (g : Gift) → IsAmong x.gifts g → Has (λ d. IsDeletionBy x.number g.word d × (d.at ≡ g.gate)) log
  pub gifts_own : (g : Gift) → IsAmong x.gifts g → IsMine x g.word
  pub names : NamesItsOwn log x

-- Each record is of a lane's transaction, and no two lanes have the same.
pub record AreTransactions (shape : Shape) (log : Log) (h : Words) (lanes : List Txn) : Type 0 where
  pub each : (l : ℕ) → IsTransaction shape log h (txn_at lanes l)
  pub known : (r : Record) → IsAmong log r → (l : ℕ) × (1 ≤ (txn_at lanes l).number) × IsOf (txn_at lanes l).number r
  pub apart : (l k : ℕ) → 1 ≤ (txn_at lanes l).number → (txn_at lanes l).number ≡ (txn_at lanes k).number → l ≡ k
