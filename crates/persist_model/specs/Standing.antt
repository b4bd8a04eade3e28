-- The standing value of a heap word: what recovery makes of it.
use Rattle.std.specs.Prelude.{◌≡◌, ℕ, ◌≤◌}
use Rattle.persist_model.specs.Region.{Words}
use Rattle.persist_model.specs.Records.{Record, Log, IsAmong, Has, HasNo, IsUpdate, IsDeletion, IsChange, IsRunning, IsEnded, IsCommitted, IsSkipped}

-- an update of a by a running transaction
abbrev pub IsToUndo : Log → ℕ → Record → Type 0
IsToUndo log a r = IsUpdate r × (r.word ≡ a) × IsRunning log r.transaction

-- a deferred deletion of a by a committed transaction
abbrev pub IsToDelete : Log → ℕ → Record → Type 0
IsToDelete log a r = IsDeletion r × (r.word ≡ a) × IsCommitted log r.transaction

-- under no-force an update or compensation of a by an ended transaction that isn't skipped
abbrev pub IsToRedo : ℕ → Log → ℕ → Record → Type 0
IsToRedo policy log a r = (policy ≡ 2) × IsChange r × (r.word ≡ a) × IsEnded log r.transaction × (IsSkipped log r.transaction → ⊥)

-- r has P, and no older record has
pub record IsEarliest (P : Record → Type 0) (log : Log) (r : Record) : Type 0 where
  pub among : IsAmong log r
  pub has : P r
  pub first : (s : Record) → IsAmong log s → P s → r.lsn ≤ s.lsn

-- r has P, and no newer record has
pub record IsLatest (P : Record → Type 0) (log : Log) (r : Record) : Type 0 where
  pub among : IsAmong log r
  pub has : P r
  pub last : (s : Record) → IsAmong log s → P s → s.lsn ≤ r.lsn

-- v is the standing value of the word a: the earliest OLD of a running transaction, else 0 for a deletion,
-- else the latest NEW that is to be redone, else the word itself
pub data Stands (policy : ℕ) (log : Log) (w : Words) (a v : ℕ) : Type 0 where
  undone : (u : Record) → IsEarliest (IsToUndo log a) log u → v ≡ u.before → Stands policy log w a v
  deleted : HasNo (IsToUndo log a) log → Has (IsToDelete log a) log → v ≡ 0 → Stands policy log w a v
  redone : HasNo (IsToUndo log a) log → HasNo (IsToDelete log a) log
      → (r : Record) → IsLatest (IsToRedo policy log a) log r → v ≡ r.after → Stands policy log w a v
  kept : HasNo (IsToUndo log a) log → HasNo (IsToDelete log a) log → HasNo (IsToRedo policy log a) log
      → v ≡ w a → Stands policy log w a v
