-- The records of a log, and what they say of its transactions.
use Rattle.std.specs.Prelude.{◌≡◌, ◌≢◌, ◌⊎◌, ℕ, ◌<◌, List, [], ◌∷◌}
use Rattle.persist_model.specs.Kinds.{CHECKPOINT, COMMITTED, COMPENSATION, DELETION, END, ROLLBACK, UPDATE}

-- an open cell with the address of its gate; lsn is the gate
pub record Record : Type 0 where
  pub at : ℕ
  pub lsn : ℕ
  pub transaction : ℕ
  pub kind : ℕ
  pub word : ℕ
  pub before : ℕ
  pub after : ℕ
  pub undo_next : ℕ
  pub outcome : ℕ

-- the records of an image, newest first
abbrev pub Log : Type 0
Log = List Record

-- r is a record of the log
abbrev pub IsAmong : {X : Type 0} → List X → X → Type 0
IsAmong [] r = ⊥
IsAmong (s ∷ log) r = (r ≡ s) ⊎ IsAmong log r

-- r has the greater number of the two, or the same and the greater address
abbrev pub IsNewer : Record → Record → Type 0
IsNewer r s = (s.lsn < r.lsn) ⊎ ((s.lsn ≡ r.lsn) × (s.at < r.at))

-- each record is newer than those behind it
abbrev pub IsNewestFirst : Log → Type 0
IsNewestFirst [] = Unit {0}
IsNewestFirst (r ∷ earlier) = ((s : Record) → IsAmong earlier s → IsNewer r s) × IsNewestFirst earlier

-- ---- the kinds

abbrev pub IsUpdate : Record → Type 0
IsUpdate r = r.kind ≡ UPDATE

abbrev pub IsCompensation : Record → Type 0
IsCompensation r = r.kind ≡ COMPENSATION

abbrev pub IsRollback : Record → Type 0
IsRollback r = r.kind ≡ ROLLBACK

abbrev pub IsEnd : Record → Type 0
IsEnd r = r.kind ≡ END

abbrev pub IsCheckpoint : Record → Type 0
IsCheckpoint r = r.kind ≡ CHECKPOINT

abbrev pub IsDeletion : Record → Type 0
IsDeletion r = r.kind ≡ DELETION

-- an update or a compensation
abbrev pub IsChange : Record → Type 0
IsChange r = IsUpdate r ⊎ IsCompensation r

abbrev pub NamesWord : Record → Type 0
NamesWord r = IsChange r ⊎ IsDeletion r

-- r is a record of the transaction t
abbrev pub IsOf : ℕ → Record → Type 0
IsOf t r = (r.transaction ≡ t) × (r.kind ≢ CHECKPOINT)

-- ---- the transactions

-- there is a record with P
abbrev pub Has : (Record → Type 0) → Log → Type 0
Has P log = (r : Record) × IsAmong log r × P r

-- no record has P
abbrev pub HasNo : (Record → Type 0) → Log → Type 0
HasNo P log = (r : Record) → IsAmong log r → P r → ⊥

abbrev pub IsEndOf : ℕ → Record → Type 0
IsEndOf t r = IsEnd r × (r.transaction ≡ t)

abbrev pub IsEnded : Log → ℕ → Type 0
IsEnded log t = Has (IsEndOf t) log

-- said of a transaction that has a record
abbrev pub IsRunning : Log → ℕ → Type 0
IsRunning log t = HasNo (IsEndOf t) log

abbrev pub IsCommitted : Log → ℕ → Type 0
IsCommitted log t = Has (λ r. IsEndOf t r × (r.outcome ≡ COMMITTED)) log

-- an end of t is older than some checkpoint record
abbrev pub IsSkipped : Log → ℕ → Type 0
IsSkipped log t = Has (λ e. IsEndOf t e × Has (λ c. IsCheckpoint c × (e.lsn < c.lsn)) log) log

-- t has a record, and no end
abbrev pub IsLoser : Log → ℕ → Type 0
IsLoser log t = Has (IsOf t) log × IsRunning log t
