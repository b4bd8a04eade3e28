-- The order rules of a log.
use Rattle.std.specs.Prelude.{◌≡◌, ◌≢◌, ◌⊎◌, ℕ, Bool, ◌==◌, ◌&&◌, ◌||◌, if◌then◌else◌, [], ◌∷◌}
use Rattle.persist_model.specs.Records.{Record, Log, IsAmong, HasNo, IsUpdate, IsCompensation, IsRollback, IsEnd, IsDeletion, NamesWord, IsOf, IsRunning, IsCommitted}
use Rattle.persist_model.specs.Kinds.{CHECKPOINT, COMPENSATION, UPDATE}

-- ---- the undo point

abbrev pub is_kind_of : ℕ → ℕ → Record → Bool
is_kind_of t kind r = (r.transaction == t) && (r.kind == kind)

-- The number of the update that t would undo next: its last change decides, an update by its own number, a compensation by its UNDO_NEXT.
abbrev pub undo_point : ℕ → Log → ℕ
undo_point t [] = 0
undo_point t (r ∷ earlier) =
    if is_kind_of t UPDATE r then r.lsn else (if is_kind_of t COMPENSATION r then r.undo_next else undo_point t earlier)

-- c's fields are those of a compensation of u
pub record Compensates (c u : Record) : Type 0 where
  pub word : c.word ≡ u.word
  pub before : c.before ≡ u.after
  pub after : c.after ≡ u.before
  pub undo_next : c.undo_next ≡ u.undo_next

-- the update that the next compensation of t names
pub record IsNextToUndo (t : ℕ) (earlier : Log) (u : Record) : Type 0 where
  pub among : IsAmong earlier u
  pub update : IsUpdate u
  pub owner : u.transaction ≡ t
  pub point : u.lsn ≡ undo_point t earlier

-- the NEW of t's last change of a, or else d
abbrev pub last_new : ℕ → ℕ → ℕ → Log → ℕ
last_new t a d [] = d
last_new t a d (r ∷ earlier) = if (is_kind_of t UPDATE r || is_kind_of t COMPENSATION r) && (r.word == a) then r.after else last_new t a d earlier

-- ---- the rules

-- what is asked of a record of a running transaction, by those before it
pub record UndoesWell (earlier : Log) (r : Record) : Type 0 where
  pub no_rollback : IsUpdate r ⊎ IsDeletion r ⊎ IsRollback r → HasNo (λ s. IsOf r.transaction s × IsRollback s) earlier
  pub undo_next : IsUpdate r → r.undo_next ≡ undo_point r.transaction earlier
  pub before : IsUpdate r → r.before ≡ last_new r.transaction r.word r.before earlier
  pub compensates : IsCompensation r → (u : Record) × IsNextToUndo r.transaction earlier u × Compensates r u

-- s bars a later record of another transaction from its word
abbrev pub Bars : Log → Record → Type 0
Bars log s = (NamesWord s × IsRunning log s.transaction) ⊎ (IsDeletion s × IsCommitted log s.transaction)

-- what is asked of a record, by those before it
pub record Follows (part : ℕ → ℕ) (log earlier : Log) (r : Record) : Type 0 where
  pub fresh : HasNo (λ s. s.lsn ≡ r.lsn) earlier
  pub one_part : HasNo (λ s. IsOf r.transaction s × (r.kind ≢ CHECKPOINT) × (part s.at ≢ part r.at)) earlier
  pub not_ended : HasNo (λ s. IsOf r.transaction s × (r.kind ≢ CHECKPOINT) × IsEnd s) earlier
  pub word : NamesWord r → HasNo (λ s. (s.word ≡ r.word) × (s.transaction ≢ r.transaction) × Bars log s) earlier
  pub undo : (r.kind ≢ CHECKPOINT) → IsRunning log r.transaction → UndoesWell earlier r

abbrev pub FollowEach : (ℕ → ℕ) → Log → Log → Type 0
FollowEach part log [] = Unit {0}
FollowEach part log (r ∷ earlier) = Follows part log earlier r × FollowEach part log earlier

abbrev pub IsInOrder : (ℕ → ℕ) → Log → Type 0
IsInOrder part log = FollowEach part log log
