-- What the plans of running transactions do to what an image is to recovery.
use Rattle.std.specs.Prelude.{◌≡◌, ◌≢◌, ◌⊎◌, ℕ, ◌<◌, ◌≤◌, [], ◌∷◌}
use Rattle.persist_model.specs.Region.{Words}
use Rattle.persist_model.specs.Kinds.{COMMITTED, ROLLED_BACK}
use Rattle.persist_model.specs.Records.{Record, Log, IsAmong, Has, HasNo, IsOf, IsUpdate, IsCompensation, IsRollback, IsEnd, IsCheckpoint, IsDeletion, IsChange, IsRunning}
use Rattle.persist_model.specs.Standing.{IsToUndo, IsToDelete, IsLatest, Stands}
use Rattle.persist_model.specs.Order.{undo_point, last_new, Compensates, Bars}
use Rattle.persist_model.specs.Shape.{Shape, part_of}
use Rattle.persist_model.specs.ImageRecords.{IsWellFormed}
use Rattle.persist_model.specs.Need.{to_undo}
use Rattle.persist_model.specs.State.{State, HasRoom, HasNumbers, IsSoundState}
use Rattle.log_laws.specs.Closing.{IsApplied, IsSublog, IsClosing}
use Rattle.log_laws.specs.Recovery.{HasDecidingRecord, IsStored, grown, KeepsStanding}

-- r takes a number above all others and a cell of its part, and the room and the numbers that are left are enough.
pub record Arrives (shape : Shape) (s : State) (r : Record) (room : ℕ → ℕ) : Type 0 where
  pub formed : IsWellFormed shape r
  pub gate : r.lsn ≢ 0
  pub above : (x : Record) → IsAmong s.log x → x.lsn < r.lsn
  pub fits : (p : ℕ) → p < shape.partitions → HasRoom shape (r ∷ s.log) p (room p)
  pub numbers : HasNumbers shape (r ∷ s.log) r

-- r's transaction runs, and all its records stand in r's part
pub record IsOfRunning (shape : Shape) (log : Log) (r : Record) : Type 0 where
  pub running : IsRunning log r.transaction
  pub one_part : (x : Record) → IsAmong log x → IsOf r.transaction x → part_of shape x.at ≡ part_of shape r.at

-- no rollback record of r's transaction is there, and nobody else has r's word
pub record MayName (log : Log) (r : Record) : Type 0 where
  pub not_rolled : HasNo (λ x. IsOf r.transaction x × IsRollback x) log
  pub free : HasNo (λ x. (x.word ≡ r.word) × (x.transaction ≢ r.transaction) × Bars log x) log

-- The update u names the undo point before it; its OLD is what its transaction last wrote, or else the standing value of its word.
pub record MayUpdate (policy : ℕ) (s : State) (u : Record) : Type 0 where
  pub undo_next : u.undo_next ≡ undo_point u.transaction s.log
  pub last : u.before ≡ last_new u.transaction u.word u.before s.log
  pub standing : (v : ℕ) → Stands policy s.log s.words u.word v → Has (IsToUndo s.log u.word) s.log ⊎ (u.before ≡ v)

-- each word that is neither to be undone nor deleted has its standing value
abbrev pub AreSwept : ℕ → Log → Words → Type 0
AreSwept policy log w = (a : ℕ) → HasNo (IsToUndo log a) log → HasNo (IsToDelete log a) log → IsApplied policy log w a

-- a deletion of a running transaction, which decides no word yet
abbrev pub IsDeferred : Log → Record → Type 0
IsDeferred log d = IsDeletion d × IsRunning log d.transaction

-- What a running transaction's plan, a checkpoint or a clearing does, but for the end of a commit.
pub data Move (shape : Shape) (s : State) : State → Type 0 where
  writes_words : (w : Words) → ((a : ℕ) → (w a ≡ s.words a) ⊎ HasDecidingRecord shape.policy s.log a) →
      Move shape s (record { log = s.log; words = w; room = s.room })
  adds_update : (u : Record) (room : ℕ → ℕ) → Arrives shape s u room → IsOfRunning shape s.log u → IsUpdate u → MayName s.log u → MayUpdate shape.policy s u →
      Move shape s (grown s u room)
  adds_deletion : (d : Record) (room : ℕ → ℕ) → Arrives shape s d room → IsOfRunning shape s.log d → IsDeletion d → MayName s.log d → Move shape s (grown s d room)
  adds_rollback : (r : Record) (room : ℕ → ℕ) → Arrives shape s r room → IsOfRunning shape s.log r → IsRollback r →
      HasNo (λ x. IsOf r.transaction x × IsRollback x) s.log → Move shape s (grown s r room)
  adds_compensation : (c u : Record) (stack : Log) (room : ℕ → ℕ) → Arrives shape s c room → IsOfRunning shape s.log c → IsCompensation c →
      to_undo c.transaction s.log ≡ u ∷ stack → Compensates c u → Move shape s (grown s c room)
  adds_rolled_end : (e : Record) (room : ℕ → ℕ) → Arrives shape s e room → IsOfRunning shape s.log e → IsEnd e → e.outcome ≡ ROLLED_BACK →
      to_undo e.transaction s.log ≡ [] → IsStored e.transaction s.log s.words → Move shape s (grown s e room)
  adds_checkpoint : (c : Record) (room : ℕ → ℕ) → Arrives shape s c room → IsCheckpoint c → AreSwept shape.policy s.log s.words → Move shape s (grown s c room)
  drops_records : (later : Log) (room : ℕ → ℕ) → IsClosing shape.policy s.log s.words later → ((p : ℕ) → s.room p ≤ room p) →
      Move shape s (record { log = later; words = s.words; room = room })
  drops_deletions : (later : Log) (room : ℕ → ℕ) → IsSublog (IsDeferred s.log) later s.log → ((p : ℕ) → s.room p ≤ room p) →
      Move shape s (record { log = later; words = s.words; room = room })

-- Each move keeps a sound state sound, with its standing values.
abbrev pub MovesKeep : Type 0
MovesKeep = (shape : Shape) (s x : State) → IsSoundState shape s → Move shape s x → IsSoundState shape x × KeepsStanding shape.policy s x

-- ---- the end of a commit

-- t deletes the block of a, and t changes a
abbrev pub IsDeletionBy : ℕ → ℕ → Record → Type 0
IsDeletionBy t a r = IsDeletion r × (r.word ≡ a) × (r.transaction ≡ t)

abbrev pub IsChangeBy : ℕ → ℕ → Record → Type 0
IsChangeBy t a r = IsChange r × (r.word ≡ a) × (r.transaction ≡ t)

-- e ends a commit. Under force each word that its transaction changed and doesn't delete has the last NEW.
pub record MayCommit (shape : Shape) (s : State) (e : Record) (room : ℕ → ℕ) : Type 0 where
  pub arrives : Arrives shape s e room
  pub of : IsOfRunning shape s.log e
  pub end : IsEnd e
  pub outcome : e.outcome ≡ COMMITTED
  pub forced : shape.policy ≢ 2 → (a : ℕ) (r : Record) → HasNo (IsDeletionBy e.transaction a) s.log → IsLatest (IsChangeBy e.transaction a) s.log r → s.words a ≡ r.after

-- With a commit's end a deleted block's owner stands at 0, a changed word at the last NEW, and each other word as before.
pub record StandsCommitted (policy : ℕ) (s : State) (t : ℕ) (x : State) : Type 0 where
  pub deleted : (a : ℕ) → Has (IsDeletionBy t a) s.log → Stands policy x.log x.words a 0
  pub changed : (a : ℕ) (r : Record) → HasNo (IsDeletionBy t a) s.log → IsLatest (IsChangeBy t a) s.log r → Stands policy x.log x.words a r.after
  pub others : (a v : ℕ) → HasNo (IsDeletionBy t a) s.log → HasNo (IsChangeBy t a) s.log → Stands policy s.log s.words a v → Stands policy x.log x.words a v

-- The end of a commit keeps a sound state sound, with the transaction's words standing as it wrote them.
abbrev pub CommitsKeep : Type 0
CommitsKeep = (shape : Shape) (s : State) (e : Record) (room : ℕ → ℕ) → IsSoundState shape s → MayCommit shape s e room →
    IsSoundState shape (grown s e room) × StandsCommitted shape.policy s e.transaction (grown s e room)
