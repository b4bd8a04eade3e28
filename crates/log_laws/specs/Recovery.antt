-- The steps of recovery on what an image is to it.
use Rattle.std.specs.Prelude.{◌≡◌, ◌≢◌, ◌⊎◌, ℕ, ◌+◌, ◌<◌, ◌≤◌, [], ◌∷◌}
use Rattle.persist_model.specs.Region.{Words}
use Rattle.persist_model.specs.Kinds.{ROLLED_BACK}
use Rattle.persist_model.specs.Records.{Record, Log, IsAmong, Has, HasNo, IsOf, IsUpdate, IsCompensation, IsRollback, IsEnd, IsCheckpoint, IsLoser}
use Rattle.persist_model.specs.Standing.{IsToUndo, IsToDelete, IsToRedo, IsEarliest, Stands}
use Rattle.persist_model.specs.Order.{Compensates}
use Rattle.persist_model.specs.Shape.{Shape, part_of}
use Rattle.persist_model.specs.ImageRecords.{IsWellFormed}
use Rattle.persist_model.specs.Need.{to_undo}
use Rattle.persist_model.specs.State.{State, HasOpen, IsSoundState}
use Rattle.log_laws.specs.Closing.{IsApplied, IsClosing}

-- each word has its standing value, or is to be undone
abbrev pub AreApplied : ℕ → Log → Words → Type 0
AreApplied policy log w = (a : ℕ) → Has (IsToUndo log a) log ⊎ IsApplied policy log w a

-- some record decides the standing value of a
abbrev pub HasDecidingRecord : ℕ → Log → ℕ → Type 0
HasDecidingRecord policy log a = Has (IsToUndo log a) log ⊎ Has (IsToDelete log a) log ⊎ Has (IsToRedo policy log a) log

-- r takes the next number and a cell of its part
pub record Appends (shape : Shape) (s : State) (r : Record) (room : ℕ → ℕ) : Type 0 where
  pub formed : IsWellFormed shape r
  pub above : (x : Record) → IsAmong s.log x → x.lsn < r.lsn
  pub next : (x : Record) × IsAmong s.log x × (r.lsn ≡ x.lsn + 1)
  pub inside : part_of shape r.at < shape.partitions
  pub here : room (part_of shape r.at) + 1 ≡ s.room (part_of shape r.at)
  pub elsewhere : (p : ℕ) → p ≢ part_of shape r.at → room p ≡ s.room p

-- r is of a running transaction, whose records stand in r's part
pub record IsOfLoser (shape : Shape) (log : Log) (r : Record) : Type 0 where
  pub running : IsLoser log r.transaction
  pub one_part : (x : Record) → IsAmong log x → IsOf r.transaction x → part_of shape x.at ≡ part_of shape r.at

abbrev pub grown : State → Record → (ℕ → ℕ) → State
grown s r room = record { log = r ∷ s.log; words = s.words; room = room }

-- each word that t updated has the OLD of its earliest update
abbrev pub IsStored : ℕ → Log → Words → Type 0
IsStored t log w = (a : ℕ) (u : Record) → IsEarliest (λ r. IsUpdate r × (r.word ≡ a) × (r.transaction ≡ t)) log u → w a ≡ u.before

pub data Step (shape : Shape) (s : State) : State → Type 0 where
  stores : (w : Words) → ((a : ℕ) → (w a ≡ s.words a) ⊎ HasDecidingRecord shape.policy s.log a) →
      Step shape s (record { log = s.log; words = w; room = s.room })
  rolls_back : (r : Record) (room : ℕ → ℕ) → Appends shape s r room → IsOfLoser shape s.log r → IsRollback r →
      HasNo (λ x. IsOf r.transaction x × IsRollback x) s.log → Step shape s (grown s r room)
  compensates : (c u : Record) (stack : Log) (room : ℕ → ℕ) → Appends shape s c room → IsOfLoser shape s.log c → IsCompensation c →
      to_undo c.transaction s.log ≡ u ∷ stack → Compensates c u → Step shape s (grown s c room)
  ends : (e : Record) (room : ℕ → ℕ) → Appends shape s e room → IsOfLoser shape s.log e → IsEnd e → e.outcome ≡ ROLLED_BACK →
      Has (λ x. IsOf e.transaction x × IsRollback x) s.log → to_undo e.transaction s.log ≡ [] → IsStored e.transaction s.log s.words →
      Step shape s (grown s e room)
  checkpoints : (c : Record) (room : ℕ → ℕ) → Appends shape s c room → IsCheckpoint c → part_of shape c.at ≡ 0 → shape.policy ≡ 2 → HasOpen s.log →
      ((t : ℕ) → IsLoser s.log t → ⊥) → AreApplied shape.policy s.log s.words → Step shape s (grown s c room)
  closes : (later : Log) (room : ℕ → ℕ) → IsClosing shape.policy s.log s.words later → ((p : ℕ) → s.room p ≤ room p) →
      Step shape s (record { log = later; words = s.words; room = room })

-- the later state has the standing values of the first
abbrev pub KeepsStanding : ℕ → State → State → Type 0
KeepsStanding policy s x = (a v : ℕ) → Stands policy s.log s.words a v → Stands policy x.log x.words a v

-- Each step of recovery keeps a state sound, with its standing values.
abbrev pub RecoveryKeeps : Type 0
RecoveryKeeps = (shape : Shape) (s x : State) → IsSoundState shape s → Step shape s x → IsSoundState shape x × KeepsStanding shape.policy s x

-- one step after another
pub data Steps (shape : Shape) (s : State) : State → Type 0 where
  start : Steps shape s s
  makes : {x y : State} → Steps shape s x → Step shape x y → Steps shape s y

-- So do all of them, one after another, however far they came.
abbrev pub RunsKeep : Type 0
RunsKeep = (shape : Shape) (s x : State) → IsSoundState shape s → Steps shape s x → IsSoundState shape x × KeepsStanding shape.policy s x

-- And from any sound state they lead to one without records, in which each word has its standing value; at is some address of the first partition.
abbrev pub RecoveryEnds : Type 0
RecoveryEnds = (shape : Shape) (s : State) (at : ℕ) → 1 ≤ shape.partitions → part_of shape at ≡ 0 → IsSoundState shape s →
    (x : State) × Steps shape s x × (x.log ≡ []) × ((a v : ℕ) → Stands shape.policy s.log s.words a v → v ≡ x.words a)
