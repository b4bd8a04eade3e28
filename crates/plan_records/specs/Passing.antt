-- A record that comes into the middle of the log: newer records of other partitions drew their numbers later, and were there before it.
use Rattle.std.specs.Prelude.{◌≢◌, ◌↔◌, ℕ, ◌<◌, ◌≤◌, nat_lt, if◌then◌else◌, [], ◌∷◌}
use Rattle.persist_model.specs.Records.{Record, Log, IsAmong, IsOf, IsCheckpoint, NamesWord}
use Rattle.persist_model.specs.Kinds.{CHECKPOINT}
use Rattle.persist_model.specs.Shape.{Shape}
use Rattle.persist_model.specs.Standing.{Stands}
use Rattle.persist_model.specs.State.{State, IsSoundState}
use Rattle.log_laws.specs.Recovery.{grown}

-- the log with r at the place of its number
abbrev pub inserted : Record → Log → Log
inserted r [] = r ∷ []
inserted r (x ∷ log) = if nat_lt r.lsn x.lsn then x ∷ inserted r log else r ∷ x ∷ log

-- The newer record x may be there before r: it is another transaction's, is no checkpoint record, and names another word.
pub record MayPass (r x : Record) : Type 0 where
  pub other : IsOf r.transaction x → ⊥
  pub no_checkpoint : x.kind ≢ CHECKPOINT
  pub word : NamesWord r → NamesWord x → x.word ≢ r.word

-- r's number isn't in the log, each newer record may be there before r, and none is newer than a checkpoint record.
pub record Passes (log : Log) (r : Record) : Type 0 where
  pub fresh : (x : Record) → IsAmong log x → x.lsn ≢ r.lsn
  pub newer : (x : Record) → IsAmong log x → r.lsn < x.lsn → MayPass r x
  pub checkpoint : IsCheckpoint r → (x : Record) → IsAmong log x → x.lsn < r.lsn

-- r with another number
abbrev pub renumbered : ℕ → Record → Record
renumbered lsn r = record r { lsn = lsn }

-- the same standing values
abbrev pub StandAlike : ℕ → State → State → Type 0
StandAlike policy s x = (a v : ℕ) → Stands policy s.log s.words a v ↔ Stands policy x.log x.words a v

-- Where a state would be sound if r had come last, with a number above all, it is sound with r at the place of its own number, and each word stands alike.
abbrev pub PassingsKeep : Type 0
PassingsKeep = (shape : Shape) (s : State) (r : Record) (room : ℕ → ℕ) (top : ℕ) → r.lsn ≢ 0 → r.lsn ≤ top → ((x : Record) → IsAmong s.log x → x.lsn < top) →
    Passes s.log r → IsSoundState shape (grown s (renumbered top r) room) →
    IsSoundState shape (record { log = inserted r s.log; words = s.words; room = room }) ×
    StandAlike shape.policy (grown s (renumbered top r) room) (record { log = inserted r s.log; words = s.words; room = room })
