-- What a record makes of the need of its partition as it comes into the log at the place of its number, and that of others stays; and what a closing does.
use Rattle.std.specs.Prelude.{◌≡◌, ◌≢◌, ℕ, ◌+◌, ◌<◌, true, false, if◌then◌else◌, List, [], ◌∷◌}
use Rattle.persist_model.specs.Kinds.{CHECKPOINT}
use Rattle.persist_model.specs.Records.{Record, Log, IsAmong, Has, HasNo, IsOf, IsUpdate, IsCompensation, IsRollback, IsEnd, IsCheckpoint, IsDeletion}
use Rattle.persist_model.specs.Need.{to_undo, need_of, has_of, need_in}
use Rattle.persist_model.specs.Shape.{Shape, part_of}
use Rattle.log_laws.specs.Moves.{IsOfRunning}
use Rattle.log_clearing.specs.Closed.{IsListed}
use Rattle.plan_records.specs.Passing.{inserted, Passes}
use Rattle.log_keeper.specs.Ledger.{left_open}
use Rattle.log_keeper.specs.Newest.{AreOver}

-- the cells that recovery needs in a partition
abbrev pub need_at : Shape → ℕ → Log → ℕ
need_at shape p log = need_in (part_of shape) p log

-- in r's own
abbrev pub need_here : Shape → Record → Log → ℕ
need_here shape r log = need_in (part_of shape) (part_of shape r.at) log

-- r's transaction runs, all its records stand in r's part, and newer records are of others.
pub record IsComing (shape : Shape) (log : Log) (r : Record) : Type 0 where
  pub running : IsOfRunning shape log r
  pub newer : (x : Record) → IsAmong log x → r.lsn < x.lsn → x.transaction ≢ r.transaction

-- So it is of a record that may come before newer ones.
abbrev pub PassingsCome : Type 0
PassingsCome = (shape : Shape) (log : Log) (r : Record) → Passes log r → IsOfRunning shape log r → IsComing shape log r

-- An update adds its compensation, and the first record of a transaction the rollback record and the end too.
abbrev pub UpdatesNeed : Type 0
UpdatesNeed = (shape : Shape) (log : Log) (u : Record) → IsComing shape log u → IsUpdate u →
    need_here shape u log + (if has_of u.transaction log then 1 else 3) ≡ need_here shape u (inserted u log)

-- A deferred deletion adds nothing, but for the rollback record and the end where it comes first.
abbrev pub DeletionsNeed : Type 0
DeletionsNeed = (shape : Shape) (log : Log) (d : Record) → IsComing shape log d → IsDeletion d →
    need_here shape d log + (if has_of d.transaction log then 0 else 2) ≡ need_here shape d (inserted d log)

-- The first rollback record takes its cell away; where it comes alone, it adds the end's.
pub record RollbacksNeed : Type 0 where
  pub later : (shape : Shape) (log : Log) (r : Record) → IsComing shape log r → IsRollback r → HasNo (λ x. IsOf r.transaction x × IsRollback x) log →
      has_of r.transaction log ≡ true → need_here shape r (inserted r log) + 1 ≡ need_here shape r log
  pub alone : (shape : Shape) (log : Log) (r : Record) → IsComing shape log r → IsRollback r → has_of r.transaction log ≡ false →
      need_here shape r log + 1 ≡ need_here shape r (inserted r log)

-- A compensation takes its update's away,
abbrev pub CompensationsNeed : Type 0
CompensationsNeed = (shape : Shape) (log stack : Log) (c u : Record) → IsComing shape log c → IsCompensation c → Has (IsOf c.transaction) log →
    to_undo c.transaction log ≡ u ∷ stack → need_here shape c (inserted c log) + 1 ≡ need_here shape c log

-- and an end all that its transaction needs.
abbrev pub EndsNeed : Type 0
EndsNeed = (shape : Shape) (log : Log) (e : Record) → IsComing shape log e → IsEnd e →
    need_here shape e (inserted e log) + (if has_of e.transaction log then need_of log e.transaction else 0) ≡ need_here shape e log

-- The need of other partitions stays,
abbrev pub OthersNeed : Type 0
OthersNeed = (shape : Shape) (p : ℕ) (log : Log) (r : Record) → IsComing shape log r → r.kind ≢ CHECKPOINT → p ≢ part_of shape r.at →
    need_at shape p (inserted r log) ≡ need_at shape p log

-- and a checkpoint record, which comes last, changes none.
abbrev pub CheckpointsNeed : Type 0
CheckpointsNeed = (shape : Shape) (p : ℕ) (log : Log) (c : Record) → IsCheckpoint c → ((x : Record) → IsAmong log x → x.lsn < c.lsn) →
    need_at shape p (inserted c log) ≡ need_at shape p log

-- ---- closings

-- The records of ended transactions need nothing.
abbrev pub ClosingsNeed : Type 0
ClosingsNeed = (shape : Shape) (p : ℕ) (log : Log) (gates ends checkpoints : List ℕ) → AreOver log (IsListed gates ends checkpoints) →
    need_at shape p (left_open gates ends checkpoints log) ≡ need_at shape p log

-- These gates are of deletions of t, which has a record, and all of whose records stand in q.
pub record AreTakenBack (shape : Shape) (log : Log) (t q : ℕ) (gates : List ℕ) : Type 0 where
  pub some : has_of t log ≡ true
  pub here : (x : Record) → IsAmong log x → IsOf t x → part_of shape x.at ≡ q
  pub deletions : (d : Record) → IsAmong log d → IsAmong gates d.at → IsDeletion d × (d.transaction ≡ t)

-- Where deletions are taken back the need stays while their transaction has another record, and else what it needs goes with the last of them.
pub record TakingsBackNeed : Type 0 where
  pub some_left : (shape : Shape) (p t q : ℕ) (log : Log) (gates : List ℕ) → AreTakenBack shape log t q gates → has_of t (left_open gates [] [] log) ≡ true →
      need_at shape p (left_open gates [] [] log) ≡ need_at shape p log
  pub none_left : (shape : Shape) (t q : ℕ) (log : Log) (gates : List ℕ) → AreTakenBack shape log t q gates → has_of t (left_open gates [] [] log) ≡ false →
      need_at shape q (left_open gates [] [] log) + need_of log t ≡ need_at shape q log
  pub elsewhere : (shape : Shape) (p t q : ℕ) (log : Log) (gates : List ℕ) → AreTakenBack shape log t q gates → p ≢ q →
      need_at shape p (left_open gates [] [] log) ≡ need_at shape p log
