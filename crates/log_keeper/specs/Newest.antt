-- The newest log: the records whose gates are stored, fenced or not.
use Rattle.std.specs.Prelude.{◌≡◌, ◌≢◌, ◌⊎◌, ℕ, ◌+◌, ◌<◌, List, [], ◌∷◌, length}
use Rattle.persist_model.specs.Kinds.{CHECKPOINT}
use Rattle.persist_model.specs.Records.{Record, Log, IsAmong, IsNewestFirst, IsOf, IsEnd, IsCheckpoint, IsEnded}
use Rattle.persist_model.specs.Shape.{Shape}
use Rattle.atomic_list.specs.declared.plans.Remove.{Remove}
use Rattle.bucket_log.specs.declared.append.Place.{Place}
use Rattle.log_clearing.specs.Closed.{IsListed}
use Rattle.plan_records.specs.Passing.{inserted}
use Rattle.log_keeper.specs.Parts.{appends, closes, takes_back, drops, IsListedGate}
use Rattle.log_keeper.specs.Ledger.{Drawn, Stored, Settled, Noted, AreNewestFirst, settled_log, newest_log, with_stage, left_open, without}
use Rattle.log_keeper.specs.Making.{made_part}
use Rattle.log_keeper.specs.Logged.{Keeping, plan_in}
use Rattle.log_keeper.specs.Ordered.{IsNotedAt, FitsRuns, SparesGates, IsNoAppend}

-- What becomes of it as records are drawn, stored, settled and closed. The settled records are among its own; where no unsettled record has one of
-- the gates that are closed, those that it loses are settled ones.
pub record NewestLogsKeep : Type 0 where
  pub draws : (lane : ℕ) (r : Record) (ledger : List Noted) → newest_log (record { lane = lane; entry = r; stage = Drawn } ∷ ledger) ≡ newest_log ledger
  pub stores : (r : Record) (ledger : List Noted) → AreNewestFirst ledger → IsNotedAt ledger r Drawn →
      newest_log (with_stage r.lsn Stored ledger) ≡ inserted r (newest_log ledger)
  pub settles : (r : Record) (ledger : List Noted) → AreNewestFirst ledger → IsNotedAt ledger r Stored → newest_log (with_stage r.lsn Settled ledger) ≡ newest_log ledger
  pub closes : (gates ends checkpoints : List ℕ) (ledger : List Noted) →
      newest_log (without gates ends checkpoints ledger) ≡ left_open gates ends checkpoints (newest_log ledger)
  pub fresh : (r : Record) (ledger : List Noted) → AreNewestFirst ledger → IsNotedAt ledger r Drawn → (x : Record) → IsAmong (newest_log ledger) x → x.lsn ≢ r.lsn
  pub newest_first : (ledger : List Noted) → AreNewestFirst ledger → IsNewestFirst (newest_log ledger)
  pub settled : (ledger : List Noted) (r : Record) → IsAmong (settled_log ledger) r → IsAmong (newest_log ledger) r
  pub closed : (gates ends checkpoints : List ℕ) (ledger : List Noted) (r : Record) → SparesGates gates ends checkpoints ledger →
      IsAmong (newest_log ledger) r → IsListedGate gates ends checkpoints r.at → IsAmong (settled_log ledger) r

-- What each event of a part makes of it. An append adds its record with the store of its gate, which is the last event but one, and a closing takes
-- its records away with the last event of their group.
pub record NewestLogsMade : Type 0 where
  pub waits : (shape : Shape) (p : ℕ) (k : Keeping) → (k.runs p).made + 2 < length (plan_in shape k p) → newest_log (made_part shape p k).ledger ≡ newest_log k.ledger
  pub stores : (shape : Shape) (p : ℕ) (k : Keeping) (place : Place) (r : Record) → p < shape.partitions → AreNewestFirst k.ledger → FitsRuns shape k →
      (k.runs p).part ≡ appends place r → (k.runs p).made + 2 ≡ length (plan_in shape k p) → newest_log (made_part shape p k).ledger ≡ inserted r (newest_log k.ledger)
  pub settles : (shape : Shape) (p : ℕ) (k : Keeping) (place : Place) (r : Record) → p < shape.partitions → AreNewestFirst k.ledger → FitsRuns shape k →
      (k.runs p).part ≡ appends place r → (k.runs p).made + 1 ≡ length (plan_in shape k p) → newest_log (made_part shape p k).ledger ≡ newest_log k.ledger
  pub adds_none : (shape : Shape) (p : ℕ) (k : Keeping) → IsNoAppend (k.runs p).part → (k.runs p).made + 1 < length (plan_in shape k p) →
      newest_log (made_part shape p k).ledger ≡ newest_log k.ledger
  pub closes : (shape : Shape) (p : ℕ) (k : Keeping) (gates ends checkpoints : List ℕ) → (k.runs p).part ≡ closes gates ends checkpoints →
      (k.runs p).made + 1 ≡ length (plan_in shape k p) → newest_log (made_part shape p k).ledger ≡ left_open gates ends checkpoints (newest_log k.ledger)
  pub takes_back : (shape : Shape) (p : ℕ) (k : Keeping) (gates : List ℕ) → (k.runs p).part ≡ takes_back gates →
      (k.runs p).made + 1 ≡ length (plan_in shape k p) → newest_log (made_part shape p k).ledger ≡ left_open gates [] [] (newest_log k.ledger)
  pub drops : (shape : Shape) (p : ℕ) (k : Keeping) (r : Remove) → (k.runs p).part ≡ drops r →
      (k.runs p).made + 1 ≡ length (plan_in shape k p) → newest_log (made_part shape p k).ledger ≡ newest_log k.ledger

-- The records of S are of ended transactions, or checkpoint records, and with an end all of its transaction.
pub record AreOver (log : Log) (S : Record → Type 0) : Type 0 where
  pub ended : (r : Record) → IsAmong log r → S r → IsCheckpoint r ⊎ IsEnded log r.transaction
  pub whole : (e : Record) → IsAmong log e → S e → IsEnd e → (r : Record) → IsAmong log r → IsOf e.transaction r → S r

-- So it is in the newest log where it is so in the settled one, and no unsettled record has one of the gates, or is of a transaction with a settled end.
abbrev pub NewestAreOver : Type 0
NewestAreOver = (ledger : List Noted) (gates ends checkpoints : List ℕ) → SparesGates gates ends checkpoints ledger →
    ((x : Noted) → IsAmong ledger x → x.stage ≢ Settled → x.entry.kind ≢ CHECKPOINT → IsEnded (settled_log ledger) x.entry.transaction → ⊥) →
    AreOver (settled_log ledger) (IsListed gates ends checkpoints) → AreOver (newest_log ledger) (IsListed gates ends checkpoints)
