-- What each step of the keeper keeps of its ledger.
use Rattle.std.specs.Prelude.{◌≡◌, ◌≢◌, ℕ, ◌+◌, ◌<◌, if◌then◌else◌, List, []}
use Rattle.persist_model.specs.declared.event.Event.{Event}
use Rattle.persist_model.specs.Region.{Words, Region}
use Rattle.persist_model.specs.Records.{Record, IsAmong}
use Rattle.persist_model.specs.Shape.{Shape}
use Rattle.persist_model.specs.State.{State}
use Rattle.bucket_log.specs.declared.append.Place.{Place}
use Rattle.log_keeper.specs.Parts.{LogPart, rests, appends, closes, takes_back, drops, IsListedGate}
use Rattle.log_keeper.specs.Ledger.{Stage, Drawn, Stored, Settled, Noted, AreNewestFirst}
use Rattle.log_keeper.specs.Making.{is_over, made_part}
use Rattle.log_keeper.specs.Keeper.{begun_in, appending}
use Rattle.log_keeper.specs.Logged.{Keeping, plan_in, IsLoggedAt}

-- The records are newest first, and their numbers are below the next one.
pub record IsOrdered (k : Keeping) (next : ℕ) : Type 0 where
  pub newest_first : AreNewestFirst k.ledger
  pub below : (x : Noted) → IsAmong k.ledger x → x.entry.lsn < next

-- r is noted, at this stage
abbrev pub IsNotedAt : List Noted → Record → Stage → Type 0
IsNotedAt ledger r stage = (x : Noted) × IsAmong ledger x × (x.entry ≡ r) × (x.stage ≡ stage)

-- the stage of an append's record behind n events of the plan: all but the last fence come before the gate is stored
abbrev pub stage_behind : List Event → ℕ → Stage
stage_behind plan n = if is_over plan (n + 1) then Stored else Drawn

-- The record of each append under way is noted, at the stage that it has come to, and has a number of its own. All other records are settled.
pub record FitsRuns (shape : Shape) (k : Keeping) : Type 0 where
  pub noted : (p : ℕ) (place : Place) (r : Record) → p < shape.partitions → (k.runs p).part ≡ appends place r →
      IsNotedAt k.ledger r (stage_behind (plan_in shape k p) (k.runs p).made)
  pub apart : (p q : ℕ) (place there : Place) (r x : Record) → p < shape.partitions → q < shape.partitions → q ≢ p →
      (k.runs p).part ≡ appends place r → (k.runs q).part ≡ appends there x → x.lsn ≢ r.lsn
  pub others : (x : Noted) → IsAmong k.ledger x → x.stage ≢ Settled → (p : ℕ) × (p < shape.partitions) × (place : Place) × ((k.runs p).part ≡ appends place x.entry)

-- no unsettled record has one of these gates
abbrev pub SparesGates : List ℕ → List ℕ → List ℕ → List Noted → Type 0
SparesGates gates ends checkpoints ledger = (x : Noted) → IsAmong ledger x → x.stage ≢ Settled → IsListedGate gates ends checkpoints x.entry.at → ⊥

-- so it is of the gates that a part closes
abbrev pub Spares : LogPart → List Noted → Type 0
Spares rests ledger = Unit {0}
Spares (appends place r) ledger = Unit {0}
Spares (closes gates ends checkpoints) ledger = SparesGates gates ends checkpoints ledger
Spares (takes_back gates) ledger = SparesGates gates [] [] ledger
Spares (drops r) ledger = Unit {0}

-- the part adds no record
abbrev pub IsNoAppend : LogPart → Type 0
IsNoAppend part = (place : Place) (r : Record) → part ≢ appends place r

-- ---- the laws

pub record OrdersKeep : Type 0 where
  pub appends : (p next : ℕ) (place : Place) (r : Record) (k : Keeping) → r.lsn ≡ next → IsOrdered k next → IsOrdered (appending p place r k) (next + 1)
  pub made : (shape : Shape) (p next : ℕ) (k : Keeping) → IsOrdered k next → IsOrdered (made_part shape p k) next
  pub stays : (next : ℕ) (k x : Keeping) → x.ledger ≡ k.ledger → IsOrdered k next → IsOrdered x next

pub record RunsKeep : Type 0 where
  pub appends : (shape : Shape) (p next : ℕ) (place : Place) (r : Record) (k : Keeping) → p < shape.partitions → (k.runs p).part ≡ rests → r.lsn ≡ next →
      IsOrdered k next → FitsRuns shape k → FitsRuns shape (appending p place r k)
  pub begins : (shape : Shape) (p : ℕ) (part : LogPart) (k : Keeping) → p < shape.partitions → (k.runs p).part ≡ rests → IsNoAppend part →
      FitsRuns shape k → FitsRuns shape (begun_in p part k.ledger k)
  pub made : (shape : Shape) (p : ℕ) (k : Keeping) → p < shape.partitions → AreNewestFirst k.ledger → Spares (k.runs p).part k.ledger →
      FitsRuns shape k → FitsRuns shape (made_part shape p k)
  pub stays : (shape : Shape) (k x : Keeping) → x.ledger ≡ k.ledger → x.runs ≡ k.runs → FitsRuns shape k → FitsRuns shape x

-- The gates of a part are of its own partition, and other records under way are in others.
abbrev pub PartsSpare : Type 0
PartsSpare = (shape : Shape) (base : Words) (s : State) (chains : ℕ → List ℕ) (k : Keeping) (region : Region) (p : ℕ) → p < shape.partitions →
    FitsRuns shape k → IsLoggedAt shape base s chains k region → Spares (k.runs p).part k.ledger
