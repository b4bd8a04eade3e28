-- The ledger of the records that lanes have drawn numbers for and that aren't closed, and what it says of the log.
use Rattle.std.specs.Prelude.{◌≡◌, ◌≢◌, ℕ, ◌<◌, Bool, false, ◌==◌, ◌||◌, if◌then◌else◌, List, [], ◌∷◌}
use Rattle.persist_model.specs.Records.{Record, Log, IsAmong}

-- The number is drawn; the gate is stored; and it is fenced.
pub data Stage : Type 0 where
  Drawn : Stage
  Stored : Stage
  Settled : Stage

-- a record of a lane
pub record Noted : Type 0 where
  pub lane : ℕ
  pub entry : Record
  pub stage : Stage

-- newest first, as records are noted when their numbers are drawn
abbrev pub AreNewestFirst : List Noted → Type 0
AreNewestFirst [] = Unit {0}
AreNewestFirst (x ∷ ledger) = ((y : Noted) → IsAmong ledger y → y.entry.lsn < x.entry.lsn) × AreNewestFirst ledger

abbrev pub if_settled : Stage → Record → Log → Log
if_settled Drawn r log = log
if_settled Stored r log = log
if_settled Settled r log = r ∷ log

abbrev pub if_stored : Stage → Record → Log → Log
if_stored Drawn r log = log
if_stored Stored r log = r ∷ log
if_stored Settled r log = r ∷ log

-- the records whose gates are fenced, and those whose gates are stored
abbrev pub settled_log : List Noted → Log
settled_log [] = []
settled_log (x ∷ ledger) = if_settled x.stage x.entry (settled_log ledger)

abbrev pub newest_log : List Noted → Log
newest_log [] = []
newest_log (x ∷ ledger) = if_stored x.stage x.entry (newest_log ledger)

-- r is noted, and its gate isn't fenced yet
abbrev pub IsUnsettled : List Noted → Record → Type 0
IsUnsettled ledger r = (x : Noted) × IsAmong ledger x × (x.entry ≡ r) × (x.stage ≢ Settled)

abbrev pub staged : Noted → Stage → Noted
staged x stage = record { lane = x.lane; entry = x.entry; stage = stage }

-- the record of this number comes to a stage
abbrev pub with_stage : ℕ → Stage → List Noted → List Noted
with_stage n stage [] = []
with_stage n stage (x ∷ ledger) = (if x.entry.lsn == n then staged x stage else x) ∷ with_stage n stage ledger

-- whether a is in the list
abbrev pub is_in : List ℕ → ℕ → Bool
is_in [] a = false
is_in (b ∷ gates) a = (b == a) || is_in gates a

abbrev pub is_listed : List ℕ → List ℕ → List ℕ → ℕ → Bool
is_listed gates ends checkpoints a = is_in gates a || (is_in ends a || is_in checkpoints a)

-- the records that a closing leaves, in a log and in the ledger
abbrev pub left_open : List ℕ → List ℕ → List ℕ → Log → Log
left_open gates ends checkpoints [] = []
left_open gates ends checkpoints (r ∷ log) =
    if is_listed gates ends checkpoints r.at then left_open gates ends checkpoints log else r ∷ left_open gates ends checkpoints log

abbrev pub without : List ℕ → List ℕ → List ℕ → List Noted → List Noted
without gates ends checkpoints [] = []
without gates ends checkpoints (x ∷ ledger) =
    if is_listed gates ends checkpoints x.entry.at then without gates ends checkpoints ledger else x ∷ without gates ends checkpoints ledger
