-- What a transaction's newest change of a word left, by all records of the ledger, settled or not.
use Rattle.std.specs.Prelude.{◌≡◌, ℕ, Bool, ◌==◌, ◌&&◌, ◌||◌, if◌then◌else◌, Option, Some, None, List, [], ◌∷◌, map}
use Rattle.persist_model.specs.Kinds.{UPDATE, COMPENSATION}
use Rattle.persist_model.specs.Records.{Record, Log, IsAmong, HasNo, IsOf}
use Rattle.persist_model.specs.Standing.{IsLatest}
use Rattle.log_laws.specs.Moves.{IsChangeBy}
use Rattle.log_keeper.specs.Ledger.{Settled, Noted, settled_log}

abbrev pub record_noted : Noted → Record
record_noted x = x.entry

-- newest first
abbrev pub all_records : List Noted → Log
all_records ledger = map record_noted ledger

-- whether r is an update or a compensation of the word by the transaction
abbrev pub is_change : ℕ → ℕ → Record → Bool
is_change t a r = (r.transaction == t) && ((r.word == a) && ((r.kind == UPDATE) || (r.kind == COMPENSATION)))

-- what was left before r, and behind it
abbrev pub left_by : ℕ → ℕ → Record → Option ℕ → Option ℕ
left_by t a r before = if is_change t a r then Some r.after else before

-- what was left before these records, and behind them
abbrev pub left_behind : ℕ → ℕ → Log → Option ℕ → Option ℕ
left_behind t a [] before = before
left_behind t a (r ∷ log) before = left_by t a r (left_behind t a log before)

-- It is the NEW of the latest change, none where no record is one.
abbrev pub IsLastChange : ℕ → ℕ → Log → Option ℕ → Type 0
IsLastChange t a log None = HasNo (IsChangeBy t a) log
IsLastChange t a log (Some v) = (r : Record) × IsLatest (IsChangeBy t a) log r × (v ≡ r.after)

-- all records of the transaction are settled
abbrev pub AreSettledOf : ℕ → List Noted → Type 0
AreSettledOf t ledger = (x : Noted) → IsAmong ledger x → IsOf t x.entry → x.stage ≡ Settled

-- ---- the law

-- Then it is that of the settled log.
abbrev pub ChangesAreSettled : Type 0
ChangesAreSettled = (t a : ℕ) (ledger : List Noted) (v : Option ℕ) → AreSettledOf t ledger → IsLastChange t a (all_records ledger) v → IsLastChange t a (settled_log ledger) v
