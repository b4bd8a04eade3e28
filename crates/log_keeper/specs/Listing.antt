-- The gates of one transaction's records, in the order of their numbers.
use Rattle.std.specs.Prelude.{◌≡◌, ℕ, Bool, true, not, ◌&&◌, ◌==◌, if◌then◌else◌, List, [], ◌∷◌, ◌++◌}
use Rattle.persist_model.specs.Kinds.{END}
use Rattle.persist_model.specs.Records.{Record, IsAmong}
use Rattle.log_keeper.specs.Ledger.{Noted}

-- r is the transaction's: its end, or any other record
abbrev pub is_chosen : ℕ → Bool → Record → Bool
is_chosen t ends r = (r.transaction == t) && (if ends then r.kind == END else not (r.kind == END))

abbrev pub gate_if : ℕ → Bool → Noted → List ℕ
gate_if t ends x = if is_chosen t ends x.entry then x.entry.at ∷ [] else []

-- the ledger is newest first
abbrev pub gates_in : ℕ → Bool → List Noted → List ℕ
gates_in t ends [] = []
gates_in t ends (x ∷ ledger) = gates_in t ends ledger ++ gate_if t ends x

-- ---- the laws

-- The gates are those of the transaction's records.
pub record GatesAreListed : Type 0 where
  pub own : (t : ℕ) (ends : Bool) (ledger : List Noted) (a : ℕ) → IsAmong (gates_in t ends ledger) a →
      (x : Noted) × IsAmong ledger x × (is_chosen t ends x.entry ≡ true) × (x.entry.at ≡ a)
  pub all : (t : ℕ) (ends : Bool) (ledger : List Noted) (x : Noted) → IsAmong ledger x → is_chosen t ends x.entry ≡ true → IsAmong (gates_in t ends ledger) x.entry.at
