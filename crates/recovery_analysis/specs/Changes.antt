-- The stores that bring the heap to what the ended transactions left.
use Rattle.std.specs.Prelude.{ℕ, Bool, ◌==◌, ◌&&◌, ◌||◌, List, [], ◌∷◌}
use Rattle.std.specs.List.{list_any}
use Rattle.persist_model.specs.Region.{Words}
use Rattle.persist_model.specs.Kinds.{COMPENSATION, DELETION, UPDATE}
use Rattle.persist_model.specs.Records.{Log, IsAmong}
use Rattle.log_laws.specs.Recovery.{AreApplied, HasDecidingRecord}
use Rattle.bucket_log.specs.declared.scanning.Placed.{Placed}
use Rattle.recovery_run.specs.Reached.{with_value}
use Rattle.recovery_analysis.specs.declared.changing.Change.{Change}

-- the words after these values were stored, in order
abbrev pub stored : List Change → Words → Words
stored [] w = w
stored (c ∷ changes) w = stored changes (with_value w c.word c.value)

-- Stored in order they leave each word at its standing value, or to be undone; and some record decides the standing value of
-- each word that they name.
pub record AreRedone (policy : ℕ) (log : Log) (changes : List Change) : Type 0 where
  pub applied : (w : Words) → AreApplied policy log (stored changes w)
  pub covered : (c : Change) → IsAmong changes c → HasDecidingRecord policy log c.word

-- ---- one record

abbrev pub has_number : List ℕ → ℕ → Bool
has_number numbers n = list_any (λ m. m == n) numbers

-- under no-force an update or compensation of one of these transactions
abbrev pub is_redone : ℕ → List ℕ → Placed → Bool
is_redone policy unskipped x = (policy == 2) && (((x.cell.kind == UPDATE) || (x.cell.kind == COMPENSATION)) && has_number unskipped x.cell.transaction)

-- a deferred deletion of one of these transactions
abbrev pub is_deleted : List ℕ → Placed → Bool
is_deleted winners x = (x.cell.kind == DELETION) && has_number winners x.cell.transaction

abbrev pub new_value : Placed → Change
new_value x = record { word = x.cell.word; value = x.cell.after }

abbrev pub given_back : Placed → Change
given_back x = record { word = x.cell.word; value = 0 }
