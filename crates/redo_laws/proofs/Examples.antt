-- The definitions on literals: the words 170 and 190 are dirty, a group has the gates 40 and 56 in the first partition and 88 in the second, and a
-- transaction has given the blocks at 176 and 192, whose deletions stand at 56 and 64.
use Rattle.std.proofs.Common.{◌≡◌, inl, ℕ, true, false, ◌==◌, ◌||◌, if◌then◌else◌, Bool, List, [], ◌∷◌, refl, sym, subst}
use Rattle.persist_model.specs.Region.{Words}
use Rattle.persist_model.specs.Records.{Log, IsAmong}
use Rattle.persist_model.specs.Shape.{Shape}
use Rattle.log_keeper.specs.Ledger.{left_open}
use Rattle.txn_laws.specs.Txns.{Gift, Txn, idle, txn_at}
use Rattle.txn_laws.proofs.LeftOpen.{not_listed}
use Rattle.redo_laws.specs.Checkpoints.{of_others, of_ends, other_gates, end_gates, Group, in_a_row}
use Rattle.redo_laws.specs.Stores.{dirty_with}
use Rattle.redo_laws.specs.Sweeps.{clean_at}
use Rattle.redo_laws.specs.Transactions.{AreRedoTransactions}
use Rattle.redo_laws.specs.Clears.{one_made, base_shut, shut_txn}

abbrev dirty : ℕ → Bool
dirty = λ a. (a == 170) || (a == 190)

-- a plain store makes its word dirty, and a write back makes it clean
stored_word : dirty_with 176 dirty 176 ≡ true
stored_word = refl

other_word : dirty_with 176 dirty 171 ≡ false
other_word = refl

written_word : clean_at 170 dirty 170 ≡ false
written_word = refl

left_word : clean_at 170 dirty 190 ≡ true
left_word = refl

-- ---- a group

abbrev group : Group
group = record { kind = of_others; gates = λ p. if p == 0 then 40 ∷ 56 ∷ [] else (if p == 1 then 88 ∷ [] else []); made = λ p. 0 }

all_gates : in_a_row group.gates 2 ≡ 40 ∷ 56 ∷ 88 ∷ []
all_gates = refl

no_ends : end_gates group.kind (group.gates 0) ≡ []
no_ends = refl

ends_alone : other_gates of_ends (group.gates 1) ≡ []
ends_alone = refl

-- one gate more is closed in the second partition
one_there : (one_made 1 group).made 1 ≡ 1
one_there = refl

none_elsewhere : (one_made 1 group).made 0 ≡ 0
none_elsewhere = refl

-- ---- behind its fence

abbrev two_parts : Shape
two_parts = record { policy = 2; cells = 1; buckets = 8; blocks = 4; structures = 1; format = 2; partitions = 2 }

shut_gate : base_shut two_parts group (λ a. a) 88 ≡ 0
shut_gate = refl

other_gate : base_shut two_parts group (λ a. a) 72 ≡ 72
other_gate = refl

abbrev first : Gift
first = record { word = 176; gate = 56 }

abbrev second : Gift
second = record { word = 192; gate = 64 }

abbrev giver : Txn
giver = record idle { number = 3; commits = true; gifts = first ∷ second ∷ []; fenced = true }

-- one that has ended keeps the gift whose deletion is left
ended_gifts : (shut_txn (40 ∷ 56 ∷ 88 ∷ []) (record giver { over = true })).gifts ≡ second ∷ []
ended_gifts = refl

-- and one that runs has all of its deletions left
running_gifts : (shut_txn (40 ∷ 56 ∷ 88 ∷ []) giver).gifts ≡ first ∷ second ∷ []
running_gifts = refl

-- It couldn't keep all: no lane has a gift whose deletion is closed.
no_closed_gift : (shape : Shape) (log : Log) (h : Words) (row : List ℕ) (lanes : List Txn) (l : ℕ) (g : Gift) → AreRedoTransactions shape (left_open row [] [] log) h lanes →
    IsAmong (txn_at lanes l).gifts g → IsAmong row g.gate → ⊥
no_closed_gift shape log h row lanes l g all m on = let d = (all.each l).given g m in not_listed row [] [] log d.0 d.1 (inl (subst (IsAmong row) (sym d.2.1) on))
