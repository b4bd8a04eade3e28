-- How many cells a record of a running transaction wants, so that the rule of room holds with it.
use Rattle.std.specs.Prelude.{◌≡◌, ◌≢◌, ◌⊎◌, ℕ, ◌+◌, ◌<◌, ◌≤◌, if◌then◌else◌, ◌∷◌}
use Rattle.persist_model.specs.Records.{Record, Log, Has, HasNo, IsOf, IsUpdate, IsCompensation, IsRollback, IsEnd, IsCheckpoint, IsDeletion}
use Rattle.persist_model.specs.Shape.{Shape, part_of}
use Rattle.persist_model.specs.Need.{to_undo, has_of, need_in}
use Rattle.persist_model.specs.State.{State, HasRoom, IsSoundState}
use Rattle.log_laws.specs.Moves.{IsOfRunning}

-- r takes one cell of its part
pub record TakesCell (shape : Shape) (s : State) (r : Record) (room : ℕ → ℕ) : Type 0 where
  pub inside : part_of shape r.at < shape.partitions
  pub here : room (part_of shape r.at) + 1 ≡ s.room (part_of shape r.at)
  pub elsewhere : (p : ℕ) → p ≢ part_of shape r.at → room p ≡ s.room p

-- In r's part there are this many cells more than recovery needs; under no-force the first part has one more for a checkpoint record.
pub record HasCells (shape : Shape) (s : State) (r : Record) (cells : ℕ) : Type 0 where
  pub here : need_in (part_of shape) (part_of shape r.at) s.log + cells ≤ s.room (part_of shape r.at)
  pub checkpoint_here : shape.policy ≡ 2 → part_of shape r.at ≡ 0 → need_in (part_of shape) (part_of shape r.at) s.log + cells + 1 ≤ s.room (part_of shape r.at)
  pub checkpoint_elsewhere : shape.policy ≡ 2 → part_of shape r.at ≢ 0 → need_in (part_of shape) 0 s.log + 1 ≤ s.room 0

-- The cells for r and what follows it are kept, since its transaction has a record, or there are so many more than recovery needs: a
-- transaction whose records are all closed needs none.
abbrev pub HasItsCells : Shape → State → Record → ℕ → Type 0
HasItsCells shape s r cells = Has (IsOf r.transaction) s.log ⊎ HasCells shape s r cells

-- the rule of room holds with r
abbrev pub FitsWith : Shape → State → Record → (ℕ → ℕ) → Type 0
FitsWith shape s r room = (p : ℕ) → p < shape.partitions → HasRoom shape (r ∷ s.log) p (room p)

-- An update wants 2 cells: its own and its compensation's; the first record of a transaction 2 more, for the rollback record and the end.
abbrev pub UpdateFits : Type 0
UpdateFits = (shape : Shape) (s : State) (u : Record) (room : ℕ → ℕ) → IsSoundState shape s → IsUpdate u → IsOfRunning shape s.log u → TakesCell shape s u room →
    HasCells shape s u (if has_of u.transaction s.log then 2 else 4) → FitsWith shape s u room

-- A deferred deletion wants its own cell, and 2 more where it comes first.
abbrev pub DeletionFits : Type 0
DeletionFits = (shape : Shape) (s : State) (d : Record) (room : ℕ → ℕ) → IsSoundState shape s → IsDeletion d → IsOfRunning shape s.log d → TakesCell shape s d room →
    HasCells shape s d (if has_of d.transaction s.log then 1 else 3) → FitsWith shape s d room

-- The records of an undo, and any end, take cells that were kept for them. Where no record of the transaction is left, a rollback record
-- wants 2 cells, its own and the end's, and an end its own.
abbrev pub RollbackFits : Type 0
RollbackFits = (shape : Shape) (s : State) (r : Record) (room : ℕ → ℕ) → IsSoundState shape s → IsRollback r → IsOfRunning shape s.log r → TakesCell shape s r room →
    HasItsCells shape s r 2 → HasNo (λ x. IsOf r.transaction x × IsRollback x) s.log → FitsWith shape s r room

abbrev pub CompensationFits : Type 0
CompensationFits = (shape : Shape) (s : State) (c u : Record) (stack : Log) (room : ℕ → ℕ) → IsSoundState shape s → IsCompensation c → IsOfRunning shape s.log c → TakesCell shape s c room →
    Has (IsOf c.transaction) s.log → to_undo c.transaction s.log ≡ u ∷ stack → FitsWith shape s c room

abbrev pub EndFits : Type 0
EndFits = (shape : Shape) (s : State) (e : Record) (room : ℕ → ℕ) → IsSoundState shape s → IsEnd e → IsOfRunning shape s.log e → TakesCell shape s e room →
    HasItsCells shape s e 1 → FitsWith shape s e room

-- A checkpoint record wants its own cell, and in the first part, while the log is open behind it, one for recovery's.
abbrev pub CheckpointFits : Type 0
CheckpointFits = (shape : Shape) (s : State) (c : Record) (room : ℕ → ℕ) → IsSoundState shape s → IsCheckpoint c → TakesCell shape s c room →
    HasCells shape s c 1 → FitsWith shape s c room
