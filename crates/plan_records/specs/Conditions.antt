-- What is asked of the state before, for each kind of record. The record is the cell's at its place, with its number.
use Rattle.std.specs.Prelude.{◌≡◌, ◌≢◌, ℕ, ◌≤◌, if◌then◌else◌, [], ◌∷◌}
use Rattle.persist_model.specs.Region.{Words}
use Rattle.persist_model.specs.Records.{Record, Log, HasNo, IsOf, IsRollback}
use Rattle.persist_model.specs.Shape.{Shape, IsHeapWord, IsRootOwner, IsPlainOwner}
use Rattle.persist_model.specs.Standing.{IsLatest}
use Rattle.persist_model.specs.Need.{to_undo, has_of}
use Rattle.persist_model.specs.State.{State}
use Rattle.log_laws.specs.Recovering.{with_heap}
use Rattle.log_laws.specs.Moves.{IsOfRunning, MayName, MayUpdate, AreSwept, IsDeletionBy, IsChangeBy}
use Rattle.log_laws.specs.MoveRoom.{HasCells, HasItsCells}

-- An update of a heap word that isn't a root's owner, by a running transaction that may name the word, with a cell for it and one for its
-- compensation; the first record of a transaction wants 2 more.
pub record CanUpdate (shape : Shape) (s : State) (u : Record) : Type 0 where
  pub transaction : 1 ≤ u.transaction
  pub word : IsHeapWord shape u.word
  pub no_root : IsRootOwner shape u.word → ⊥
  pub running : IsOfRunning shape s.log u
  pub free : MayName s.log u
  pub cells : HasCells shape s u (if has_of u.transaction s.log then 2 else 4)

-- A deferred deletion of a block that isn't a root, by a running transaction that may name its owner word, with a cell for it; the first
-- record of a transaction wants 2 more.
pub record CanDelete (shape : Shape) (s : State) (d : Record) : Type 0 where
  pub transaction : 1 ≤ d.transaction
  pub block : IsPlainOwner shape d.word
  pub running : IsOfRunning shape s.log d
  pub free : MayName s.log d
  pub cells : HasCells shape s d (if has_of d.transaction s.log then 1 else 3)

-- r is of a running transaction that has a record, so that its cells are kept, or so many are there
pub record IsOfOpen (shape : Shape) (s : State) (r : Record) (cells : ℕ) : Type 0 where
  pub transaction : 1 ≤ r.transaction
  pub kept : HasItsCells shape s r cells
  pub running : IsOfRunning shape s.log r

-- the first rollback record of its transaction; where it comes alone, it and the end behind it want a cell each
pub record CanRollBack (shape : Shape) (s : State) (r : Record) : Type 0 where
  pub open_one : IsOfOpen shape s r 2
  pub first : HasNo (λ x. IsOf r.transaction x × IsRollback x) s.log

-- u is the newest update of its transaction that no compensation names; c is of the same transaction
pub record CanCompensate (shape : Shape) (s : State) (c u : Record) : Type 0 where
  pub transaction : 1 ≤ c.transaction
  pub running : IsOfRunning shape s.log c
  pub stack : Log
  pub newest : to_undo c.transaction s.log ≡ u ∷ stack

-- no update of e's transaction is left to undo
pub record CanEndUndone (shape : Shape) (s : State) (e : Record) : Type 0 where
  pub open_one : IsOfOpen shape s e 1
  pub nothing_left : to_undo e.transaction s.log ≡ []

-- A checkpoint record has a cell, and recovery one for its own.
pub record CanCheckpoint (shape : Shape) (s : State) (c : Record) : Type 0 where
  pub cells : HasCells shape s c 1

-- ---- what is asked of the heap words of each image

-- an update's OLD is what its transaction last wrote, or else the standing value; its undo next is the undo point
abbrev pub IsUpdateOf : Shape → State → Record → Words → Type 0
IsUpdateOf shape s u h = MayUpdate shape.policy (with_heap s h) u

-- under force each word that t changed has the last NEW
abbrev pub AreLast : Shape → State → ℕ → Words → Type 0
AreLast shape s t h = shape.policy ≢ 2 → (a : ℕ) (r : Record) → IsLatest (IsChangeBy t a) s.log r → h a ≡ r.after

-- each word that is neither to be undone nor deleted has its standing value
abbrev pub AreSweptIn : Shape → State → Words → Type 0
AreSweptIn shape s h = AreSwept shape.policy s.log h

-- under force each word that t changed and doesn't delete has the last NEW
abbrev pub AreWritten : Shape → State → ℕ → Words → Type 0
AreWritten shape s t h =
    shape.policy ≢ 2 → (a : ℕ) (r : Record) → HasNo (IsDeletionBy t a) s.log → IsLatest (IsChangeBy t a) s.log r → h a ≡ r.after
