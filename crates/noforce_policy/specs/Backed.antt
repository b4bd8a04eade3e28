-- Heap words under no-force, where a stop may lose a store: what of a word's newest value the log has.
use Rattle.std.specs.Prelude.{◌≡◌, ◌≢◌, ◌⊎◌, ℕ, ◌+◌, Bool, IsTrue, List, [], ◌∷◌, ◌++◌, Option, Some}
use Rattle.persist_model.specs.declared.event.Candidate.{Candidate}
use Rattle.persist_model.specs.Kinds.{COMPENSATION, UPDATE}
use Rattle.persist_model.specs.declared.event.Event.{Event}
use Rattle.persist_model.specs.declared.event.Event.TheVariants.{Store, PStore, WriteBack, Fence}
use Rattle.persist_model.specs.Region.{Region, candidate, IsCandidate, newest}
use Rattle.persist_model.specs.Records.{Record, Log, Has, HasNo, IsChange, IsSkipped}
use Rattle.persist_model.specs.Shape.{Shape, IsHeapWord}
use Rattle.persist_model.specs.Standing.{IsToUndo, IsToDelete, IsToRedo, IsLatest}
use Rattle.region_layout.specs.declared.cell.Cell.{Cell}
use Rattle.plan_records.specs.declared.parts.Part.{Part}
use Rattle.plan_records.specs.declared.parts.Part.TheVariants.{Append, Word}
use Rattle.plan_records.specs.HeapCourses.{IsChanged}

-- whatever a stop leaves of the word is its newest value
abbrev pub HasOneValue : Region → ℕ → Type 0
HasOneValue region a = (v : ℕ) → IsCandidate (region.at a) v → v ≡ newest (region.at a)

-- a change of a that no checkpoint has passed: its transaction runs, or has ended and is to be redone
abbrev pub IsUnpassed : Log → ℕ → Record → Type 0
IsUnpassed log a r = IsChange r × (r.word ≡ a) × (IsSkipped log r.transaction → ⊥)

-- The word's newest value is backed: it is the NEW of the latest change that no checkpoint has passed; where there is none, a stop leaves it.
pub record IsBacked (log : Log) (region : Region) (a : ℕ) : Type 0 where
  pub changed : (r : Record) → IsLatest (IsUnpassed log a) log r → newest (region.at a) ≡ r.after
  pub unchanged : HasNo (IsUnpassed log a) log → HasOneValue region a

-- a heap word that is neither to be undone nor deleted, so that its standing value is what was committed last
pub record IsCommittedWord (shape : Shape) (log : Log) (a : ℕ) : Type 0 where
  pub heap_word : IsHeapWord shape a
  pub not_undone : HasNo (IsToUndo log a) log
  pub not_deleted : HasNo (IsToDelete log a) log

abbrev pub AreBacked : Shape → Log → Region → Type 0
AreBacked shape log region = (a : ℕ) → IsCommittedWord shape log a → IsBacked log region a

-- the words that t changed are, but for one whose change is recorded and not stored yet
abbrev pub AreOwnBacked : ℕ → Option ℕ → Log → Region → Type 0
AreOwnBacked t waiting log region = (a : ℕ) → waiting ≢ Some a → IsChanged log t a → IsBacked log region a

-- a stop leaves the newest value of each committed word of which something is to be redone
abbrev pub AreAllSwept : Shape → Log → Region → Type 0
AreAllSwept shape log region = (a : ℕ) → IsCommittedWord shape log a → Has (IsToRedo 2 log a) log → HasOneValue region a

-- ---- events and one word

abbrev pub IsNoStoreTo : ℕ → Event → Type 0
IsNoStoreTo a (Store b v) = a ≢ b
IsNoStoreTo a (PStore b v) = a ≢ b
IsNoStoreTo a (WriteBack b) = Unit {0}
IsNoStoreTo a Fence = Unit {0}

abbrev pub AreNoStoresTo : ℕ → List (ℕ × Event) → Type 0
AreNoStoresTo a [] = Unit {0}
AreNoStoresTo a (e ∷ events) = IsNoStoreTo a e.1 × AreNoStoresTo a events

-- the lane's write back of a is the last thing that was done to it: its newest candidate has the lane's mark
abbrev pub IsWrittenBack : ℕ → Region → ℕ → Type 0
IsWrittenBack lane region a = (front : List Candidate) × (region.at a ≡ front ++ candidate (newest (region.at a)) (lane + 1) ∷ [])

-- an event of the lane by, behind the lane's write back of a: no store to a, no other lane's write back of a, and no fence of the lane
abbrev pub IsBesideSweep : ℕ → ℕ → ℕ → Event → Type 0
IsBesideSweep lane a by (Store b v) = a ≢ b
IsBesideSweep lane a by (PStore b v) = a ≢ b
IsBesideSweep lane a by (WriteBack b) = a ≡ b → by ≡ lane
IsBesideSweep lane a by Fence = by ≢ lane

abbrev pub AreBesideSweep : ℕ → ℕ → List (ℕ × Event) → Type 0
AreBesideSweep lane a [] = Unit {0}
AreBesideSweep lane a (e ∷ events) = IsBesideSweep lane a e.0 e.1 × AreBesideSweep lane a events

-- Dirty words are told by a test: each other heap word was written back by the lane, or has one value.
abbrev pub TellsDirty : Shape → (ℕ → Bool) → ℕ → Region → Type 0
TellsDirty shape dirty lane region = (a : ℕ) → IsHeapWord shape a → IsTrue (dirty a) ⊎ IsWrittenBack lane region a ⊎ HasOneValue region a

-- ---- plans

-- the plan's only stores are that of the NEW of each change, right behind its record
pub data StoresChanges : List Part → Type 0 where
  nothing : StoresChanges []
  notes : {parts : List Part} (cell : Cell) → cell.kind ≢ UPDATE → cell.kind ≢ COMPENSATION → StoresChanges parts → StoresChanges (Append cell ∷ parts)
  changes : {parts : List Part} (cell : Cell) → StoresChanges parts → StoresChanges (Append cell ∷ Word (Store cell.word cell.after) ∷ parts)
