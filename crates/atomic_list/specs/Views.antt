-- A sound list of a partition, as it is read in the partition's view, and the gates of the bucket that is being taken out.
use Rattle.std.specs.Prelude.{◌≡◌, ◌≢◌, ◌⊎◌, ◌↔◌, ℕ, ◌<◌, List}
use Rattle.persist_model.specs.Region.{Words}
use Rattle.persist_model.specs.Progress.{Reaches}
use Rattle.persist_model.specs.Shape.{Shape, IsBucketOf}
use Rattle.persist_model.specs.Chain.{TO_REMOVE, view}
use Rattle.persist_model.specs.ImageRecords.{cell_address}
use Rattle.persist_model.specs.Sound.{IsClosedBucket, IsListOf}
use Rattle.atomic_list.specs.declared.plans.Insert.{Insert}
use Rattle.atomic_list.specs.declared.plans.Remove.{Remove}
use Rattle.atomic_list.specs.Rules.{IsList, IsListWord}
use Rattle.atomic_list.specs.Insertion.{CanInsert, inserted}
use Rattle.atomic_list.specs.Removal.{CanRemove, removed}
use Rattle.atomic_list.specs.Repairing.{repaired}

-- all gates of the bucket that is being taken out are closed
abbrev pub IsRemovedClosed : Shape → Words → Type 0
IsRemovedClosed shape w = w TO_REMOVE ≢ 0 → IsClosedBucket shape w (w TO_REMOVE)

-- a is a gate of a bucket of the partition
abbrev pub IsGate : Shape → ℕ → ℕ → Type 0
IsGate shape p a = (b : ℕ) × IsBucketOf shape p b × (c : ℕ) × (c < shape.cells) × (a ≡ cell_address b c)

abbrev pub IsListWordOrGate : Shape → ℕ → ℕ → Type 0
IsListWordOrGate shape p a = IsListWord shape p a ⊎ IsGate shape p a

-- ---- the laws

-- the partition's list is sound exactly where its view has a list, and the bucket that is being taken out is closed
abbrev pub ViewsHaveLists : Type 0
ViewsHaveLists = (shape : Shape) (p : ℕ) (z : Words) (chain : List ℕ) →
    IsListOf shape p z chain ↔ IsList shape p (view p z) chain × IsRemovedClosed shape (view p z)

-- in no image of an insertion a bucket is being taken out
abbrev pub InsertionRemovesNone : Type 0
InsertionRemovesNone = (shape : Shape) (p : ℕ) (w v : Words) (xs : List ℕ) (a : Insert) (k : ℕ) →
    CanInsert shape p w xs a → Reaches (IsListWord shape p) (inserted w a k) v → v TO_REMOVE ≡ 0

-- a removal of a closed bucket keeps it closed as long as it is being taken out
abbrev pub RemovedStaysClosed : Type 0
RemovedStaysClosed = (shape : Shape) (p : ℕ) (w v : Words) (front rest : List ℕ) (r : Remove) (k : ℕ) →
    CanRemove shape p w front rest r → IsClosedBucket shape w r.node → Reaches (IsListWordOrGate shape p) (removed w r k) v → IsRemovedClosed shape v

-- and so does a repair
abbrev pub RepairedStaysClosed : Type 0
RepairedStaysClosed = (shape : Shape) (p : ℕ) (w v : Words) (xs : List ℕ) (k : ℕ) →
    IsList shape p w xs → IsRemovedClosed shape w → Reaches (IsListWordOrGate shape p) (repaired w k) v → IsRemovedClosed shape v
