-- Commits in order: the heap that they make of another, and when they are lawful.
use Rattle.std.specs.Prelude.{◌≡◌, ◌≢◌, ℕ, ◌<◌, List, [], ◌∷◌}
use Rattle.persist_model.specs.Region.{Words}
use Rattle.lane_traits.specs.Draft.{after_writes}
use Rattle.lane_types.specs.declared.face.Entry.{Entry}
use Rattle.lane_types.specs.Deeds.{Deeds}
use Rattle.lane_types.specs.Heaps.{Heap, LeavesOthers, with_writes}

-- the words after the writes of all entries, in order
abbrev pub after_entries : {E : Type 0} → List (Entry E) → Words → Words
after_entries [] w = w
after_entries (e ∷ entries) w = after_entries entries (after_writes e.writes w)

-- the heap that the entries make of another
abbrev pub fold : {E : Type 0} → Heap → List (Entry E) → Heap
fold heap entries = record heap { at = after_entries entries heap.at }

-- The first comes before the second: a lane's numbers rise, and no transaction stands twice.
pub record IsEarlier {E : Type 0} (e later : Entry E) : Type 0 where
  pub rises : e.lane ≡ later.lane → e.number < later.number
  pub differs : e.transaction ≢ later.transaction

abbrev pub IsEarlierThanAll : {E : Type 0} → Entry E → List (Entry E) → Type 0
IsEarlierThanAll e [] = Unit {0}
IsEarlierThanAll e (later ∷ entries) = IsEarlier e later × IsEarlierThanAll e entries

-- The entry does to the heap what its deed means, and leaves the structures that the deed doesn't name.
pub record IsLawfulOn {E : Type 0} (deeds : Deeds E) (heap : Heap) (e : Entry E) : Type 0 where
  pub means : deeds.means e.deed heap (with_writes e.writes heap)
  pub others : LeavesOthers (deeds.names e.deed) heap (with_writes e.writes heap)

-- Each entry is lawful on the heap that those before it made.
abbrev pub Lawful : {E : Type 0} → Deeds E → Heap → List (Entry E) → Type 0
Lawful deeds heap [] = Unit {0}
Lawful deeds heap (e ∷ entries) =
    IsLawfulOn deeds heap e × IsEarlierThanAll e entries × Lawful deeds (with_writes e.writes heap) entries

abbrev pub HaveSorts : {E : Type 0} → Deeds E → List ℕ → List (Entry E) → Type 0
HaveSorts deeds sorts [] = Unit {0}
HaveSorts deeds sorts (e ∷ entries) = (deeds.sorts e.deed ≡ sorts) × HaveSorts deeds sorts entries
