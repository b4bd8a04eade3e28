-- What a draft of one command does to a map.
use Rattle.std.specs.Prelude.{◌≡◌, ℕ, List, ◌++◌}
use Rattle.persist_model.specs.Records.{IsAmong}
use Rattle.persist_model.specs.Chain.{HasNoRepeats}
use Rattle.lane_traits.specs.Space.{Space}
use Rattle.lane_traits.specs.Draft.{IsChange}
use Rattle.lane_traits.specs.declared.draft.Drafted.{Drafted}
use Rattle.region_layout.specs.declared.layout.Kind.{Kind}
use Rattle.region_layout.specs.FiniteMap.{FiniteMap}
use Rattle.region_layout.specs.Contents.{IsMapIn}
use Rattle.lane_worker.specs.declared.stage.Change.{Change}

-- the words are this map
abbrev pub HoldsOf : Kind → Space → ℕ → FiniteMap → Type 0
HoldsOf kind s root contents = IsMapIn kind s.land s.word root contents

-- the words are a map
pub record HasMapOf (kind : Kind) (s : Space) (root : ℕ) : Type 0 where
  pub contents : FiniteMap
  pub is : HoldsOf kind s root contents

-- the words are those of the same structure, at the same place, over the same words
pub record KeepsPlace (s u : Space) : Type 0 where
  pub heap : u.land.heap ≡ s.land.heap
  pub structure : u.land.structure ≡ s.land.structure
  pub start : u.land.start ≡ s.land.start

-- The change is that of a finished draft, and none of it was made.
pub record IsChangeOf (d : Drafted) (change : Change) : Type 0 where
  pub writes : change.writes ≡ d.writes
  pub gives : change.gives ≡ d.gives ++ d.spare
  pub written : change.written ≡ 0
  pub given : change.given ≡ 0

-- The change makes this map of the words that were read. Blocks that could be taken and weren't are given.
pub record ChangesTo (kind : Kind) (structure root : ℕ) (spare : List ℕ) (base : Space) (change : Change) (contents : FiniteMap) : Type 0 where
  pub space : Space
  pub holds : HoldsOf kind space root contents
  pub gives : List ℕ
  pub change_is : IsChange space change.writes gives
  pub all_gives : change.gives ≡ gives ++ space.spare
  pub fewer : (b : ℕ) → IsAmong space.spare b → IsAmong spare b
  pub spare_once : HasNoRepeats space.spare
  pub heap : space.land.heap ≡ base.land.heap
  pub structure_is : space.land.structure ≡ structure
  pub start : space.land.start ≡ record { word = base.word; owner = base.land.owner }
  pub written : change.written ≡ 0
  pub given : change.given ≡ 0
