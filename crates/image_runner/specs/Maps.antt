-- The maps of a region's structures, and the first structure whose words are none.
use Rattle.std.specs.Prelude.{◌≡◌, ℕ, ◌+◌, List, [], ◌∷◌, take, map, Some, Result, Ok, Err}
use Rattle.std.specs.List.{slice_get}
use Rattle.persist_model.specs.Region.{Words}
use Rattle.lane_traits.specs.declared.words.Pair.{Pair}
use Rattle.region_layout.specs.declared.layout.Kind.{Kind}
use Rattle.region_layout.specs.FiniteMap.{FiniteMap}
use Rattle.region_layout.specs.HeapBlocks.{root_of}
use Rattle.region_layout.specs.Contents.{IsMapOf}
use Rattle.region_layout.specs.Contents.{IsMap}
use Rattle.rewind_script.specs.declared.report.PairList.{PairList}
use Rattle.image_runner.specs.declared.maps.MapFault.{MapFault}
use Rattle.image_runner.specs.declared.maps.MapFault.TheVariants as fault

abbrev pub entry_of : Pair → ℕ × ℕ
entry_of pair = (pair.key, pair.value)

-- the entries that the pairs are
abbrev pub entries_of : List Pair → FiniteMap
entries_of pairs = map entry_of pairs

-- The structure holds no map of this kind, and a is its root block.
pub record HoldsNone (kind : Kind) (heap : ℕ) (w : Words) (structure a : ℕ) : Type 0 where
  pub none : IsMap kind heap w structure → ⊥
  pub root : a ≡ root_of heap structure

-- what was read of a structure of this kind: the pairs of its map, or the root block where it holds none
abbrev pub ReadsMap : Kind → ℕ → Words → ℕ → Result (List Pair) MapFault → Type 0
ReadsMap kind heap w structure (Ok pairs) = IsMapOf kind heap w structure (entries_of pairs)
ReadsMap kind heap w structure (Err (fault.At a)) = HoldsNone kind heap w structure a
ReadsMap kind heap w structure (Err fault.NoMemory) = Unit {0}

-- the structures of these kinds, the first of which is s, hold these maps
abbrev pub HoldFrom : ℕ → Words → ℕ → List Kind → List PairList → Type 0
HoldFrom heap w s [] [] = Unit {0}
HoldFrom heap w s [] (m ∷ maps) = ⊥
HoldFrom heap w s (kind ∷ kinds) [] = ⊥
HoldFrom heap w s (kind ∷ kinds) (m ∷ maps) = IsMapOf kind heap w s (entries_of m.pairs) × HoldFrom heap w (s + 1) kinds maps

-- the structures hold these maps
abbrev pub HoldMaps : ℕ → Words → List Kind → List PairList → Type 0
HoldMaps heap w kinds maps = HoldFrom heap w 0 kinds maps

-- each of them, from s on, holds a map
abbrev pub AreMapsFrom : ℕ → Words → ℕ → List Kind → Type 0
AreMapsFrom heap w s [] = Unit {0}
AreMapsFrom heap w s (kind ∷ kinds) = IsMap kind heap w s × AreMapsFrom heap w (s + 1) kinds

abbrev pub AreMaps : ℕ → Words → List Kind → Type 0
AreMaps heap w kinds = AreMapsFrom heap w 0 kinds

-- a is the root block of the first structure that holds no map
pub record IsFirstBroken (heap : ℕ) (w : Words) (kinds : List Kind) (a : ℕ) : Type 0 where
  pub structure : ℕ
  pub kind : Kind
  pub of : slice_get kinds structure ≡ Some kind
  pub before : AreMaps heap w (take structure kinds)
  pub broken : IsMap kind heap w structure → ⊥
  pub root : a ≡ root_of heap structure
