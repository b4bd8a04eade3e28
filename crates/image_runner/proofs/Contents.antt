-- Heaps with the same words hold the same maps.
use Rattle.std.proofs.Common.{◌≡◌, ℕ, ◌+◌, ◌≤◌, if◌then◌else◌, nat_lt, List, [], ◌∷◌, sym, ◌∙◌, ap, arith, None}
use Rattle.persist_model.specs.Region.{Words}
use Rattle.lane_traits.specs.Space.{IsOwn}
use Rattle.region_layout.specs.declared.layout.Kind.{Kind}
use Rattle.region_layout.specs.declared.layout.Kind.TheVariants.{Cells, Tree, Hash}
use Rattle.region_layout.specs.FiniteMap.{FiniteMap}
use Rattle.region_layout.specs.HeapBlocks.{land_of, root_of, OwnsAlike}
use Rattle.region_layout.specs.CellsMap.{CELL_KEYS, cell_of, value_or_none, IsCellsMap}
use Rattle.region_layout.specs.Contents.{IsMapOf}
use Rattle.region_layout.specs.Contents.{IsMap}
use Rattle.persist_tree.proofs.Lawful.{by_blocks}
use Rattle.persist_hash.proofs.OneMap.{depends}
use Rattle.rewind_script.specs.declared.report.PairList.{PairList}
use Rattle.image_runner.specs.Maps.{entries_of, HoldFrom, HoldMaps, AreMapsFrom, IsFirstBroken}

-- the words from the heap's first on are the same
abbrev pub AreSameFrom : ℕ → Words → Words → Type 0
AreSameFrom heap w u = (a : ℕ) → heap ≤ a → w a ≡ u a

turned : (heap : ℕ) (w u : Words) → AreSameFrom heap w u → AreSameFrom heap u w
turned heap w u same a above = sym (same a above)

own_there : (heap structure : ℕ) (w u : Words) → AreSameFrom heap w u → (b : ℕ) → IsOwn (land_of heap w structure) b → IsOwn (land_of heap u structure) b
own_there heap structure w u same b own = (
  record { number = own.0.number; place = own.0.place; positive = own.0.positive; fits = own.0.fits },
  sym (same b (let place = own.0.place in omega arith)) ∙ own.1,
)

owns_alike : (heap structure : ℕ) (w u : Words) → AreSameFrom heap w u → OwnsAlike heap structure w u
owns_alike heap structure w u same = record {
  owned = λ b own. (own_there heap structure w u same b own).1;
  owned_back = λ b own. (own_there heap structure u w (turned heap w u same) b own).1;
  words = λ b i own above below. sym (same (b + i) (let place = own.0.place in omega arith));
}

cells_there : (heap structure : ℕ) (w u : Words) (m : FiniteMap) → AreSameFrom heap w u
    → IsCellsMap (land_of heap w structure) w (root_of heap structure) m → IsCellsMap (land_of heap u structure) u (root_of heap structure) m
cells_there heap structure w u m same h = record {
  root_own = own_there heap structure w u same (root_of heap structure) h.root_own;
  alone = λ b own. h.alone b (own_there heap structure u w (turned heap w u same) b own);
  ascending = h.ascending;
  lookup_is = λ key. h.lookup_is key
      ∙ ap (λ v. if nat_lt key CELL_KEYS then value_or_none v else None) (same (cell_of (root_of heap structure) key) (omega arith));
}

pub map_there : (kind : Kind) (heap structure : ℕ) (w u : Words) (m : FiniteMap) → AreSameFrom heap w u
    → IsMapOf kind heap w structure m → IsMapOf kind heap u structure m
map_there Cells heap structure w u m same h = cells_there heap structure w u m same h
map_there Tree heap structure w u m same h = by_blocks heap structure w u m (owns_alike heap structure w u same) h
map_there Hash heap structure w u m same h = depends heap structure w u m (owns_alike heap structure w u same) h

is_map_there : (kind : Kind) (heap structure : ℕ) (w u : Words) → AreSameFrom heap w u → IsMap kind heap w structure → IsMap kind heap u structure
is_map_there kind heap structure w u same h = record { contents = h.contents; is = map_there kind heap structure w u h.contents same h.is }

hold_from_there : (heap : ℕ) (w u : Words) (s : ℕ) (kinds : List Kind) (maps : List PairList) → AreSameFrom heap w u → HoldFrom heap w s kinds maps → HoldFrom heap u s kinds maps
hold_from_there heap w u s [] [] same h = tt
hold_from_there heap w u s [] (m ∷ maps) same h = absurd h
hold_from_there heap w u s (kind ∷ kinds) [] same h = absurd h
hold_from_there heap w u s (kind ∷ kinds) (m ∷ maps) same h =
    (map_there kind heap s w u (entries_of m.pairs) same h.0, hold_from_there heap w u (s + 1) kinds maps same h.1)

pub hold_there : (heap : ℕ) (w u : Words) (kinds : List Kind) (maps : List PairList) → AreSameFrom heap w u → HoldMaps heap w kinds maps → HoldMaps heap u kinds maps
hold_there heap w u kinds maps same h = hold_from_there heap w u 0 kinds maps same h

pub are_maps_there : (heap : ℕ) (w u : Words) (s : ℕ) (kinds : List Kind) → AreSameFrom heap w u → AreMapsFrom heap w s kinds → AreMapsFrom heap u s kinds
are_maps_there heap w u s [] same h = tt
are_maps_there heap w u s (kind ∷ kinds) same h = (is_map_there kind heap s w u same h.0, are_maps_there heap w u (s + 1) kinds same h.1)

pub broken_there : (heap : ℕ) (w u : Words) (kinds : List Kind) (a : ℕ) → AreSameFrom heap w u → IsFirstBroken heap w kinds a → IsFirstBroken heap u kinds a
broken_there heap w u kinds a same h = record {
  structure = h.structure;
  kind = h.kind;
  of = h.of;
  before = are_maps_there heap w u 0 _ same h.before;
  broken = λ holds. h.broken (is_map_there h.kind heap h.structure u w (turned heap w u same) holds);
  root = h.root;
}
