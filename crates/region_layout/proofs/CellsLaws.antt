-- Cells hold one map, and it depends on the structure's blocks alone.
use Rattle.std.proofs.Common.{◌≡◌, ℕ, ◌+◌, Bool, true, false, if◌then◌else◌, nat_lt, None, refl, sym, ◌∙◌, ap, arith, ltb-true}
use Rattle.persist_model.specs.Region.{Words}
use Rattle.lane_traits.specs.Space.{IsOwn}
use Rattle.region_layout.specs.HeapBlocks.{land_of, root_of, OwnsAlike}
use Rattle.region_layout.specs.CellsMap.{cell_of, value_or_none, cell_value}
use Rattle.region_layout.specs.MapLaws.{CellsHoldOneMap, CellsDependOnTheirBlocks}
use Rattle.region_layout.proofs.FiniteMaps.{same_entries}

pub one_map : CellsHoldOneMap
one_map land w root m n h k = same_entries m n h.ascending k.ascending (λ key. h.lookup_is key ∙ sym (k.lookup_is key))

-- ---- a structure's blocks alone decide

module _ (heap structure : ℕ) (w u : Words) (alike : OwnsAlike heap structure w u) where
  pub own_there : (b : ℕ) → IsOwn (land_of heap w structure) b → IsOwn (land_of heap u structure) b
  own_there b own = (record { number = own.0.number; place = own.0.place; positive = own.0.positive; fits = own.0.fits }, alike.owned b own)

  pub own_here : (b : ℕ) → IsOwn (land_of heap u structure) b → IsOwn (land_of heap w structure) b
  own_here b own = (record { number = own.0.number; place = own.0.place; positive = own.0.positive; fits = own.0.fits }, alike.owned_back b own)

  cell_there : IsOwn (land_of heap w structure) (root_of heap structure) → (key : ℕ) → cell_value w (root_of heap structure) key ≡ cell_value u (root_of heap structure) key
  cell_there own key = step (nat_lt key 12) refl
    where
      step : (t : Bool) → nat_lt key 12 ≡ t
          → (if t then value_or_none (w (cell_of (root_of heap structure) key)) else None) ≡ (if t then value_or_none (u (cell_of (root_of heap structure) key)) else None)
      step true on =
          let low = ltb-true key 12 on in
          let place : root_of heap structure + (4 + key) ≡ cell_of (root_of heap structure) key = omega arith in
          ap value_or_none (ap w (sym place) ∙ sym (alike.words (root_of heap structure) (4 + key) own (omega arith) (omega (arith, low))) ∙ ap u place)
      step false off = refl

pub by_blocks : CellsDependOnTheirBlocks
by_blocks heap structure w u m alike h = record {
  root_own = own_there heap structure w u alike (root_of heap structure) h.root_own;
  alone = λ b own. h.alone b (own_here heap structure w u alike b own);
  ascending = h.ascending;
  lookup_is = λ key. h.lookup_is key ∙ cell_there heap structure w u alike h.root_own key;
}
