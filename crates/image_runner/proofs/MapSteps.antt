-- One structure after the other.
use Rattle.std.proofs.Common.{◌≡◌, ℕ, ◌+◌, List, [], ◌∷◌, ◌++◌, length, sym, subst, arith, slice_index}
use Rattle.persist_model.specs.Region.{Words}
use Rattle.region_layout.specs.declared.layout.Kind.{Kind}
use Rattle.region_layout.specs.HeapBlocks.{root_of}
use Rattle.region_layout.specs.Contents.{IsMapOf}
use Rattle.region_layout.specs.Contents.{IsMap}
use Rattle.rewind_script.specs.declared.report.PairList.{PairList}
use Rattle.lane_traits.specs.Space.{Space}
use Rattle.lane_traits.specs.Draft.{drafted}
use Rattle.lane_traits.specs.declared.words.Pair.{Pair}
use Rattle.region_layout.specs.declared.layout.Kind.TheVariants.{Tree, Hash}
use Rattle.region_layout.specs.FiniteMap.{FiniteMap}
use Rattle.persist_hash.specs.Calls.{HasMap, Holds as HoldsHash}
use Rattle.persist_tree.specs.Calls.{HoldsMap as HasTree, Holds as HoldsTree}
use Rattle.image_runner.specs.Reader.{space_of}
use Rattle.image_runner.specs.Maps.{entries_of, HoldFrom, AreMapsFrom}

-- one more
pub hold_push : (heap : ℕ) (w : Words) (s t : ℕ) (kinds : List Kind) (maps : List PairList) (kind : Kind) (m : PairList)
    → t ≡ s + length kinds → HoldFrom heap w s kinds maps → IsMapOf kind heap w t (entries_of m.pairs) → HoldFrom heap w s (kinds ++ kind ∷ []) (maps ++ m ∷ [])
hold_push heap w s t [] [] kind m at h is = (subst (λ n. IsMapOf kind heap w n (entries_of m.pairs)) (let here : t ≡ s = omega arith in here) is, tt)
hold_push heap w s t [] (x ∷ maps) kind m at h is = absurd h
hold_push heap w s t (k ∷ kinds) [] kind m at h is = absurd h
hold_push heap w s t (k ∷ kinds) (x ∷ maps) kind m at h is = (h.0, hold_push heap w (s + 1) t kinds maps kind m (omega arith) h.1 is)

-- what holds these maps holds maps
pub are_maps : (heap : ℕ) (w : Words) (s : ℕ) (kinds : List Kind) (maps : List PairList) → HoldFrom heap w s kinds maps → AreMapsFrom heap w s kinds
are_maps heap w s [] [] h = tt
are_maps heap w s [] (x ∷ maps) h = absurd h
are_maps heap w s (k ∷ kinds) [] h = absurd h
are_maps heap w s (k ∷ kinds) (x ∷ maps) h = (record { contents = entries_of x.pairs; is = h.0 }, are_maps heap w (s + 1) kinds maps h.1)

-- ---- a structure's draft

module _ (heap structure root : ℕ) (words : List ℕ) (space : Space) (is : space ≡ drafted structure [] [] [] (space_of heap structure words)) (at : root ≡ root_of heap structure) where
  hash_in : (m : FiniteMap) → IsMapOf Hash heap (slice_index words) structure m → HoldsHash space root m
  hash_in m h =
      subst (λ (s : Space). HoldsHash s root m) (sym is)
      (subst (λ (r : ℕ). HoldsHash (drafted structure [] [] [] (space_of heap structure words)) r m) (sym at) h)

  pub has_hash : IsMap Hash heap (slice_index words) structure → HasMap space root
  has_hash h = record { contents = h.contents; holds = hash_in h.contents h.is }

  pub hash_read : (pairs : List Pair) → IsMap Hash heap (slice_index words) structure → ((m : FiniteMap) → HoldsHash space root m → entries_of pairs ≡ m)
      → IsMapOf Hash heap (slice_index words) structure (entries_of pairs)
  hash_read pairs h read = subst (λ (m : FiniteMap). IsMapOf Hash heap (slice_index words) structure m) (sym (read h.contents (hash_in h.contents h.is))) h.is

  tree_in : (m : FiniteMap) → IsMapOf Tree heap (slice_index words) structure m → HoldsTree space root m
  tree_in m h =
      subst (λ (s : Space). HoldsTree s root m) (sym is)
      (subst (λ (r : ℕ). HoldsTree (drafted structure [] [] [] (space_of heap structure words)) r m) (sym at) h)

  pub has_tree : IsMap Tree heap (slice_index words) structure → HasTree space root
  has_tree h = record { contents = h.contents; is = tree_in h.contents h.is }

  pub tree_read : (pairs : List Pair) → IsMap Tree heap (slice_index words) structure → ((m : FiniteMap) → HoldsTree space root m → entries_of pairs ≡ m)
      → IsMapOf Tree heap (slice_index words) structure (entries_of pairs)
  tree_read pairs h read = subst (λ (m : FiniteMap). IsMapOf Tree heap (slice_index words) structure m) (sym (read h.contents (tree_in h.contents h.is))) h.is
