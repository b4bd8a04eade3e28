-- What a deed means depends on the blocks of its structures alone.
use Rattle.std.proofs.Common.{◌≡◌, ℕ, ◌+◌, ◌*◌, ◌<◌, Bool, true, false, if◌then◌else◌, nat_lt, List, refl, sym, ◌∙◌, ap, subst, arith, ltb-true}
use Rattle.persist_model.specs.Region.{Words}
use Rattle.lane_traits.specs.Space.{IsOwn}
use Rattle.lane_types.specs.Heaps.{Heap, has_bit, AreAlike, AreAlikeIn}
use Rattle.region_layout.specs.declared.layout.Kind.{Kind}
use Rattle.region_layout.specs.declared.layout.Kind.TheVariants.{Cells, Tree, Hash}
use Rattle.region_layout.specs.FiniteMap.{FiniteMap}
use Rattle.region_layout.specs.HeapBlocks.{land_of, root_of, OwnsAlike}
use Rattle.region_layout.specs.Contents.{IsMapOf}
use Rattle.region_layout.proofs.CellsLaws as cells
use Rattle.persist_tree.proofs.Lawful as tree
use Rattle.persist_hash.proofs.OneMap as hash
use Rattle.map_deeds.specs.declared.deed.MapDeed.{MapDeed}
use Rattle.map_deeds.specs.Maps.{Maps}
use Rattle.map_deeds.specs.Meanings.{words_of, kind_at, HoldMaps, Means}

-- ---- the laws of the three kinds

pub by_blocks : (kind : Kind) (heap structure : ℕ) (w u : Words) (m : FiniteMap) → OwnsAlike heap structure w u
    → IsMapOf kind heap w structure m → IsMapOf kind heap u structure m
by_blocks Cells heap structure w u m alike h = cells.by_blocks heap structure w u m alike h
by_blocks Tree heap structure w u m alike h = tree.by_blocks heap structure w u m alike h
by_blocks Hash heap structure w u m alike h = hash.depends heap structure w u m alike h

pub one_map : (kind : Kind) (heap : ℕ) (w : Words) (structure : ℕ) (m n : FiniteMap)
    → IsMapOf kind heap w structure m → IsMapOf kind heap w structure n → m ≡ n
one_map Cells heap w structure m n h k = cells.one_map (land_of heap w structure) w (root_of heap structure) m n h k
one_map Tree heap w structure m n h k = tree.one_map (land_of heap w structure) w (root_of heap structure) m n h k
one_map Hash heap w structure m n h k = hash.one_map (land_of heap w structure) w (root_of heap structure) m n h k

-- ---- heaps that are alike in a structure

cut_value : (t : Bool) (x v : ℕ) → (if t then x else 0) ≡ v + 1 → (t ≡ true) × (x ≡ v + 1)
cut_value true x v e = (refl, e)
cut_value false x v e = absurd (omega (arith, e))

cut_in : (t : Bool) (x : ℕ) → t ≡ true → (if t then x else 0) ≡ x
cut_in true x e = refl
cut_in false x e = absurd cc

cut_same : (t : Bool) (x y : ℕ) → x ≡ y → (if t then x else 0) ≡ (if t then y else 0)
cut_same t x y e = ap (λ z. if t then z else 0) e

module _ (start blocks : ℕ) (at to : ℕ → ℕ) where
  abbrev one : Heap
  one = record { start = start; blocks = blocks; at = at }

  abbrev two : Heap
  two = record { start = start; blocks = blocks; at = to }

  alike_blocks : (picks : ℕ → Bool) (s : ℕ) → picks s ≡ true → AreAlikeIn picks one two → OwnsAlike start s (words_of one) (words_of two)
  alike_blocks picks s picked alike = record { owned = owned; owned_back = owned_back; words = words }
    where
      owned : (b : ℕ) → IsOwn (land_of start (words_of one) s) b → words_of two b ≡ s + 1
      owned b own =
          let v = cut_value (nat_lt b (start + 16 * blocks)) (at b) s own.1 in
          let low = ltb-true b (start + 16 * blocks) v.0 in
          cut_in (nat_lt b (start + 16 * blocks)) (to b) v.0
          ∙ subst (λ c. to c ≡ s + 1) (sym own.0.place)
          ((alike.owned s own.0.number picked (omega (arith, low, own.0.place))).0 (subst (λ c. at c ≡ s + 1) own.0.place v.1))

      owned_back : (b : ℕ) → IsOwn (land_of start (words_of two) s) b → words_of one b ≡ s + 1
      owned_back b own =
          let v = cut_value (nat_lt b (start + 16 * blocks)) (to b) s own.1 in
          let low = ltb-true b (start + 16 * blocks) v.0 in
          cut_in (nat_lt b (start + 16 * blocks)) (at b) v.0
          ∙ subst (λ c. at c ≡ s + 1) (sym own.0.place)
          ((alike.owned s own.0.number picked (omega (arith, low, own.0.place))).1 (subst (λ c. to c ≡ s + 1) own.0.place v.1))

      words : (b i : ℕ) → IsOwn (land_of start (words_of one) s) b → 0 < i → i < 16 → words_of two (b + i) ≡ words_of one (b + i)
      words b i own positive small =
          let v = cut_value (nat_lt b (start + 16 * blocks)) (at b) s own.1 in
          let low = ltb-true b (start + 16 * blocks) v.0 in
          cut_same (nat_lt (b + i) (start + 16 * blocks)) (to (b + i)) (at (b + i))
          (sym (subst (λ c. at (c + i) ≡ to (c + i)) (sym own.0.place)
          (alike.words s own.0.number i picked (omega (arith, low, own.0.place)) small (subst (λ c. at c ≡ s + 1) own.0.place v.1))))

  same_place : (picks : ℕ → Bool) (s : ℕ) (kind : Kind) (m : FiniteMap) → picks s ≡ true → AreAlikeIn picks one two
      → IsMapOf kind start (words_of one) s m → IsMapOf kind start (words_of two) s m
  same_place picks s kind m picked alike held = by_blocks kind start s (words_of one) (words_of two) m (alike_blocks picks s picked alike) held

-- a structure of heaps that are alike in it holds the same map
pub alike_map : (picks : ℕ → Bool) (s : ℕ) (kind : Kind) (m : FiniteMap) (h k : Heap) → picks s ≡ true
    → h.start ≡ k.start → h.blocks ≡ k.blocks → AreAlikeIn picks h k
    → IsMapOf kind h.start (words_of h) s m → IsMapOf kind k.start (words_of k) s m
alike_map picks s kind m h k picked start blocks =
    subst (λ g. AreAlikeIn picks h g → IsMapOf kind h.start (words_of h) s m → IsMapOf kind g.start (words_of g) s m)
    (λ i. record { start = start i; blocks = blocks i; at = k.at })
    (same_place h.start h.blocks h.at k.at picks s kind m picked)

pub hold_alike : (picks : ℕ → Bool) (kinds : List Kind) (h k : Heap) (maps : Maps) → h.start ≡ k.start → h.blocks ≡ k.blocks
    → AreAlikeIn picks h k → HoldMaps picks kinds h maps → HoldMaps picks kinds k maps
hold_alike picks kinds h k maps start blocks alike held =
    λ s picked. alike_map picks s (kind_at kinds s) (maps s) h k picked start blocks alike (held s picked)

pub deeds_depend : (deed : MapDeed) (before after other_before other_after : Heap)
    → AreAlike deed.set before other_before → AreAlike deed.set after other_after
    → Means deed before after → Means deed other_before other_after
deeds_depend deed before after other_before other_after b a m = record {
  maps = m.maps;
  before_are = hold_alike (has_bit deed.set) deed.kinds before other_before _ b.start b.blocks b.inside m.before_are;
  after_are = hold_alike (has_bit deed.set) deed.kinds after other_after _ a.start a.blocks a.inside m.after_are;
  replies_are = m.replies_are;
}
