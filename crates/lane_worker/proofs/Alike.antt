-- Maps stay where the words of their structures' blocks stay.
use Rattle.std.proofs.Common.{◌≡◌, ◌≢◌, ℕ, ◌+◌, ◌-◌, ◌*◌, ◌%◌, ◌<◌, Bool, true, false, if◌then◌else◌, ◌==◌, nat_lt, List, [], refl, sym, subst, ◌∙◌, ap, arith, lt-ltb, ltb-true}
use Rattle.std.proofs.lemmas.Bool.Decides.{nat_tests}
use Rattle.persist_model.specs.Region.{Words}
use Rattle.lane_traits.specs.Draft.{is_among}
use Rattle.lane_types.specs.Heaps.{Heap, Holding, block_address, block_of, heap_of_holding, owner_of_held, value_of_held}
use Rattle.region_layout.specs.declared.layout.Kind.{Kind}
use Rattle.region_layout.specs.declared.layout.Kind.TheVariants.{Cells, Tree, Hash}
use Rattle.region_layout.specs.FiniteMap.{FiniteMap}
use Rattle.region_layout.specs.HeapBlocks.{OwnsAlike}
use Rattle.region_layout.specs.Contents.{IsMapOf}
use Rattle.region_layout.proofs.CellsLaws as cells
use Rattle.persist_tree.proofs.Lawful as tree
use Rattle.persist_hash.proofs.OneMap as hash
use Rattle.map_deeds.specs.Maps.{Maps}
use Rattle.map_deeds.specs.Meanings.{HoldMaps, words_of, kind_at}
use Rattle.lane_worker.specs.Shown.{with_change}

pub map_alike : (kind : Kind) (heap s : ℕ) (w u : Words) (m : FiniteMap) → OwnsAlike heap s w u → IsMapOf kind heap w s m → IsMapOf kind heap u s m
map_alike Cells heap s w u m alike h = cells.by_blocks heap s w u m alike h
map_alike Tree heap s w u m alike h = tree.by_blocks heap s w u m alike h
map_alike Hash heap s w u m alike h = hash.depends heap s w u m alike h

-- ---- a heap of what is held

pub at_block : (heap : Heap) (held : Holding) (n : ℕ) → (heap_of_holding heap held).at (block_address heap n) ≡ owner_of_held (held.owner n)
at_block heap held n =
    let number : block_of heap (block_address heap n) ≡ n = omega arith in
    let on : (((block_address heap n - heap.start) % 16) == 0) ≡ true = (let e : (block_address heap n - heap.start) % 16 ≡ 0 = omega arith in rw e refl) in
    rw on (ap (λ k. owner_of_held (held.owner k)) number)

pub word_off : (heap : Heap) (n i : ℕ) → 0 < i → i < 16 → (((block_address heap n + i - heap.start) % 16) == 0) ≡ false
word_off heap n i some small = (let e : (block_address heap n + i - heap.start) % 16 ≡ i = omega (arith, some, small) in rw e (grind (arith, nat_tests)))

pub at_word : (heap : Heap) (held : Holding) (n i : ℕ) → 0 < i → i < 16 → (heap_of_holding heap held).at (block_address heap n + i) ≡ value_of_held (held.word (block_address heap n + i))
at_word heap held n i some small = let off = word_off heap n i some small in rw off refl

-- ---- the words with nobody for some blocks

abbrev pub words_without : List ℕ → Heap → Holding → Words
words_without blocks heap held = words_of (with_change [] blocks (heap_of_holding heap held))

-- the owner of a block, or 0
abbrev pub owner_without : List ℕ → Heap → Holding → ℕ → ℕ
owner_without blocks heap held n = if is_among blocks (block_address heap n) then 0 else owner_of_held (held.owner n)

below_end : (heap : Heap) (n i : ℕ) → n < heap.blocks → i < 16 → nat_lt (block_address heap n + i) (heap.start + 16 * heap.blocks) ≡ true
below_end heap n i low small = lt-ltb (block_address heap n + i) (heap.start + 16 * heap.blocks) (omega (arith, low, small))

pub end_of : (t : Bool) (v k : ℕ) → (if t then v else 0) ≡ k + 1 → (t ≡ true) × (v ≡ k + 1)
end_of true v k e = (refl, e)
end_of false v k e = absurd (omega (arith, e))

pub among_of : (t : Bool) (v k : ℕ) → (if t then 0 else v) ≡ k + 1 → (t ≡ false) × (v ≡ k + 1)
among_of true v k e = absurd (omega (arith, e))
among_of false v k e = (refl, e)

pub owner_at : (blocks : List ℕ) (heap : Heap) (held : Holding) (n : ℕ)
    → words_without blocks heap held (block_address heap n) ≡ (if nat_lt (block_address heap n) (heap.start + 16 * heap.blocks) then owner_without blocks heap held n else 0)
owner_at blocks heap held n = ap (λ x. if nat_lt (block_address heap n) (heap.start + 16 * heap.blocks) then (if is_among blocks (block_address heap n) then 0 else x) else 0) (at_block heap held n)

pub below_blocks : (heap : Heap) (n : ℕ) → nat_lt (block_address heap n) (heap.start + 16 * heap.blocks) ≡ true → n < heap.blocks
below_blocks heap n on = let lt = ltb-true (block_address heap n) (heap.start + 16 * heap.blocks) on in omega (arith, lt)

-- both know the same of every block but one, which is nobody's
pub record IsBeside (heap : Heap) (one : ℕ) (held other : Holding) (blocks others : List ℕ) : Type 0 where
  pub owner : (n : ℕ) → n ≢ one → other.owner n ≡ held.owner n
  pub word : (n i : ℕ) → n ≢ one → 0 < i → i < 16 → other.word (block_address heap n + i) ≡ held.word (block_address heap n + i)
  pub among : (n : ℕ) → n ≢ one → is_among others (block_address heap n) ≡ is_among blocks (block_address heap n)
  pub nobody : (k : ℕ) → owner_without blocks heap held one ≡ k + 1 → ⊥
  pub nobody_there : (k : ℕ) → owner_without others heap other one ≡ k + 1 → ⊥
  pub plain : (n i : ℕ) → 0 < i → i < 16 → is_among blocks (block_address heap n + i) ≡ false
  pub plain_there : (n i : ℕ) → 0 < i → i < 16 → is_among others (block_address heap n + i) ≡ false

module _ (heap : Heap) (one : ℕ) (held other : Holding) (blocks others : List ℕ) (h : IsBeside heap one held other blocks others) where
  owner_same : (n : ℕ) → n ≢ one → owner_without others heap other n ≡ owner_without blocks heap held n
  owner_same n ne = ap (λ t. if t then 0 else owner_of_held (other.owner n)) (h.among n ne) ∙ ap (λ o. if is_among blocks (block_address heap n) then 0 else owner_of_held o) (h.owner n ne)

  -- what an owner word of the first says
  owner_tells : (n s : ℕ) → words_without blocks heap held (block_address heap n) ≡ s + 1 → (n < heap.blocks) × (n ≢ one) × (owner_without blocks heap held n ≡ s + 1)
  owner_tells n s e =
      let p = end_of (nat_lt (block_address heap n) (heap.start + 16 * heap.blocks)) (owner_without blocks heap held n) s (sym (owner_at blocks heap held n) ∙ e) in
      (below_blocks heap n p.0, (λ same. h.nobody s (subst (λ k. owner_without blocks heap held k ≡ s + 1) same p.1)), p.1)

  owner_tells_there : (n s : ℕ) → words_without others heap other (block_address heap n) ≡ s + 1 → (n < heap.blocks) × (n ≢ one) × (owner_without others heap other n ≡ s + 1)
  owner_tells_there n s e =
      let p = end_of (nat_lt (block_address heap n) (heap.start + 16 * heap.blocks)) (owner_without others heap other n) s (sym (owner_at others heap other n) ∙ e) in
      (below_blocks heap n p.0, (λ same. h.nobody_there s (subst (λ k. owner_without others heap other k ≡ s + 1) same p.1)), p.1)

  owner_there : (n : ℕ) → n < heap.blocks → words_without others heap other (block_address heap n) ≡ owner_without others heap other n
  owner_there n low = owner_at others heap other n ∙ ap (λ t. if t then owner_without others heap other n else 0)
      (lt-ltb (block_address heap n) (heap.start + 16 * heap.blocks) (omega (arith, low)))

  owner_here : (n : ℕ) → n < heap.blocks → words_without blocks heap held (block_address heap n) ≡ owner_without blocks heap held n
  owner_here n low = owner_at blocks heap held n ∙ ap (λ t. if t then owner_without blocks heap held n else 0)
      (lt-ltb (block_address heap n) (heap.start + 16 * heap.blocks) (omega (arith, low)))

  word_same : (n i : ℕ) → n ≢ one → 0 < i → i < 16 → words_without others heap other (block_address heap n + i) ≡ words_without blocks heap held (block_address heap n + i)
  word_same n i ne some small =
      ap (λ x. if nat_lt (block_address heap n + i) (heap.start + 16 * heap.blocks) then x else 0)
      (ap (λ t. if t then 0 else (heap_of_holding heap other).at (block_address heap n + i)) (h.plain_there n i some small)
      ∙ at_word heap other n i some small ∙ ap value_of_held (h.word n i ne some small) ∙ sym (at_word heap held n i some small)
      ∙ ap (λ t. if t then 0 else (heap_of_holding heap held).at (block_address heap n + i)) (sym (h.plain n i some small)))

  pub alike_beside : (s : ℕ) → OwnsAlike heap.start s (words_without blocks heap held) (words_without others heap other)
  alike_beside s = record {
    owned = λ b own.
        let place = own.0.place in
        let here = subst (λ a. words_without blocks heap held a ≡ s + 1) place own.1 in
        let told = owner_tells own.0.number s here in
        subst (λ a. words_without others heap other a ≡ s + 1) (sym place) (owner_there own.0.number told.0 ∙ owner_same own.0.number told.1 ∙ told.2);
    owned_back = λ b own.
        let place = own.0.place in
        let there = subst (λ a. words_without others heap other a ≡ s + 1) place own.1 in
        let told = owner_tells_there own.0.number s there in
        subst (λ a. words_without blocks heap held a ≡ s + 1) (sym place) (owner_here own.0.number told.0 ∙ sym (owner_same own.0.number told.1) ∙ told.2);
    words = λ b i own some small.
        let place = own.0.place in
        let here = subst (λ a. words_without blocks heap held a ≡ s + 1) place own.1 in
        let told = owner_tells own.0.number s here in
        subst (λ a. words_without others heap other (a + i) ≡ words_without blocks heap held (a + i)) (sym place) (word_same own.0.number i told.1 some small);
  }

  pub hold_beside : (picks : ℕ → Bool) (kinds : List Kind) (maps : Maps) → HoldMaps picks kinds (with_change [] blocks (heap_of_holding heap held)) maps
      → HoldMaps picks kinds (with_change [] others (heap_of_holding heap other)) maps
  hold_beside picks kinds maps hold s picked =
      map_alike (kind_at kinds s) heap.start s (words_without blocks heap held) (words_without others heap other) (maps s) (alike_beside s) (hold s picked)
