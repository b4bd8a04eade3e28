-- An abort gives back the blocks that its transaction took.
use Rattle.std.proofs.Common.{◌≡◌, ◌≢◌, inl, inr, ℕ, zero, suc, ◌+◌, ◌-◌, ◌*◌, ◌/◌, ◌%◌, ◌<◌, ◌≤◌, ◌==◌, ◌||◌, if◌then◌else◌, Bool, true, false, List, [], ◌∷◌, length, drop, get_or, add-one, slice_get, slice_set, None, refl, sym, ap, ◌∙◌, subst, arith}
use Rattle.std.proofs.Math.Seq.{drop-cons}
use Rattle.std.specs.List.{list_any}
use Rattle.lane_book.proofs.Strange.{drop_past}
use Rattle.std.proofs.lemmas.Bool.{false_from_ne_true}
use Rattle.std.proofs.lemmas.Bool.Decides.{eqb_tells, nat_tests}
use Rattle.persist_model.specs.Region.{Words, Region}
use Rattle.persist_model.specs.Records.{IsAmong}
use Rattle.persist_model.specs.Shape.{block, heap, IsHeapWord}
use Rattle.lane_traits.specs.declared.draft.WordWrite.{WordWrite}
use Rattle.region_layout.specs.declared.layout.Layout.{Layout}
use Rattle.region_layout.specs.Layout.{layout_shape, IsDataWord}
use Rattle.offset_alloc.specs.declared.Standing.{Standing}
use Rattle.offset_alloc.specs.declared.Standing.TheVariants.{Free}
use Rattle.offset_alloc.specs.Blocks.{IsFree}
use Rattle.lane_types.specs.Heaps.{Heap, block_address, names_in, has_bit}
use Rattle.lane_types.specs.Deeds.{Deeds}
use Rattle.lane_types.specs.Faces.{Base}
use Rattle.lane_book.specs.declared.book.Book.{Book}
use Rattle.lane_book.specs.declared.lane.Lane.{Lane}
use Rattle.lane_book.specs.FacesOf.{lane_at, begun_heap}
use Rattle.lane_book.specs.Lanes.{with_lane}
use Rattle.lane_book.proofs.Faces.{lane_at-same, lane_at-other}
use Rattle.lane_book.specs.Refusals.{owner_number, owner_seen, is_mine, block_in, AreHeapWords}
use Rattle.lawful_book.specs.LawfulBooks.{Each}
use Rattle.lawful_book.specs.OwnedLaws.{is_taken, AreLetGo}
use Rattle.lawful_book.proofs.Histories.{each_map}
use Rattle.lawful_book.specs.OwnedBooks.{owner_in, is_ours, IsOwnWrite}
use Rattle.lawful_book.proofs.OwnedHeaps.{never, by_bool, ours_apart, named_is}
use Rattle.lawful_book.proofs.OwnedWrites.{write_ours}
use Rattle.lawful_book.proofs.Showing.{bit_above}
use Rattle.log_keeper.specs.declared.keeper.LogKeeper.{LogKeeper}
use Rattle.txn_state.specs.BlockLaws.{IsNoLanes, IsUngiven}
use Rattle.txn_state.specs.Changes.{with_block}
use Rattle.txn_state.specs.States.{IsStateOf}
use Rattle.txn_state.specs.Ties.{IsWrittenWord}
use Rattle.txn_state.proofs.BlocksGo.{length_set, got_same, got_other, unseen, mine_other, blocks_go}
use Rattle.txn_state.proofs.HeapSteps.{written_heap}
use Rattle.txn_core.specs.Freeing.{is_owner, freed_one, freed, with_blocks}
use Rattle.txn_core.specs.LawfulWorlds.{NoRootIsFree, IsLawfulWorld}

-- each is of a word that a lane writes
abbrev pub AreWritten : Layout → List WordWrite → Type 0
AreWritten layout writes = Each (λ (w : WordWrite). IsWrittenWord (layout_shape layout) w.address) writes

pub each_of : (P : WordWrite → Type 0) (writes : List WordWrite) → ((w : WordWrite) → IsAmong writes w → P w) → Each P writes
each_of P [] all = tt
each_of P (w ∷ writes) all = (all w (inl refl), each_of P writes (λ v among. all v (inr among)))

pub in_heap : (layout : Layout) (writes : List WordWrite) → AreWritten layout writes → AreHeapWords layout writes
in_heap layout [] written = tt
in_heap layout (w ∷ writes) written = (written_heap (layout_shape layout) w.address written.0, in_heap layout writes written.1)

-- ---- owner words

on_boundary : (a h : ℕ) → h ≤ a → (a - h) % 16 ≡ 0 → a ≡ h + 16 * ((a - h) / 16)
on_boundary a h le is = omega (arith, le, is)

data_off : (layout : Layout) (a : ℕ) → IsDataWord (layout_shape layout) a → is_owner layout a ≡ false
data_off layout a on = elim (eqb_tells ((a - heap (layout_shape layout)) % 16) 0) [
  | inl is ↦ absurd (on.1 (on_boundary a (heap (layout_shape layout)) on.0.0 is.1))
  | inr off ↦ off.0
]

own_block : (h k : ℕ) → (h + 16 * k - h) / 16 ≡ k
own_block h k = omega arith

own_boundary : (h k : ℕ) → (h + 16 * k - h) % 16 ≡ 0
own_boundary h k = omega arith

owner_on : (layout : Layout) (a k : ℕ) → a ≡ block (layout_shape layout) k → is_owner layout a ≡ true
owner_on layout a k is = elim (eqb_tells ((a - heap (layout_shape layout)) % 16) 0) [
  | inl on ↦ on.0
  | inr off ↦ absurd (off.1 (ap (λ n. (n - heap (layout_shape layout)) % 16) is ∙ own_boundary (heap (layout_shape layout)) k))
]

owner_block_is : (layout : Layout) (a k : ℕ) → a ≡ block (layout_shape layout) k → block_in layout a ≡ k
owner_block_is layout a k is = ap (λ n. (n - heap (layout_shape layout)) / 16) is ∙ own_block (heap (layout_shape layout)) k

-- a written word that is an owner's is that of its block, which is no root
owner_at : (layout : Layout) (a : ℕ) → IsWrittenWord (layout_shape layout) a → is_owner layout a ≡ true → (a ≡ block (layout_shape layout) (block_in layout a)) × (layout.structures ≤ block_in layout a)
owner_at layout a (inl on) owner = absurd (never _ owner (data_off layout a on))
owner_at layout a (inr plain) owner =
    let same = owner_block_is layout a plain.0 plain.3 in
    (plain.3 ∙ ap (block (layout_shape layout)) (sym same), subst (λ n. layout.structures ≤ n) (sym same) plain.1)

-- ---- the blocks

set_if : (t : Bool) (blocks : List Standing) (k : ℕ) → length (if t then slice_set blocks k Free else blocks) ≡ length blocks
set_if true blocks k = length_set blocks k Free
set_if false blocks k = refl

pub length_freed : (layout : Layout) (writes : List WordWrite) (blocks : List Standing) → length (freed layout writes blocks) ≡ length blocks
length_freed layout [] blocks = refl
length_freed layout (w ∷ writes) blocks = length_freed layout writes _ ∙ set_if (is_owner layout w.address) blocks (block_in layout w.address)

free_if : (t : Bool) (blocks : List Standing) (b k : ℕ) → k < length blocks → IsFree blocks k → IsFree (if t then slice_set blocks b Free else blocks) k
free_if true blocks b k lt free = elim (eqb_tells k b) [
  | inl e ↦ subst (λ n. IsFree (slice_set blocks n Free) k) e.1 (got_same blocks k Free lt)
  | inr ne ↦ got_other blocks b k Free ne.1 ∙ free
]
free_if false blocks b k lt free = free

-- a free block stays free
stays_free : (layout : Layout) (writes : List WordWrite) (blocks : List Standing) (k : ℕ) → k < length blocks → IsFree blocks k → IsFree (freed layout writes blocks) k
stays_free layout [] blocks k lt free = free
stays_free layout (w ∷ writes) blocks k lt free = stays_free layout writes _ k
    (subst (λ n. k < n) (sym (set_if (is_owner layout w.address) blocks (block_in layout w.address))) lt)
    (free_if (is_owner layout w.address) blocks (block_in layout w.address) k lt free)

other_if : (t : Bool) (blocks : List Standing) (b k : ℕ) → (t ≡ true → k ≢ b) → slice_get (if t then slice_set blocks b Free else blocks) k ≡ slice_get blocks k
other_if true blocks b k ne = got_other blocks b k Free (ne refl)
other_if false blocks b k ne = refl

either_off : (s t : Bool) → (s || t) ≡ false → (s ≡ false) × (t ≡ false)
either_off true t e = cc
either_off false t e = (refl, e)

rest_on : (s t : Bool) → s ≡ false → (s || t) ≡ true → t ≡ true
rest_on true t off e = cc
rest_on false t off e = e

same_number : (m n : ℕ) → (m == n) ≡ true → m ≡ n
same_number m n e = grind (arith, nat_tests, e)

module _ (layout : Layout) (h : Heap) (start : h.start ≡ heap (layout_shape layout)) where
  address_is : (k : ℕ) → block_address h k ≡ block (layout_shape layout) k
  address_is k = ap (λ n. n + 16 * k) start

  taken_free : (writes : List WordWrite) (blocks : List Standing) (k : ℕ) → k < length blocks → is_taken h writes k ≡ true → IsFree (freed layout writes blocks) k
  taken_free [] blocks k lt taken = cc
  taken_free (w ∷ writes) blocks k lt taken = by_bool _ (w.address == block_address h k)
      (λ same. (let at = same_number w.address (block_address h k) same ∙ address_is k in
      stays_free layout writes _ k inside
      (subst (λ t. IsFree (if t then slice_set blocks (block_in layout w.address) Free else blocks) k) (sym (owner_on layout w.address k at))
      (subst (λ n. IsFree (slice_set blocks n Free) k) (sym (owner_block_is layout w.address k at)) (got_same blocks k Free lt)))))
      (λ other. taken_free writes _ k inside (rest_on _ _ other taken))
    where
      inside : k < length (if is_owner layout w.address then slice_set blocks (block_in layout w.address) Free else blocks)
      inside = subst (λ n. k < n) (sym (set_if (is_owner layout w.address) blocks (block_in layout w.address))) lt

  others_stay : (writes : List WordWrite) (blocks : List Standing) (k : ℕ) → AreWritten layout writes → is_taken h writes k ≡ false → slice_get (freed layout writes blocks) k ≡ slice_get blocks k
  others_stay [] blocks k written off = refl
  others_stay (w ∷ writes) blocks k written off =
      let parts = either_off _ _ off in
      others_stay writes _ k written.1 parts.1 ∙
      other_if (is_owner layout w.address) blocks (block_in layout w.address) k (λ owner e. never (w.address == block_address h k)
      (on_same w.address (block_address h k) ((owner_at layout w.address written.0 owner).0 ∙ ap (block (layout_shape layout)) (sym e) ∙ sym (address_is k))) parts.0)
    where
      on_same : (m n : ℕ) → m ≡ n → (m == n) ≡ true
      on_same m n e = grind (arith, nat_tests, e)

  pub let_go : (writes : List WordWrite) (blocks : List Standing) → length blocks ≡ layout.blocks → h.blocks ≡ layout.blocks → AreWritten layout writes → AreLetGo h writes blocks (freed layout writes blocks)
  let_go writes blocks many inside written = record {
    many = length_freed layout writes blocks;
    taken = λ k lt on. taken_free writes blocks k (omega (arith, lt, many, inside)) on;
    others = λ k off. others_stay writes blocks k written off;
  }

-- no root is among them
pub no_root_freed : (layout : Layout) (writes : List WordWrite) (blocks : List Standing) → AreWritten layout writes → NoRootIsFree layout.structures blocks → NoRootIsFree layout.structures (freed layout writes blocks)
no_root_freed layout [] blocks written none = none
no_root_freed layout (w ∷ writes) blocks written none = no_root_freed layout writes _ written.1 (λ k free. by_bool _ (is_owner layout w.address)
    (λ on. set_free k on (subst (λ t. IsFree (if t then slice_set blocks (block_in layout w.address) Free else blocks) k) on free))
    (λ off. none k (subst (λ t. IsFree (if t then slice_set blocks (block_in layout w.address) Free else blocks) k) off free)))
  where
    set_free : (k : ℕ) → is_owner layout w.address ≡ true → IsFree (slice_set blocks (block_in layout w.address) Free) k → layout.structures ≤ k
    set_free k on free = elim (eqb_tells k (block_in layout w.address)) [
      | inl e ↦ subst (λ n. layout.structures ≤ n) (sym e.1) (owner_at layout w.address written.0 on).1
      | inr ne ↦ none k (sym (got_other blocks (block_in layout w.address) k Free ne.1) ∙ free)
    ]

-- ---- the state

free_owner : (blocks : List Standing) (k : ℕ) → owner_number (slice_get (slice_set blocks k Free) k) ≡ 0
free_owner [] k = refl
free_owner (x ∷ blocks) zero = refl
free_owner (x ∷ blocks) (suc k) = free_owner blocks k

no_lanes_stay : {E : Type 0} (book : Book E) (k b : ℕ) → IsNoLanes book b → IsNoLanes (with_block k Free book) b
no_lanes_stay book k b none l lt = elim (eqb_tells b k) [
  | inl e ↦ unseen (slice_set book.blocks k Free) (lane_at book l) b (subst (λ n. owner_number (slice_get (slice_set book.blocks k Free) n) ≡ 0) (sym e.1) (free_owner book.blocks k))
  | inr ne ↦ mine_other book.blocks (lane_at book l) k b Free ne.1 ∙ none l lt
]

-- where no lane has the blocks, nor gave one
pub frees : {E : Type 0} (layout : Layout) (start : Words) (book : Book E) (keeper : LogKeeper) (region : Region) (spare events : ℕ) (writes : List WordWrite) →
    Each (λ (w : WordWrite). IsNoLanes book (block_in layout w.address)) writes → ((k : ℕ) → IsUngiven book k) →
    IsStateOf layout start book keeper region spare events → IsStateOf layout start (with_blocks (freed layout writes book.blocks) book) keeper region spare events
frees layout start book keeper region spare events [] none ungiven state = state
frees layout start book keeper region spare events (w ∷ writes) none ungiven state = by_bool _ (is_owner layout w.address)
    (λ on. at true on (frees layout start (with_block (block_in layout w.address) Free book) keeper region spare events writes
    (each_map (λ (v : WordWrite). IsNoLanes book (block_in layout v.address)) (λ (v : WordWrite). IsNoLanes (with_block (block_in layout w.address) Free book) (block_in layout v.address)) writes
    (λ v no. no_lanes_stay book (block_in layout w.address) (block_in layout v.address) no) none.1) ungiven
    (blocks_go layout start book keeper region spare events (block_in layout w.address) Free none.0 (inr (refl, ungiven (block_in layout w.address))) state)))
    (λ off. at false off (frees layout start book keeper region spare events writes none.1 ungiven state))
  where
    at : (t : Bool) → is_owner layout w.address ≡ t →
        IsStateOf layout start (with_blocks (freed layout writes (if t then slice_set book.blocks (block_in layout w.address) Free else book.blocks)) book) keeper region spare events →
        IsStateOf layout start (with_blocks (freed layout (w ∷ writes) book.blocks) book) keeper region spare events
    at t is = subst (λ (b : Bool). IsStateOf layout start (with_blocks (freed layout writes (if b then slice_set book.blocks (block_in layout w.address) Free else book.blocks)) book) keeper region spare events) (sym is)

-- no lane has a block of the writes behind the end of the lane whose they were
none_held : (n : ℕ) → names_in 0 n ≡ false
none_held n = false_from_ne_true _ (λ on. (let it = named_is 0 n on in never (has_bit 0 it.0) it.2 (bit_above 0 0 it.0 (omega arith) (omega arith))))

pub left_to_none : {E : Type 0} (deeds : Deeds E) (layout : Layout) (base : Base) (book : Book E) → IsLawfulWorld deeds layout base book → (l : ℕ) (lane : Lane E) → l < length book.lanes.items →
    lane.held ≡ 0 → (lane_at book l).entered ≡ false → Each (λ (w : WordWrite). IsNoLanes (with_lane book l lane None) (block_in layout w.address)) (lane_at book l).writes.items
left_to_none {E} deeds layout base book was l lane lt none new =
    each_map (IsOwnWrite old.held base.heap (begun_heap base book.history.items old).at book.blocks) (λ (w : WordWrite). IsNoLanes (with_lane book l lane None) (block_in layout w.address)) old.writes.items
    (λ w own. nobodys (block_in layout w.address) (subst (λ n. is_ours old.held book.blocks n ≡ true) (ap (λ n. (w.address - n) / 16) was.owned.place.start)
    (write_ours old.held base.heap (begun_heap base book.history.items old).at book.blocks w own))) ((was.owned.lanes l).open_is new).writes_are
  where
    old : Lane E
    old = lane_at book l

    mine_is : (k b : ℕ) → is_mine book.blocks (lane_at book k) b ≡ is_ours (lane_at book k).held book.blocks b
    mine_is k b = ap (λ (gs : List ℕ). names_in (lane_at book k).held (if list_any (λ given. b == given) gs then 0 else owner_in book.blocks b)) (was.no_gives k)

    nobodys : (b : ℕ) → is_ours old.held book.blocks b ≡ true → IsNoLanes (with_lane book l lane None) b
    nobodys b ours k inside = elim (eqb_tells k l) [
      | inl e ↦ ap (λ n. is_mine book.blocks (lane_at (with_lane book l lane None) n) b) e.1 ∙ ap (λ (x : Lane _). is_mine book.blocks x b) (lane_at-same book l lane None lt) ∙
          ap (λ n. names_in n (owner_seen book.blocks lane b)) none ∙ none_held (owner_seen book.blocks lane b)
      | inr ne ↦ ap (λ (x : Lane _). is_mine book.blocks x b) (lane_at-other book l k lane None ne.1) ∙ mine_is k b ∙
          ours_apart (lane_at book k).held old.held book.blocks b (λ s on. was.owned.apart l k s (λ same. ne.1 (sym same)) on) ours
    ]

pub none_ungiven : {E : Type 0} (book : Book E) → ((k : ℕ) → (lane_at book k).gives.items ≡ []) → (b : ℕ) → IsUngiven book b
none_ungiven book none b l lt among = subst (λ (gs : List ℕ). IsAmong gs b) (none l) among

-- ---- the loop

-- what is left to free completes the whole
pub record IsFreeing (layout : Layout) (writes : List WordWrite) (first blocks : List Standing) (i : ℕ) : Type 0 where
  pub inside : AreHeapWords layout (drop i writes)
  pub many : length blocks ≡ layout.blocks
  pub whole : freed layout (drop i writes) blocks ≡ freed layout writes first

pub freeing_head : (layout : Layout) (writes : List WordWrite) (first blocks : List Standing) (i : ℕ) (d : WordWrite) → IsFreeing layout writes first blocks i → i < length writes →
    IsHeapWord (layout_shape layout) (get_or writes i d).address
freeing_head layout writes first blocks i d freeing lt = (subst (AreHeapWords layout) (drop-cons writes i d lt) freeing.inside).0

pub freeing_next : (layout : Layout) (writes : List WordWrite) (first blocks later : List Standing) (i : ℕ) (d : WordWrite) → IsFreeing layout writes first blocks i → i < length writes →
    later ≡ freed_one layout (get_or writes i d).address blocks → IsFreeing layout writes first later (i + 1)
freeing_next layout writes first blocks later i d freeing lt is = subst (IsFreeing layout writes first later) (sym (add-one i)) (record {
  inside = (subst (AreHeapWords layout) (drop-cons writes i d lt) freeing.inside).1;
  many = ap (λ bs. length bs) is ∙ set_if (is_owner layout (get_or writes i d).address) blocks (block_in layout (get_or writes i d).address) ∙ freeing.many;
  whole = ap (freed layout (drop (suc i) writes)) is ∙ ap (λ ws. freed layout ws blocks) (sym (drop-cons writes i d lt)) ∙ freeing.whole;
})

pub freeing_end : (layout : Layout) (writes : List WordWrite) (first blocks : List Standing) (i : ℕ) → IsFreeing layout writes first blocks i → length writes ≤ i → blocks ≡ freed layout writes first
freeing_end layout writes first blocks i freeing le = ap (λ ws. freed layout ws blocks) (sym (drop_past i writes le)) ∙ freeing.whole

pub in_blocks : (layout : Layout) (a : ℕ) → IsHeapWord (layout_shape layout) a → (a - heap (layout_shape layout)) / 16 < layout.blocks
in_blocks layout a on = (let le = on.0 in let lt = on.1 in small a (heap (layout_shape layout)) layout.blocks le lt)
  where
    small : (a h n : ℕ) → h ≤ a → a < h + 16 * n → (a - h) / 16 < n
    small a h n le lt = omega (arith, le, lt)
